use Rattle.schema_laws.proofs.AnyLists.{any_len}
use Rattle.schema_laws.proofs.any.any_spelling_has_its_length.Goals as goal

pub returns : goal.returns
returns c = any_len
