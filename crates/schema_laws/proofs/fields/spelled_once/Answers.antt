use Rattle.schema_laws.proofs.FieldLists.{one_spelling}
use Rattle.schema_laws.proofs.fields.spelled_once.Goals as goal

pub returns : goal.returns
returns c = one_spelling
