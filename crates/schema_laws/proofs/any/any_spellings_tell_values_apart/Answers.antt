use Rattle.schema_laws.proofs.AnyReadingBack.{any_apart}
use Rattle.schema_laws.proofs.any.any_spellings_tell_values_apart.Goals as goal

pub returns : goal.returns
returns c = any_apart
