use Rattle.schema_laws.proofs.ReadFits.{spelled_apart}
use Rattle.schema_laws.proofs.spelling.spellings_tell_values_apart.Goals as goal

pub returns : goal.returns
returns c = spelled_apart
