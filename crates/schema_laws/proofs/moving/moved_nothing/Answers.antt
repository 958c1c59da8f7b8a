use Rattle.schema_laws.proofs.MovedValues.{moved_same}
use Rattle.schema_laws.proofs.moving.moved_nothing.Goals as goal

pub returns : goal.returns
returns c = moved_same
