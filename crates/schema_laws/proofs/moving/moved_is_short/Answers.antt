use Rattle.schema_laws.proofs.MovedLengths.{moved_fits, moved_short}
use Rattle.schema_laws.proofs.moving.moved_is_short.Goals as goal

pub returns-clause-short : goal.returns-clause-short
returns-clause-short c = moved_short

pub returns-clause-fits : goal.returns-clause-fits
returns-clause-fits c = moved_fits
