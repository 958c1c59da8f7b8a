use Rattle.schema_laws.proofs.AnyReadingBack.{any_again}
use Rattle.schema_laws.proofs.any.any_reads_back.Goals as goal

pub returns : goal.returns
returns c = any_again
