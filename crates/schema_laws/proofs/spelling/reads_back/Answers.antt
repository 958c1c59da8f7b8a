use Rattle.schema_laws.proofs.ReadingBack.{reads_back}
use Rattle.schema_laws.proofs.spelling.reads_back.Goals as goal

pub returns : goal.returns
returns c = reads_back
