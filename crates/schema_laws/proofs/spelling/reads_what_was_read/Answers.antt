use Rattle.schema_laws.proofs.ReadFits.{read_again}
use Rattle.schema_laws.proofs.spelling.reads_what_was_read.Goals as goal

pub returns : goal.returns
returns c = read_again
