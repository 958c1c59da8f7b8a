use Rattle.meaning.proofs.Memo.{met_written}
use Rattle.meaning.proofs.moving.met_is_written.Goals as goal

pub returns : goal.returns
returns c = met_written
