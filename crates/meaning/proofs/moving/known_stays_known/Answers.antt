use Rattle.meaning.proofs.Memo.{known_stays}
use Rattle.meaning.proofs.moving.known_stays_known.Goals as goal

pub returns : goal.returns
returns c = known_stays
