use Rattle.meaning.proofs.Memo.{known_renumbered}
use Rattle.meaning.proofs.moving.moved_is_renumbered.Goals as goal

pub returns : goal.returns
returns c = known_renumbered
