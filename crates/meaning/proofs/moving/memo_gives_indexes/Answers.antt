use Rattle.meaning.proofs.Memo.{memo_gives}
use Rattle.meaning.proofs.moving.memo_gives_indexes.Goals as goal

pub returns : goal.returns
returns c = memo_gives
