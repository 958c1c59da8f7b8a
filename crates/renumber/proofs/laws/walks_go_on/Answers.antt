use Rattle.renumber.proofs.Marks.{walk_itself, walk_moves, walk_over}
use Rattle.renumber.proofs.laws.walks_go_on.Goals as goal

pub returns : goal.returns
returns c = record { same = walk_itself; over = walk_over; moves = walk_moves }
