use Rattle.std.proofs.Common.{map, take}
use Rattle.renumber.specs.Walk.{Moves, WalkedEach}
use Rattle.renumber.proofs.walk.Walk.each.Given as goal

-- the elements so far were walked over
abbrev pub invariant-loop-item : goal.invariant-loop-item
invariant-loop-item g l = record {
  moves : Moves g.T.Rows.shape 0 l.fn.self l.self l.fn.steps l.steps;
  walked : WalkedEach g.T.Rows.shape l.fn.self l.self (map g.T.Rows.view (take l.item-index l.items));
}
