use Rattle.std.proofs.Common.{map, take}
use Rattle.renumber.specs.Entries.{index_into}
use Rattle.renumber.specs.Walk.{Moves, WalkedEach}
use Rattle.renumber.proofs.walk.Walk.indexes.Given as goal

-- the indexes so far are known
abbrev pub invariant-loop-index : goal.invariant-loop-index
invariant-loop-index g l = record {
  moves : Moves (index_into g.E.Entry.table) 0 l.fn.self l.self l.fn.steps l.steps;
  walked : WalkedEach (index_into g.E.Entry.table) l.fn.self l.self (map (λ i. i) (take l.index-index l.indexes));
}
