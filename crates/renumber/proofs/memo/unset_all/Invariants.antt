use Rattle.std.proofs.Common.{◌≡◌, ◌-◌, length, map, take}
use Rattle.renumber.specs.Memos.{unset_each}
use Rattle.renumber.proofs.memo.unset_all.Given as goal

-- with the spots that are left, all are unset
abbrev pub invariant-loop-done : goal.invariant-loop-done
invariant-loop-done l = record {
  seven : length l.tables ≡ 7;
  rest : unset_each (take (length l.spots - l.done) l.spots) (map (λ new_indexes. new_indexes.items) l.tables) ≡ unset_each l.spots (map (λ new_indexes. new_indexes.items) l.initial.tables);
}
