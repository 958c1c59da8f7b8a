use Rattle.std.proofs.Common.{◌≡◌, map, take}
use Rattle.renumber.proofs.Beginning.{none_of}
use Rattle.renumber.proofs.memo.Memo.none.Given as goal

-- so many tables by now, with so many entries, none of which was met
abbrev pub invariant-loop-len : goal.invariant-loop-len
invariant-loop-len l = map (λ new_indexes. new_indexes.items) l.tables.items ≡ none_of (take l.len-index l.len-items)
