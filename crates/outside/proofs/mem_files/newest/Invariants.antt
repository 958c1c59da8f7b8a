use Rattle.std.proofs.Common.{◌≡◌}
use Rattle.std.specs.Ordering.{nat_cmp}
use Rattle.std.specs.Cmp.Lexicographic.{slice_cmp}
use Rattle.std.specs.FinMap.{find}
use Rattle.std.specs.VecDeque.Iter.{deque_iter_rest}
use Rattle.outside.proofs.mem_files.newest.Given as goal

abbrev pub invariant-loop-held : goal.invariant-loop-held
invariant-loop-held l = find (slice_cmp nat_cmp) l.name l.writes.items ≡ find (slice_cmp nat_cmp) l.name (deque_iter_rest l.held-iterator)
