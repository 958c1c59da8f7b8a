use Rattle.std.proofs.Common.{◌≡◌, ◌++◌, ◌%◌, length}
use Rattle.schema.specs.Merge.{packed_fixed}
use Rattle.pb_wire.proofs.take.add_packed_fixed.Given as goal

abbrev pub invariant-loop-front : goal.invariant-loop-front
invariant-loop-front l = record { whole : length l.rest % 8 ≡ 0; same : l.slot ++ packed_fixed l.rest ≡ l.initial.slot ++ packed_fixed l.bytes }

abbrev pub decreases-loop-front : goal.decreases-loop-front
decreases-loop-front l = length l.rest
