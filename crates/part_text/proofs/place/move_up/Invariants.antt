use Rattle.std.proofs.Common.{◌≡◌, ◌+◌, ◌≤◌, length, take, drop}
use Rattle.part_text.specs.Writes.{IsPutBefore}
use Rattle.part_text.proofs.place.move_up.Given as goal

abbrev pub invariant-loop-left : goal.invariant-loop-left
invariant-loop-left l = record {
  within : l.left ≤ l.len;
  moved : IsPutBefore l.fn.bytes l.bytes (drop l.left (take l.len (drop l.from l.fn.bytes))) (l.start + l.left) l.end;
  block : length l.block ≡ length l.fn.block;
}

abbrev pub decreases-loop-left : goal.decreases-loop-left
decreases-loop-left l = l.left
