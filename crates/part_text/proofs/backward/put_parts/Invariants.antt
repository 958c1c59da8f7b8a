use Rattle.std.proofs.Common.{◌≡◌, length}
use Rattle.part_text.proofs.Positions.{IsUnderWay}
use Rattle.part_text.proofs.backward.put_parts.Given as goal

abbrev pub invariant-loop-extent : goal.invariant-loop-extent
invariant-loop-extent l = record {
  way : IsUnderWay l.fn.bytes l.backs l.end l.extents l.bytes l.left l.front l.back l.at.put l.at.scope l.at.resource;
  block : length l.block ≡ 4096;
}

abbrev pub decreases-loop-extent : goal.decreases-loop-extent
decreases-loop-extent l = length l.left
