use Rattle.std.proofs.Common.{◌≡◌, ◌≤◌, [], length}
use Rattle.part_text.specs.Extents.{backs_len}
use Rattle.part_text.specs.Remainders.{resource_open}
use Rattle.part_text.proofs.open.open_resource.Given as goal

abbrev pub invariant-loop-extent : goal.invariant-loop-extent
invariant-loop-extent l = record {
  last : l.last ≡ backs_len l.left;
  within : l.last ≤ length l.backs;
  found : resource_open l.left l.backs [] ≡ resource_open l.extents l.backs [];
}

abbrev pub decreases-loop-extent : goal.decreases-loop-extent
decreases-loop-extent l = length l.left
