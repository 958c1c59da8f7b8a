use Rattle.std.proofs.Common.{◌≡◌, [], length}
use Rattle.part_text.specs.Extents.{backs_len}
use Rattle.part_text.specs.Remainders.{scope_open}
use Rattle.part_text.proofs.open.open_scope.Given as goal

abbrev pub invariant-loop-extent : goal.invariant-loop-extent
invariant-loop-extent l = record {
  end : l.end ≡ backs_len l.left;
  found : scope_open l.left l.backs [] ≡ scope_open l.extents l.backs [];
}

abbrev pub decreases-loop-extent : goal.decreases-loop-extent
decreases-loop-extent l = length l.left
