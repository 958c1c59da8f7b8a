use Rattle.std.proofs.Common.{refl, []}
use Rattle.operations.specs.Seams.{same_head, joined_resource}
use Rattle.operations.proofs.Joining.{joining-none, joining-between, join-more}
use Rattle.operations.proofs.seams_join_neighbours.Goals as goal

pub returns : goal.returns
returns c = record {
  first = λ b. refl;
  last = joining-none same_head joined_resource;
  between = joining-between same_head joined_resource;
  none = refl;
  single = λ m. refl;
  more = λ ms m. join-more ms m [];
}
