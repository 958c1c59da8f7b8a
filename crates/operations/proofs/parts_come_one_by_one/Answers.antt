use Rattle.std.proofs.Common.{refl, length, take}
use Rattle.operations.specs.Cuts.{size_of}
use Rattle.operations.proofs.Longest.{parts-next, first-between, longest-fits}
use Rattle.operations.proofs.parts_come_one_by_one.Goals as goal

pub returns : goal.returns
returns c = record {
  none = λ limit. refl;
  next = parts-next;
  between = first-between;
  size = λ limit l. longest-fits limit (λ n. size_of (take n l)) (length l);
}
