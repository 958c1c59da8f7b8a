use Rattle.std.proofs.Common.{length, take, arith}
use Rattle.operations.specs.Cuts.{size_of}
use Rattle.operations.proofs.Longest.{longest-is, longest-late, cut-next, cut-fits, cut-all}
use Rattle.operations.proofs.parts_are_longest.Goals as goal

pub returns : goal.returns
returns c = record {
  ends = longest-is;
  late = λ limit l. longest-late limit (λ n. size_of (take n l)) (length l);
  next = cut-next;
  fit = λ limit l. cut-fits (length l) limit l;
  all = λ limit l. cut-all (length l) limit l (omega arith);
}
