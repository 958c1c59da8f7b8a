-- Lists that can be cut back to marks.
use Rattle.std.proofs.Common.{◌≡◌, ℕ, ◌≤◌, List, ◌++◌, take, sym, subst, arith, length-append}
use Rattle.std.proofs.lemmas.List.{take-append-le, take-take, length-take, take_at}
use Rattle.parts.specs.Parts.{RecordPart}
use Rattle.draft_records.specs.Marks.{Mark, CanBeCut, IsMark}

pub cut-more : (m : Mark) (ps more : List RecordPart) → CanBeCut m ps → CanBeCut m (ps ++ more)
cut-more m ps more c = record {
  within = omega (arith, c.within, length-append ps more);
  mark = subst (IsMark m) (sym (take-append-le m.extents ps more c.within)) c.mark;
}

pub cut-fewer : (m : Mark) (ps : List RecordPart) (n : ℕ) → m.extents ≤ n → CanBeCut m ps → CanBeCut m (take n ps)
cut-fewer m ps n l c = record {
  within = omega (arith, c.within, length-take n ps);
  mark = subst (IsMark m) (sym (take-take m.extents n ps l)) c.mark;
}

pub take-marked : (m : Mark) (ps more : List RecordPart) → IsMark m ps → take m.extents (ps ++ more) ≡ ps
take-marked m ps more i = take_at ps more m.extents (sym i.extents)

pub cut-marked : (m : Mark) (ps more : List RecordPart) → IsMark m ps → CanBeCut m (ps ++ more)
cut-marked m ps more i = record {
  within = omega (arith, i.extents, length-append ps more);
  mark = subst (IsMark m) (sym (take-marked m ps more i)) i;
}
