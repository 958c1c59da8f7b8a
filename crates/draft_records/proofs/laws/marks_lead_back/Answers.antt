use Rattle.std.proofs.lemmas.List.{take-append-le, take-take}
use Rattle.draft_records.proofs.Marks.{cut-more, cut-fewer, cut-marked, take-marked}
use Rattle.draft_records.proofs.laws.marks_lead_back.Goals as goal

pub returns : goal.returns
returns c = record {
  back = λ m ps more i. (cut-marked m ps more i, take-marked m ps more i);
  stays = λ m ps more i. (cut-more m ps more i, take-append-le m.extents ps more i.within);
  cut = λ m ps n l i. (cut-fewer m ps n l i, take-take m.extents n ps l);
}
