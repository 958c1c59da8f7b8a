use Rattle.std.proofs.Common.{refl, arith}
use Rattle.draft_records.specs.Marks.{Mark}
use Rattle.draft_records.proofs.Growth.{marked}
use Rattle.draft_records.proofs.kept.mark.Goals as goal

pub returns : goal.returns
returns c =
    let m : Mark = record { extents = c.len.result; texts = c.len-2.result; backs = c.len-3.result; totals = c.args.kept.now.totals; places = c.args.kept.now.places } in
    marked m c.args.kept.now c.requires (omega (arith, c.len.ensures, c.args.kept.now.extents.ok.0)) c.len-2.ensures c.len-3.ensures refl refl
