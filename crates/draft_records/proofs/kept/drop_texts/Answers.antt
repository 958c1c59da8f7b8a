use Rattle.std.proofs.Common.{refl, take, ap, ◌∙◌, arith}
use Rattle.draft_records.specs.declared.kept.Kept.{Kept}
use Rattle.draft_records.proofs.Growth.{dropped}
use Rattle.draft_records.proofs.kept.drop_texts.Goals as goal

pub returns-clause-kept : goal.returns-clause-kept
returns-clause-kept c =
    let o : Kept = c.args.kept.now in
    let k : Kept = record { extents = o.extents; texts = c.truncate.new.self; backs = c.truncate-2.new.self; totals = o.totals; places = o.places } in
    (dropped o k c.args.extent c.requires refl
    (c.truncate.ensures ∙ ap (λ n. take n o.texts) (omega (arith, c.len.ensures, c.lens-front.ensures.front)))
    (c.truncate-2.ensures ∙ ap (λ n. take n o.backs) (omega (arith, c.len-2.ensures, c.lens-front.ensures.back))) refl refl).kept

pub returns-clause-same : goal.returns-clause-same
returns-clause-same c =
    let o : Kept = c.args.kept.now in
    let k : Kept = record { extents = o.extents; texts = c.truncate.new.self; backs = c.truncate-2.new.self; totals = o.totals; places = o.places } in
    (dropped o k c.args.extent c.requires refl
    (c.truncate.ensures ∙ ap (λ n. take n o.texts) (omega (arith, c.len.ensures, c.lens-front.ensures.front)))
    (c.truncate-2.ensures ∙ ap (λ n. take n o.backs) (omega (arith, c.len-2.ensures, c.lens-front.ensures.back))) refl refl).parts
