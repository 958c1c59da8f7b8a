use Rattle.std.proofs.Common.{take, ap, ◌∙◌}
use Rattle.draft_records.specs.Marks.{Mark}
use Rattle.draft_records.specs.declared.kept.Kept.{Kept}
use Rattle.draft_records.proofs.Growth.{back}
use Rattle.draft_records.proofs.kept.back_to.Goals as goal

pub returns-clause-kept : goal.returns-clause-kept
returns-clause-kept c =
    let k : Kept = record { extents = c.truncate.new.self; texts = c.truncate-2.new.self; backs = c.truncate-3.new.self; totals = c.mark.inside.totals; places = c.mark.inside.places } in
    (back c.args.mark c.args.kept.now k c.requires.kept c.requires.mark
    (c.truncate.ensures.items ∙ ap (λ (m : Mark). take m.extents c.args.kept.now.extents.items) c.mark.view_is)
    (c.truncate-2.ensures ∙ ap (λ (m : Mark). take m.texts c.args.kept.now.texts) c.mark.view_is)
    (c.truncate-3.ensures ∙ ap (λ (m : Mark). take m.backs c.args.kept.now.backs) c.mark.view_is)
    (ap (λ (m : Mark). m.totals) c.mark.view_is) (ap (λ (m : Mark). m.places) c.mark.view_is)).kept

pub returns-clause-back : goal.returns-clause-back
returns-clause-back c =
    let k : Kept = record { extents = c.truncate.new.self; texts = c.truncate-2.new.self; backs = c.truncate-3.new.self; totals = c.mark.inside.totals; places = c.mark.inside.places } in
    (back c.args.mark c.args.kept.now k c.requires.kept c.requires.mark
    (c.truncate.ensures.items ∙ ap (λ (m : Mark). take m.extents c.args.kept.now.extents.items) c.mark.view_is)
    (c.truncate-2.ensures ∙ ap (λ (m : Mark). take m.texts c.args.kept.now.texts) c.mark.view_is)
    (c.truncate-3.ensures ∙ ap (λ (m : Mark). take m.backs c.args.kept.now.backs) c.mark.view_is)
    (ap (λ (m : Mark). m.totals) c.mark.view_is) (ap (λ (m : Mark). m.places) c.mark.view_is)).parts
