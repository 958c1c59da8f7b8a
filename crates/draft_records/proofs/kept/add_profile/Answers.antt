use Rattle.std.proofs.Common.{refl, sym, ◌∙◌, []}
use Rattle.std.proofs.lemmas.List.{append-nil}
use Rattle.std.proofs.lemmas.Result.{on_ok_weaker, on_err_weaker}
use Rattle.part_text.specs.declared.extent.Extent.TheVariants as extents
use Rattle.draft_records.specs.declared.kept.Kept.{Kept}
use Rattle.draft_records.proofs.Growth.{awaits, added, profile_part}
use Rattle.draft_records.proofs.kept.add_profile.Goals as goal

pub add_extent-requires : goal.add_extent-requires
add_extent-requires g c =
    let o : Kept = c.args.kept.now in
    let k : Kept = record { extents = o.extents; texts = c.put_profile.new.texts; backs = o.backs; totals = o.totals; places = o.places } in
    let t = c.in_ok-len.ensures.ok in
    let w = awaits o k (extents.Profile c.in_ok-len.len) _ [] c.requires.kept refl t.is (sym (append-nil o.backs)) refl refl t.count refl in
    w.awaiting

pub returns-clause-ok : goal.returns-clause-ok
returns-clause-ok g c =
    let o : Kept = c.args.kept.now in
    let k : Kept = record { extents = o.extents; texts = c.put_profile.new.texts; backs = o.backs; totals = o.totals; places = o.places } in
    let t = c.in_ok-len.ensures.ok in
    let w = awaits o k (extents.Profile c.in_ok-len.len) _ [] c.requires.kept refl t.is (sym (append-nil o.backs)) refl refl t.count refl in
    on_ok_weaker c.add_extent.result (λ e. added o k c.add_extent.new.kept _ _ _ _ w (profile_part _ _ [] t.count) e) c.add_extent.ensures.ok

pub returns-clause-same : goal.returns-clause-same
returns-clause-same g c =
    let o : Kept = c.args.kept.now in
    let k : Kept = record { extents = o.extents; texts = c.put_profile.new.texts; backs = o.backs; totals = o.totals; places = o.places } in
    let t = c.in_ok-len.ensures.ok in
    let w = awaits o k (extents.Profile c.in_ok-len.len) _ [] c.requires.kept refl t.is (sym (append-nil o.backs)) refl refl t.count refl in
    on_err_weaker c.add_extent.result (λ e. e ∙ w.parts) c.add_extent.ensures.same
