use Rattle.std.proofs.Common.{refl, ◌∙◌}
use Rattle.std.proofs.lemmas.Result.{on_ok_weaker, on_err_weaker}
use Rattle.part_text.specs.declared.extent.Extent.TheVariants as extents
use Rattle.draft_records.specs.declared.kept.Kept.{Kept}
use Rattle.draft_records.proofs.Growth.{awaits, added, resource_part}
use Rattle.draft_records.proofs.kept.begin_resource.Goals as goal

pub add_extent-requires : goal.add_extent-requires
add_extent-requires g c =
    let o : Kept = c.args.kept.now in
    let k : Kept = record { extents = o.extents; texts = c.put_head.new.texts; backs = c.put_head.new.backs; totals = o.totals; places = o.places } in
    let f = c.in_ok-front.ensures.front in
    let b = c.in_ok-front.ensures.back in
    let w = awaits o k (extents.Resource c.in_ok-front.front c.in_ok-front.back) _ _ c.requires.kept refl f.is b.is refl refl f.count b.count in
    w.awaiting

pub returns-clause-ok : goal.returns-clause-ok
returns-clause-ok g c =
    let o : Kept = c.args.kept.now in
    let k : Kept = record { extents = o.extents; texts = c.put_head.new.texts; backs = c.put_head.new.backs; totals = o.totals; places = o.places } in
    let f = c.in_ok-front.ensures.front in
    let b = c.in_ok-front.ensures.back in
    let w = awaits o k (extents.Resource c.in_ok-front.front c.in_ok-front.back) _ _ c.requires.kept refl f.is b.is refl refl f.count b.count in
    on_ok_weaker c.add_extent.result (λ e. added o k c.add_extent.new.kept _ _ _ _ w (resource_part _ _ _ _ f.count b.count) e) c.add_extent.ensures.ok

pub returns-clause-same : goal.returns-clause-same
returns-clause-same g c =
    let o : Kept = c.args.kept.now in
    let k : Kept = record { extents = o.extents; texts = c.put_head.new.texts; backs = c.put_head.new.backs; totals = o.totals; places = o.places } in
    let f = c.in_ok-front.ensures.front in
    let b = c.in_ok-front.ensures.back in
    let w = awaits o k (extents.Resource c.in_ok-front.front c.in_ok-front.back) _ _ c.requires.kept refl f.is b.is refl refl f.count b.count in
    on_err_weaker c.add_extent.result (λ e. e ∙ w.parts) c.add_extent.ensures.same
