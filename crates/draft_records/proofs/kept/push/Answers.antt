use Rattle.std.proofs.Common.{refl, drop, arith, length-drop}
use Rattle.part_text.specs.Extents.{fronts_len, backs_len}
use Rattle.draft_records.specs.declared.kept.Kept.{Kept}
use Rattle.draft_records.proofs.Growth.{grown}
use Rattle.draft_records.proofs.kept.push.Goals as goal

pub returns-clause-kept : goal.returns-clause-kept
returns-clause-kept c =
    let o : Kept = c.args.kept.now in
    let k : Kept = record { extents = c.push.new.self; texts = o.texts; backs = o.backs; totals = c.in_ok-totals.totals; places = c.places_with-kept.result } in
    let t = length-drop (fronts_len o.extents.items) o.texts in
    let u = length-drop (backs_len o.extents.items) o.backs in
    (grown o k c.args.extent _ _ c.requires c.in_ok-push.ensures.items refl refl
    (c.in_ok-totals.ensures (drop (fronts_len o.extents.items) o.texts) (drop (backs_len o.extents.items) o.backs) (omega (arith, c.requires.texts)) (omega (arith, c.requires.backs)))
    c.places_with-kept.ensures
    (omega (arith, c.len.ensures, c.lens-front.ensures.front, c.requires.texts)) (omega (arith, c.len-2.ensures, c.lens-front.ensures.back, c.requires.backs))).kept

pub returns-clause-ok : goal.returns-clause-ok
returns-clause-ok c =
    let o : Kept = c.args.kept.now in
    let k : Kept = record { extents = c.push.new.self; texts = o.texts; backs = o.backs; totals = c.in_ok-totals.totals; places = c.places_with-kept.result } in
    let t = length-drop (fronts_len o.extents.items) o.texts in
    let u = length-drop (backs_len o.extents.items) o.backs in
    (grown o k c.args.extent _ _ c.requires c.in_ok-push.ensures.items refl refl
    (c.in_ok-totals.ensures (drop (fronts_len o.extents.items) o.texts) (drop (backs_len o.extents.items) o.backs) (omega (arith, c.requires.texts)) (omega (arith, c.requires.backs)))
    c.places_with-kept.ensures
    (omega (arith, c.len.ensures, c.lens-front.ensures.front, c.requires.texts)) (omega (arith, c.len-2.ensures, c.lens-front.ensures.back, c.requires.backs))).parts
