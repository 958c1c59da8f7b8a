use Rattle.std.proofs.Common.{◌≡◌, ◌∙◌, ap, sym, arith, length, take, drop}
use Rattle.part_text.proofs.Endings.{held_parts, whole_text, all_written}
use Rattle.part_text.proofs.Remainders.{whole_least}
use Rattle.part_text.proofs.whole.into_whole_text.Goals as goal

pub opened-requires : goal.opened-requires
opened-requires g c =
    omega (arith, c.requires.fronts, c.requires.len, whole_least c.args.extents.now c.args.texts c.args.backs.now (omega (arith, c.requires.fronts)))

pub put_parts-requires-clause-size : goal.put_parts-requires-clause-size
put_parts-requires-clause-size g c =
    let t : take (length c.args.texts) c.deref_mut.result.now ≡ c.args.texts =
    ap (take (length c.args.texts)) (c.deref_mut.ensures.value ∙ c.into_vec-bytes.ensures) ∙ c.in-Ok.ensures.texts in
    c.requires.len ∙ sym (ap length (held_parts c.args.extents.now c.args.backs.now c.args.texts c.deref_mut.result.now c.requires.fronts t))

pub returns-in-Ok-clause-ok : goal.returns-in-Ok-clause-ok
returns-in-Ok-clause-ok g c =
    let held = c.deref_mut.result.now in
    let t : take (length c.args.texts) held ≡ c.args.texts =
    ap (take (length c.args.texts)) (c.deref_mut.ensures.value ∙ c.into_vec-bytes.ensures) ∙ c.in-Ok.ensures.texts in
    let d : drop c.args.len held ≡ g.E.Ending.text c.args.ending.now = ap (drop c.args.len) (c.deref_mut.ensures.value ∙ c.into_vec-bytes.ensures) ∙ c.in-Ok.ensures.ending in
    let v = c.into_vec-bytes.result in
    all_written v.items c.put_parts.new.bytes c.from_vec.result v.len c.from_vec.ensures (omega (arith, v.ok.0)) (c.put_parts.auto.bytes ∙ ap length c.deref_mut.ensures.value)
    ∙ whole_text c.args.extents.now c.args.backs.now c.args.texts (g.E.Ending.text c.args.ending.now) held c.put_parts.new.bytes c.args.len c.requires.fronts t d c.put_parts.ensures
