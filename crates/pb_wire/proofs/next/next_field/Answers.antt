use Rattle.std.proofs.Common.{◌≡◌, ℕ, drop, sym, ap, ◌∙◌, arith, length-drop, List, Ok, refl}
use Rattle.schema.specs.Decoding.{field_at}
use Rattle.pb_wire.specs.View.{front_view}
use Rattle.schema_laws.proofs.Sizes.{size_of_field}
use Rattle.schema_laws.proofs.OneField.{rest_of_body}
use Rattle.pb_wire.proofs.next.next_field.Goals as goal

pub overflow_sub-after : goal.overflow_sub-after
overflow_sub-after c = omega (arith, size_of_field c.split_at.result.1.now (front_view c.in-Ok.found) c.in-Ok.rest.now c.in-Ok.ensures, length-drop c.args.at c.args.body.now)

pub returns-in-Ok : goal.returns-in-Ok
returns-in-Ok c =
    let e : field_at (drop c.args.at c.args.body.now) ≡ Ok (front_view c.in-Ok.found, c.in-Ok.rest.now) = ap field_at (sym c.split_at.ensures.back) ∙ c.in-Ok.ensures in
    let s = size_of_field (drop c.args.at c.args.body.now) (front_view c.in-Ok.found) c.in-Ok.rest.now e in
    let r = rest_of_body c.args.body.now c.args.at (front_view c.in-Ok.found) c.in-Ok.rest.now c.requires.inside e in
    (omega (arith, s, length-drop c.args.at c.args.body.now), omega arith, refl, refl, e ∙ ap (λ (t : List ℕ). Ok (front_view c.in-Ok.found, t)) (sym r))
