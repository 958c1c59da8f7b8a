use Rattle.std.proofs.Common.{◌≡◌, ◌++◌, ◌∷◌, [], sym, ap, ◌∙◌, map, arith}
use Rattle.std.proofs.lemmas.List.{map_push}
use Rattle.schema.specs.Merge.{more_packed}
use Rattle.schema.specs.Shape.{number_from}
use Rattle.pb_wire.specs.View.{reason_view}
use Rattle.schema_laws.proofs.Rows.{packed_goes_on, packed_fails, packed_ends}
use Rattle.schema_laws.proofs.Sizes.{size_of_varint}
use Rattle.pb_wire.proofs.Merge.{not_empty, is_empty}
use Rattle.pb_wire.proofs.take.add_packed.Goals as goal

pub returns-in-Err : goal.returns-in-Err
returns-in-Err g c = rw c.packed_reason-reason.ensures (sym c.loop-rest.invariant ∙ packed_fails g.N.Number.format c.args.at c.loop-rest.rest.now (reason_view c.in-Err.reason) (map g.N.Number.value c.loop-rest.slot) (not_empty _ c.loop-rest-test.ensures) c.in-Err.ensures)

pub loop-rest-smaller : goal.loop-rest-smaller
loop-rest-smaller g c = omega (arith, size_of_varint c.loop-rest.rest.now c.in-Ok.front.0 c.in-Ok.front.1.now c.in-Ok.ensures)

pub loop-rest-preserved : goal.loop-rest-preserved
loop-rest-preserved g c =
    let e : map g.N.Number.value c.add.new.self ≡ map g.N.Number.value c.loop-rest.slot ++ number_from g.N.Number.format c.in-Ok.front.0 ∷ [] = rw (c.in_ok-add.ensures.ok, ← c.from_varint.ensures) (map_push g.N.Number.value c.loop-rest.slot c.from_varint.result) in
    ap (more_packed g.N.Number.format c.args.at c.in-Ok.front.1.now) e ∙ sym (packed_goes_on g.N.Number.format c.args.at c.loop-rest.rest.now c.in-Ok.front.1.now c.in-Ok.front.0 (map g.N.Number.value c.loop-rest.slot) (not_empty _ c.loop-rest-test.ensures) c.in-Ok.ensures) ∙ c.loop-rest.invariant

pub returns : goal.returns
returns g c = sym c.loop-rest.invariant ∙ packed_ends g.N.Number.format c.args.at c.loop-rest.rest.now (map g.N.Number.value c.loop-rest.slot) (is_empty _ c.loop-rest-test.ensures)
