use Rattle.std.proofs.Common.{refl, sym, ◌∙◌, arith}
use Rattle.std.proofs.lemmas.Result.{err_from_is_err_and}
use Rattle.schema.specs.Merge.{take_field}
use Rattle.pb_wire.specs.View.{front_view, reason_view}
use Rattle.schema_laws.proofs.Sizes.{size_of_field}
use Rattle.schema_laws.proofs.Traces.{run_field, run_bad, run_end}
use Rattle.pb_wire.proofs.Merge.{not_empty, is_empty, fault_bind, ok_bind}
use Rattle.pb_wire.proofs.wire.Wire.merge.Goals as goal

pub returns-in-Err : goal.returns-in-Err
returns-in-Err g c = sym c.loop-rest.invariant.same ∙ run_bad (take_field g.Self.Rows.shape) (g.Self.Rows.view c.loop-rest.self) c.loop-rest.at c.loop-rest.rest.now (reason_view c.in-Err.reason) (not_empty _ c.loop-rest-test.ensures) c.in-Err.ensures

pub overflow_sub-end : goal.overflow_sub-end
overflow_sub-end g c = omega (arith, size_of_field c.loop-rest.rest.now (front_view c.in-Ok.front.0) c.in-Ok.front.1.now c.in-Ok.ensures)

pub take-requires : goal.take-requires
take-requires g c =
    let inside = size_of_field c.loop-rest.rest.now (front_view c.in-Ok.front.0) c.in-Ok.front.1.now c.in-Ok.ensures in
    λ k. ((refl, tt), (omega (arith, inside), omega (arith, inside)))

pub returns-in_err-take : goal.returns-in_err-take
returns-in_err-take g c =
    let p = err_from_is_err_and c.from_residual.result c.from_residual.ensures.1 in
    let h = sym (run_field (take_field g.Self.Rows.shape) (g.Self.Rows.view c.loop-rest.self) c.loop-rest.at c.loop-rest.rest.now (front_view c.in-Ok.front.0) c.in-Ok.front.1.now (not_empty _ c.loop-rest-test.ensures) c.in-Ok.ensures) ∙ c.loop-rest.invariant.same in
    rw (p.1, p.2) (fault_bind c.in_err-take.field-0.0 _ _ _ h c.in_err-take.ensures)

pub loop-rest-smaller : goal.loop-rest-smaller
loop-rest-smaller g c = omega (arith, size_of_field c.loop-rest.rest.now (front_view c.in-Ok.front.0) c.in-Ok.front.1.now c.in-Ok.ensures)

pub loop-rest-preserved : goal.loop-rest-preserved
loop-rest-preserved g c =
    let h = sym (run_field (take_field g.Self.Rows.shape) (g.Self.Rows.view c.loop-rest.self) c.loop-rest.at c.loop-rest.rest.now (front_view c.in-Ok.front.0) c.in-Ok.front.1.now (not_empty _ c.loop-rest-test.ensures) c.in-Ok.ensures) ∙ c.loop-rest.invariant.same in
    record {
      there = omega (arith, size_of_field c.loop-rest.rest.now (front_view c.in-Ok.front.0) c.in-Ok.front.1.now c.in-Ok.ensures);
      same = ok_bind (g.Self.Rows.view c.take.new.self) _ _ _ h c.in_ok-take.ensures;
    }

pub returns : goal.returns
returns g c = sym c.loop-rest.invariant.same ∙ run_end (take_field g.Self.Rows.shape) (g.Self.Rows.view c.loop-rest.self) c.loop-rest.at c.loop-rest.rest.now (is_empty _ c.loop-rest-test.ensures)
