use Rattle.std.proofs.Common.{drop, map, refl, sym, ap, ◌∙◌, arith}
use Rattle.schema.specs.Merge.{merge_all}
use Rattle.schema.specs.Shape.{Value}
use Rattle.pb_wire.specs.Parts.{part_view}
use Rattle.pb_wire.proofs.Merge.{fault_bind, ok_bind}
use Rattle.pb_wire.proofs.Parts.{next_part, no_part}
use Rattle.pb_wire.proofs.wire.Wire.read.Goals as goal

pub merge-requires : goal.merge-requires
merge-requires g c = λ k. ((refl, tt), c.as_slice-piece-items.ensures.below c.loop-piece.piece-index _ c.loop-piece-test.true)

pub loop-piece-init : goal.loop-piece-init
loop-piece-init g c =
    ap (λ (v : Value g.Self.Rows.shape). merge_all g.Self.Rows.shape v (map part_view (drop 0 c.as_slice-piece-items.result.now))) c.none-message.ensures
    ∙ ap (merge_all g.Self.Rows.shape _) c.as_slice-piece-items.ensures.items

pub loop-piece-preserved : goal.loop-piece-preserved
loop-piece-preserved g c =
    ok_bind (g.Self.Rows.view c.merge.new.self) _ _ _
    (sym (next_part g.Self.Rows.shape (g.Self.Rows.view c.loop-piece.message) c.as_slice-piece-items.result.now c.loop-piece.piece-index _ c.loop-piece-test.true) ∙ c.loop-piece.invariant)
    c.in_default.ensures

pub returns-in-Err : goal.returns-in-Err
returns-in-Err g c =
    fault_bind c.in-Err.fault _ _ _
    (sym (next_part g.Self.Rows.shape (g.Self.Rows.view c.loop-piece.message) c.as_slice-piece-items.result.now c.loop-piece.piece-index _ c.loop-piece-test.true) ∙ c.loop-piece.invariant)
    c.in-Err.ensures

pub returns : goal.returns
returns g c = sym c.loop-piece.invariant ∙ no_part g.Self.Rows.shape (g.Self.Rows.view c.loop-piece.message) c.as_slice-piece-items.result.now c.loop-piece.piece-index (omega arith)
