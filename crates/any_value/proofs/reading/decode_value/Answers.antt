use Rattle.std.proofs.Common.{◌+◌, sym, ap, ◌∙◌, arith}
use Rattle.schema.specs.AnyMerge.{any_levels, merge_any_all}
use Rattle.schema.specs.AnyValue.{AnyValue}
use Rattle.pb_wire.proofs.Merge.{fault_bind, ok_bind}
use Rattle.any_value.specs.Views.{any_view}
use Rattle.any_value.proofs.Parts.{next_part, no_part}
use Rattle.any_value.proofs.reading.decode_value.Goals as goal

pub loop-piece-init : goal.loop-piece-init
loop-piece-init c = ap (merge_any_all (any_levels (c.args.depth + 1)) AnyValue.Empty) c.as_slice-piece-items.ensures.items

pub take_members-requires : goal.take_members-requires
take_members-requires c = c.as_slice-piece-items.ensures.below c.loop-piece.piece-index _ c.loop-piece-test.true

pub loop-piece-preserved : goal.loop-piece-preserved
loop-piece-preserved c =
    ok_bind (any_view c.take_members.new.value) _ _ _
    (sym (next_part c.args.depth (any_view c.loop-piece.value) c.as_slice-piece-items.result.now c.loop-piece.piece-index _ c.loop-piece-test.true) ∙ c.loop-piece.invariant)
    c.in_default.ensures

pub returns-in-Err : goal.returns-in-Err
returns-in-Err c =
    fault_bind c.in-Err.fault _ _ _
    (sym (next_part c.args.depth (any_view c.loop-piece.value) c.as_slice-piece-items.result.now c.loop-piece.piece-index _ c.loop-piece-test.true) ∙ c.loop-piece.invariant)
    c.in-Err.ensures

pub returns : goal.returns
returns c = sym c.loop-piece.invariant ∙ no_part (any_levels (c.args.depth + 1)) (any_view c.loop-piece.value) c.as_slice-piece-items.result.now c.loop-piece.piece-index (omega arith)
