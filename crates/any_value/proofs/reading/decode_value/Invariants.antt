use Rattle.std.proofs.Common.{◌≡◌, ◌+◌, drop, map}
use Rattle.schema.specs.AnyMerge.{any_levels, merge_any_all}
use Rattle.schema.specs.AnyValue.{AnyValue}
use Rattle.pb_wire.specs.Parts.{part_view}
use Rattle.any_value.specs.Views.{any_view}
use Rattle.any_value.proofs.reading.decode_value.Given as goal

-- the pieces to come give the whole
abbrev pub invariant-loop-piece : goal.invariant-loop-piece
invariant-loop-piece l =
    merge_any_all (any_levels (l.depth + 1)) (any_view l.value) (map part_view (drop l.piece-index l.piece-items))
    ≡ merge_any_all (any_levels (l.depth + 1)) AnyValue.Empty l.pieces
