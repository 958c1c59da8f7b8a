use Rattle.std.proofs.Common.{◌≡◌, drop, map}
use Rattle.schema.specs.Merge.{merge_all}
use Rattle.schema.specs.Shape.{empty}
use Rattle.pb_wire.specs.Parts.{part_view}
use Rattle.pb_wire.proofs.wire.Wire.read.Given as goal

abbrev pub invariant-loop-piece : goal.invariant-loop-piece
invariant-loop-piece g l =
    merge_all g.Self.Rows.shape (g.Self.Rows.view l.message) (map part_view (drop l.piece-index l.piece-items))
    ≡ merge_all g.Self.Rows.shape (empty g.Self.Rows.shape) l.pieces
