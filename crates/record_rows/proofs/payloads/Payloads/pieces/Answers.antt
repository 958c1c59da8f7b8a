use Rattle.pb_wire.specs.Parts.{part_view}
use Rattle.record_rows.proofs.ShortPieces.{three_short}
use Rattle.record_rows.proofs.payloads.Payloads.pieces.Goals as goal

pub returns : goal.returns
returns c =
    three_short c.begin-pieces.result c.add.new.self c.add-2.new.self c.add-3.new.self
    (part_view c.piece.result) (part_view c.piece-2.result) (part_view c.piece-3.result)
    c.piece.ensures.octets c.piece-2.ensures.octets c.piece-3.ensures.octets
    c.piece.ensures.few c.piece-2.ensures.few c.piece-3.ensures.few
    c.begin-pieces.ensures c.in_ok-add.ensures.ok c.in_ok-add-2.ensures.ok c.in_ok-add-3.ensures.ok
