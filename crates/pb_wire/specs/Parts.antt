-- A piece of a message, as the definitions of `schema` see it.
use Rattle.schema.specs.Parts.{Part}
use Rattle.pb_wire.specs.declared.pieces.Piece.{Piece}

abbrev pub part_view : Piece → Part
part_view p = record { bytes = p.bytes.now; base = p.base }
