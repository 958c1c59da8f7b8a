use Rattle.std.proofs.Common.{refl}
use Rattle.record_rows.proofs.ShortPieces.{record_short}
use Rattle.record_rows.proofs.records.rewritten.Goals as goal

pub written-requires : goal.written-requires
written-requires g c = λ k. ((refl, tt), record_short g.T.Rows.shape c.in_ok-pieces.pieces (g.T.Rows.view c.in-Ok.record) c.in_ok-pieces.ensures c.in-Ok.ensures)
