use Rattle.record_rows.proofs.ShortPieces.{octets}
use Rattle.record_rows.proofs.payloads.piece_of.Goals as goal

pub returns-clause-octets : goal.returns-clause-octets
returns-clause-octets c = octets c.args.bytes.now (λ k. (c.type_inv.bytes k).fits)
