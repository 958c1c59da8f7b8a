use Rattle.std.proofs.Common.{arith}
use Rattle.pb_wire.specs.TableKinds.{table_of}
use Rattle.pb_wire.proofs.Types.{no_indexes}
use Rattle.pb_wire.proofs.index_rows.put_indexes.Goals as goal

-- indexes that take no bytes are none
pub returns-then-len-eq0-clause-typed : goal.returns-then-len-eq0-clause-typed
returns-then-len-eq0-clause-typed g c =
    no_indexes (g.I.NewIndexes.to c.args.indexes.now (table_of c.args.table)) c.args.items.now (omega (arith, c.packed_len-len.ensures, c.if-len-eq0.true))
