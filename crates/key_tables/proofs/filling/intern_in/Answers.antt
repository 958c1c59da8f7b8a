use Rattle.std.proofs.Common.{arith}
use Rattle.pb_wire.specs.TableKinds.{place_of, table_of}
use Rattle.key_tables.proofs.Places.{interned_in, not_interned, set_itself}
use Rattle.key_tables.proofs.filling.intern_in.Goals as goal

pub returns-then-len-ge-MOST_ENTRIES-clause-same : goal.returns-then-len-ge-MOST_ENTRIES-clause-same
returns-then-len-ge-MOST_ENTRIES-clause-same g c = set_itself c.args.tables.now (place_of (table_of c.args.kind)) c.get_mut-table.result.now c.get_mut-table.ensures.value

pub returns-clause-interned : goal.returns-clause-interned
returns-clause-interned g c =
    interned_in c.intern.result (place_of (table_of c.args.kind)) c.args.tables.now c.args.key.now c.get_mut-table.result.now c.intern.new.self c.get_mut-table.ensures.value
    (omega (arith, c.intern.ensures.interned.one, c.len.ensures.len, c.if-len-ge-MOST_ENTRIES.false)) c.intern.ensures.interned.ok

pub returns-clause-same : goal.returns-clause-same
returns-clause-same g c =
    not_interned c.intern.result (place_of (table_of c.args.kind)) c.args.tables.now c.get_mut-table.result.now c.intern.new.self c.get_mut-table.ensures.value c.intern.ensures.interned.err
