use Rattle.std.proofs.Common.{rules, ◌+◌, ◌*◌, ◌<◌, ◌^◌, length, refl, arith}
use Rattle.schema.specs.Tables.{field_of}
use Rattle.schema_laws.proofs.Onto.{varint_at_most}
use Rattle.pb_wire.specs.TableKinds.{table_of}
use Rattle.key_tables.proofs.Spelling.{long_len_of}
use Rattle.key_tables.proofs.filling.entry_len.Goals as goal

pub returns-clause-is : goal.returns-clause-is
returns-clause-is c =
    long_len_of (field_of (table_of c.args.kind)) c.number.result c.args.key.now c.args.key.now _ c.long_len.result c.number.ensures.is refl refl c.long_len.ensures

pub returns-clause-most : goal.returns-clause-most
returns-clause-most c =
    let short : length c.args.key.now < 2 ^ 63 = search rules in
    omega (arith, c.long_len.ensures, varint_at_most (c.number.result * 8 + 2) (omega (arith, c.number.ensures.below)), varint_at_most (length c.args.key.now) (omega arith))
