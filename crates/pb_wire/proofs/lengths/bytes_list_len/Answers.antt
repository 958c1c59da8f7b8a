use Rattle.std.proofs.Common.{arith}
use Rattle.schema.specs.Texts.{long_field}
use Rattle.schema_laws.proofs.Onto.{long_len}
use Rattle.pb_wire.proofs.RowTexts.{long_len_at, next_length, next_within}
use Rattle.pb_wire.proofs.lengths.bytes_list_len.Goals as goal

pub long_len-len-requires-clause-room : goal.long_len-len-requires-clause-room
long_len-len-requires-clause-room c =
    omega (arith, next_within (long_field c.args.number) c.args.items.now c.loop-item.item-index c.item-item.result (omega arith) c.item-item.is, long_len c.args.number c.item-item.result)

pub overflow_add-len : goal.overflow_add-len
overflow_add-len c =
    omega (arith, next_within (long_field c.args.number) c.args.items.now c.loop-item.item-index c.item-item.result (omega arith) c.item-item.is, long_len_at c.args.number c.len.result c.item-item.result c.len.ensures)

pub loop-item-preserved : goal.loop-item-preserved
loop-item-preserved c =
    omega (arith, next_length (long_field c.args.number) c.args.items.now c.loop-item.item-index c.item-item.result (omega arith) c.item-item.is, long_len_at c.args.number c.len.result c.item-item.result c.len.ensures)
