use Rattle.std.proofs.Common.{length, ap, arith}
use Rattle.schema.specs.Texts.{long_field}
use Rattle.pb_wire.proofs.RowTexts.{long_len_at, next_length, next_within}
use Rattle.pb_wire.proofs.lengths.text_list_len.Goals as goal

pub overflow_add-len : goal.overflow_add-len
overflow_add-len c =
    omega (arith, next_within (long_field c.args.number) c.args.items.now c.loop-item.item-index c.item-item.result (omega arith) c.item-item.is, long_len_at c.args.number (length c.as_bytes.result.now) c.item-item.result (ap length c.as_bytes.ensures.same))

pub loop-item-preserved : goal.loop-item-preserved
loop-item-preserved c =
    omega (arith, next_length (long_field c.args.number) c.args.items.now c.loop-item.item-index c.item-item.result (omega arith) c.item-item.is, long_len_at c.args.number (length c.as_bytes.result.now) c.item-item.result (ap length c.as_bytes.ensures.same))
