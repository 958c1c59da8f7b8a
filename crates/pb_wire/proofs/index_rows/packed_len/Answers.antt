use Rattle.std.proofs.Common.{ℤ, pos, get_or, length, ap, arith}
use Rattle.std.specs.List.{flat_map}
use Rattle.schema.specs.Shape.{I32}
use Rattle.schema.specs.Texts.{varint, number_to}
use Rattle.std.proofs.lemmas.List.{take_all}
use Rattle.pb_wire.proofs.RowTexts.{next_within}
use Rattle.pb_wire.specs.TableKinds.{table_of}
use Rattle.pb_wire.proofs.RowTexts.{indexes_moved, read_or}
use Rattle.pb_wire.proofs.index_rows.packed_len.Goals as goal

pub overflow_add-len : goal.overflow_add-len
overflow_add-len g c =
    let move = g.I.NewIndexes.to c.args.indexes.now (table_of c.args.table) in
    let text = λ (x : ℤ). varint (number_to I32 (move x)) in
    let items = c.args.items.now in
    let i = c.loop-item.item-index in
    omega (arith, next_within text items i (get_or items i (pos 0)) (omega arith) (read_or items i (pos 0) (omega arith)), ap length (indexes_moved move items))

pub returns : goal.returns
returns g c =
    let move = g.I.NewIndexes.to c.args.indexes.now (table_of c.args.table) in
    let text = λ (x : ℤ). varint (number_to I32 (move x)) in
    omega (arith, c.loop-item.invariant, ap (λ t. length (flat_map text t)) (take_all c.loop-item.item-index c.args.items.now (omega arith)), ap length (indexes_moved move c.args.items.now))
