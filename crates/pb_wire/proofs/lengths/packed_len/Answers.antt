use Rattle.std.proofs.Common.{length, ap, arith}
use Rattle.std.specs.List.{flat_map}
use Rattle.schema.specs.Texts.{varint, number_to}
use Rattle.std.proofs.lemmas.List.{take_all}
use Rattle.pb_wire.proofs.RowTexts.{numbers_of, next_within}
use Rattle.pb_wire.proofs.lengths.packed_len.Goals as goal

pub overflow_add-len : goal.overflow_add-len
overflow_add-len g c =
    let value = g.N.Number.value in
    let text = λ (x : _). varint (number_to g.N.Number.format (value x)) in
    omega (arith, next_within text c.args.items.now c.loop-item.item-index c.item-item.result (omega arith) c.item-item.is, ap length (numbers_of g.N.Number.format value c.args.items.now))

pub returns : goal.returns
returns g c =
    let value = g.N.Number.value in
    let text = λ (x : _). varint (number_to g.N.Number.format (value x)) in
    omega (arith, c.loop-item.invariant, ap (λ t. length (flat_map text t)) (take_all c.loop-item.item-index c.args.items.now (omega arith)), ap length (numbers_of g.N.Number.format value c.args.items.now))
