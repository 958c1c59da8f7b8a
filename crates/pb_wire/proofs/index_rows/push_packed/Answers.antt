use Rattle.std.proofs.Common.{◌++◌, ℕ, ℤ, List, sym, ap, ◌∙◌, arith}
use Rattle.std.specs.List.{flat_map}
use Rattle.std.proofs.lemmas.List.{take_all}
use Rattle.schema.specs.Shape.{I32}
use Rattle.schema.specs.Texts.{varint, number_to}
use Rattle.pb_wire.specs.TableKinds.{table_of}
use Rattle.pb_wire.proofs.RowTexts.{indexes_moved}
use Rattle.pb_wire.proofs.index_rows.push_packed.Goals as goal

pub returns-clause-ok : goal.returns-clause-ok
returns-clause-ok g c =
    let move = g.I.NewIndexes.to c.args.indexes.now (table_of c.args.table) in
    let text = λ (x : ℤ). varint (number_to I32 (move x)) in
    c.loop-item.invariant.0
    ∙ ap (λ (t : List ℕ). c.args.out.now ++ t) (ap (flat_map text) (take_all c.loop-item.item-index c.args.items.now (omega arith)) ∙ sym (indexes_moved move c.args.items.now))
