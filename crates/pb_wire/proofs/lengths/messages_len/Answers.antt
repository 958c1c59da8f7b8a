use Rattle.std.proofs.Common.{◌≡◌, length, ap, ◌∙◌, arith}
use Rattle.std.specs.List.{flat_map}
use Rattle.schema.specs.Moved.{moved}
use Rattle.schema.specs.Texts.{long_field}
use Rattle.schema.specs.Spell.{spell}
use Rattle.std.proofs.lemmas.List.{take_all}
use Rattle.pb_wire.proofs.RowTexts.{items_moved, long_len_at, moved_within, next_length, next_within}
use Rattle.schema_laws.proofs.Onto.{onto_len}
use Rattle.pb_wire.proofs.lengths.messages_len.Goals as goal

-- the length of the element's field is within that of the row
pub rows_len-requires : goal.rows_len-requires
rows_len-requires g c =
    omega (arith, moved_within g.T.Rows.shape (moved (g.I.NewIndexes.to c.args.indexes.now) g.T.Rows.shape) g.T.Rows.view c.args.number c.args.items.now c.loop-item.item-index c.item-item.result (omega arith) c.item-item.is)

pub long_len-len-requires-clause-room : goal.long_len-len-requires-clause-room
long_len-len-requires-clause-room g c =
    omega (arith, moved_within g.T.Rows.shape (moved (g.I.NewIndexes.to c.args.indexes.now) g.T.Rows.shape) g.T.Rows.view c.args.number c.args.items.now c.loop-item.item-index c.item-item.result (omega arith) c.item-item.is)

pub overflow_add-len : goal.overflow_add-len
overflow_add-len g c =
    let shape = g.T.Rows.shape in
    let view = g.T.Rows.view in
    let move = moved (g.I.NewIndexes.to c.args.indexes.now) shape in
    let text = λ (x : _). long_field c.args.number (spell shape (move (view x))) in
    let items = c.args.items.now in
    let v = move (view c.item-item.result) in
    let len : c.rows_len.result ≡ length (spell shape v) = c.rows_len.ensures ∙ omega (arith, onto_len shape 0 v) in
    omega (
      arith,
      next_within text items c.loop-item.item-index c.item-item.result (omega arith) c.item-item.is,
      long_len_at c.args.number c.rows_len.result (spell shape v) len,
      ap length (items_moved c.args.number (spell shape) move view items),
    )

pub loop-item-preserved : goal.loop-item-preserved
loop-item-preserved g c =
    let shape = g.T.Rows.shape in
    let view = g.T.Rows.view in
    let move = moved (g.I.NewIndexes.to c.args.indexes.now) shape in
    let text = λ (x : _). long_field c.args.number (spell shape (move (view x))) in
    let items = c.args.items.now in
    let v = move (view c.item-item.result) in
    let len : c.rows_len.result ≡ length (spell shape v) = c.rows_len.ensures ∙ omega (arith, onto_len shape 0 v) in
    omega (arith, next_length text items c.loop-item.item-index c.item-item.result (omega arith) c.item-item.is, long_len_at c.args.number c.rows_len.result (spell shape v) len)

pub returns : goal.returns
returns g c =
    let shape = g.T.Rows.shape in
    let view = g.T.Rows.view in
    let move = moved (g.I.NewIndexes.to c.args.indexes.now) shape in
    let text = λ (x : _). long_field c.args.number (spell shape (move (view x))) in
    let items = c.args.items.now in
    omega (arith, c.loop-item.invariant, ap (λ t. length (flat_map text t)) (take_all c.loop-item.item-index items (omega arith)), ap length (items_moved c.args.number (spell shape) move view items))
