use Rattle.std.proofs.Common.{◌++◌, ℕ, List, sym, ap, ◌∙◌, arith, subst}
use Rattle.std.specs.List.{flat_map}
use Rattle.std.proofs.lemmas.List.{take_all}
use Rattle.schema.specs.Each.{Each}
use Rattle.schema.specs.Moved.{moved}
use Rattle.schema.specs.Texts.{long_field}
use Rattle.schema.specs.Spell.{spell}
use Rattle.schema.specs.Typed.{IsTyped}
use Rattle.pb_wire.proofs.RowTexts.{items_moved, moved_within}
use Rattle.pb_wire.proofs.Types.{each_seen}
use Rattle.pb_wire.proofs.put_rows.put_messages.Goals as goal

pub rows_len-requires : goal.rows_len-requires
rows_len-requires g c =
    omega (arith, moved_within g.T.Rows.shape (moved (g.I.NewIndexes.to c.args.indexes.now) g.T.Rows.shape) g.T.Rows.view c.args.number c.args.items.now c.loop-item.item-index c.item-item.result (omega arith) c.item-item.is)

pub push_message-requires-clause-room : goal.push_message-requires-clause-room
push_message-requires-clause-room g c =
    omega (arith, moved_within g.T.Rows.shape (moved (g.I.NewIndexes.to c.args.indexes.now) g.T.Rows.shape) g.T.Rows.view c.args.number c.args.items.now c.loop-item.item-index c.item-item.result (omega arith) c.item-item.is)

pub returns-clause-ok : goal.returns-clause-ok
returns-clause-ok g c =
    let shape = g.T.Rows.shape in
    let view = g.T.Rows.view in
    let move = moved (g.I.NewIndexes.to c.args.indexes.now) shape in
    let text = λ (x : _). long_field c.args.number (spell shape (move (view x))) in
    c.loop-item.invariant.0
    ∙ ap (λ (t : List ℕ). c.args.out.now ++ t) (ap (flat_map text) (take_all c.loop-item.item-index c.args.items.now (omega arith)) ∙ sym (items_moved c.args.number (spell shape) move view c.args.items.now))

pub returns-clause-typed : goal.returns-clause-typed
returns-clause-typed g c =
    let view = g.T.Rows.view in
    let typed = λ (x : _). IsTyped g.T.Rows.shape (view x) in
    each_seen (IsTyped g.T.Rows.shape) view c.args.items.now
    (subst (Each typed) (take_all c.loop-item.item-index c.args.items.now (omega arith)) c.loop-item.invariant.2)
