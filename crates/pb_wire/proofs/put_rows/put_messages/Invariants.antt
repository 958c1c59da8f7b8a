use Rattle.std.proofs.Common.{◌≡◌, ◌++◌, take}
use Rattle.std.specs.List.{flat_map}
use Rattle.schema.specs.Each.{Each}
use Rattle.schema.specs.Moved.{moved}
use Rattle.schema.specs.Texts.{long_field}
use Rattle.schema.specs.Spell.{spell}
use Rattle.schema.specs.Typed.{IsTyped}
use Rattle.schema.specs.Prefix.{IsPrefix}
use Rattle.pb_wire.proofs.put_rows.put_messages.Given as goal

-- the messages so far follow what was there, and are typed
abbrev pub invariant-loop-item : goal.invariant-loop-item
invariant-loop-item g l =
    (l.out ≡ l.initial.out ++ flat_map (λ x. long_field l.number (spell g.T.Rows.shape (moved (g.I.NewIndexes.to l.indexes) g.T.Rows.shape (g.T.Rows.view x)))) (take l.item-index l.items)) × IsPrefix l.initial.out l.out
    × Each (λ x. IsTyped g.T.Rows.shape (g.T.Rows.view x)) (take l.item-index l.items)
