use Rattle.std.proofs.Common.{◌≡◌, length, take}
use Rattle.std.specs.List.{flat_map}
use Rattle.schema.specs.Moved.{moved}
use Rattle.schema.specs.Texts.{long_field}
use Rattle.schema.specs.Spell.{spell}
use Rattle.pb_wire.proofs.lengths.messages_len.Given as goal

-- the length of the elements so far
abbrev pub invariant-loop-item : goal.invariant-loop-item
invariant-loop-item g l =
    l.len ≡ length (flat_map (λ x. long_field l.number (spell g.T.Rows.shape (moved (g.I.NewIndexes.to l.indexes) g.T.Rows.shape (g.T.Rows.view x)))) (take l.item-index l.items))
