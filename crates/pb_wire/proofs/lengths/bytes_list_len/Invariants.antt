use Rattle.std.proofs.Common.{◌≡◌, length, take}
use Rattle.schema.specs.Texts.{items_text}
use Rattle.pb_wire.proofs.lengths.bytes_list_len.Given as goal

-- the length of the elements so far
abbrev pub invariant-loop-item : goal.invariant-loop-item
invariant-loop-item l = l.len ≡ length (items_text l.number (take l.item-index l.items))
