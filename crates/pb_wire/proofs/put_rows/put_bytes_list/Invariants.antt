use Rattle.std.proofs.Common.{◌≡◌, ◌++◌, take}
use Rattle.schema.specs.Texts.{items_text}
use Rattle.schema.specs.Prefix.{IsPrefix}
use Rattle.pb_wire.proofs.put_rows.put_bytes_list.Given as goal

-- the elements so far follow what was there
abbrev pub invariant-loop-item : goal.invariant-loop-item
invariant-loop-item l = (l.out ≡ l.initial.out ++ items_text l.number (take l.item-index l.items)) × IsPrefix l.initial.out l.out
