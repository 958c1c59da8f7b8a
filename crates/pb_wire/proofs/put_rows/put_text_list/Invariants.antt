use Rattle.std.proofs.Common.{◌≡◌, ◌++◌, take, true}
use Rattle.std.specs.Str.{is_utf8}
use Rattle.schema.specs.Each.{Each}
use Rattle.schema.specs.Texts.{items_text}
use Rattle.schema.specs.Prefix.{IsPrefix}
use Rattle.pb_wire.proofs.put_rows.put_text_list.Given as goal

-- the elements so far follow what was there, and are UTF-8
abbrev pub invariant-loop-item : goal.invariant-loop-item
invariant-loop-item l = (l.out ≡ l.initial.out ++ items_text l.number (take l.item-index l.items)) × IsPrefix l.initial.out l.out × Each (λ text. is_utf8 text ≡ true) (take l.item-index l.items)
