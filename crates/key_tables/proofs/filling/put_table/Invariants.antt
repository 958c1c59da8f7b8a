use Rattle.std.proofs.Common.{◌≡◌, ◌++◌, take}
use Rattle.schema.specs.Texts.{items_text}
use Rattle.schema.specs.Prefix.{IsPrefix}
use Rattle.key_tables.proofs.filling.put_table.Given as goal

-- the keys so far follow what was there
abbrev pub invariant-loop-place : goal.invariant-loop-place
invariant-loop-place g l = (l.out ≡ l.initial.out ++ items_text l.number (take l.place l.table)) × IsPrefix l.initial.out l.out
