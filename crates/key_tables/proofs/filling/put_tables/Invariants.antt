use Rattle.std.proofs.Common.{◌≡◌, ◌++◌, take}
use Rattle.schema.specs.Prefix.{IsPrefix}
use Rattle.key_tables.specs.Keys.{text_from}
use Rattle.key_tables.proofs.filling.put_tables.Given as goal

-- the keys of the tables so far follow what was there
abbrev pub invariant-loop-place : goal.invariant-loop-place
invariant-loop-place g l = (l.out ≡ l.initial.out ++ text_from 1 (take l.place l.tables)) × IsPrefix l.initial.out l.out
