use Rattle.std.proofs.Common.{◌≡◌, take}
use Rattle.key_tables.specs.Keys.{cut_to}
use Rattle.key_tables.proofs.filling.cut_back.Given as goal

-- the tables so far are cut
abbrev pub invariant-loop-place : goal.invariant-loop-place
invariant-loop-place g l = l.tables ≡ cut_to (take l.place l.marks) l.initial.tables
