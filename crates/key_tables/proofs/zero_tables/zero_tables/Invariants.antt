use Rattle.std.proofs.Common.{◌≡◌, [], ◌∷◌, replicate}
use Rattle.key_tables.proofs.zero_tables.zero_tables.Given as goal

-- each table so far has its zero entry alone
abbrev pub invariant-loop-place : goal.invariant-loop-place
invariant-loop-place g l = l.items.items ≡ replicate l._place ([] ∷ [])
