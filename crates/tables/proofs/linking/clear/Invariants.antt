use Rattle.std.proofs.Common.{◌≡◌, ◌<◌, ℕ, get_or}
use Rattle.tables.proofs.linking.clear.Given as goal

-- the heads so far lead nowhere
abbrev pub invariant-loop-head : goal.invariant-loop-head
invariant-loop-head l = (bucket : ℕ) → bucket < l.head-index → get_or l.heads bucket 0 ≡ 0
