use Rattle.std.proofs.Common.{◌-◌, ◌≡◌, ◌≤◌, length}
use Rattle.tables.specs.Chains.{AreChains}
use Rattle.tables.specs.KeyRun.{bucket_at}
use Rattle.tables.proofs.linking.unlink.Given as goal

-- the places that are left are chained
abbrev pub invariant-loop-left : goal.invariant-loop-left
invariant-loop-left l = (l.count ≤ l.left) × (l.left ≤ length l.rows) × (length l.heads ≡ length l.initial.heads)
    × AreChains (bucket_at l.rows (length l.initial.heads)) l.left l.heads l.links

abbrev pub decreases-loop-left : goal.decreases-loop-left
decreases-loop-left l = l.left - l.count
