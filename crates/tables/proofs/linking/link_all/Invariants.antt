use Rattle.std.proofs.Common.{◌≡◌, length}
use Rattle.tables.specs.Chains.{AreChains}
use Rattle.tables.specs.KeyRun.{bucket_at}
use Rattle.tables.proofs.linking.link_all.Given as goal

-- the places so far are chained
abbrev pub invariant-loop-place : goal.invariant-loop-place
invariant-loop-place l = (length l.heads ≡ length l.fn.heads) × (length l.links ≡ length l.fn.links)
    × AreChains (bucket_at l.rows (length l.fn.heads)) l.place l.heads l.links
