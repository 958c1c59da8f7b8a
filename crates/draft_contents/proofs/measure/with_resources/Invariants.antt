use Rattle.std.proofs.Common.{◌≡◌, map, take}
use Rattle.parts.specs.Sums.{sums_from}
use Rattle.prof_rec.specs.Views.{resource_profiles_view}
use Rattle.draft_contents.specs.Adding.{resources_moved}
use Rattle.draft_contents.proofs.measure.with_resources.Given as goal

-- those so far are measured
abbrev pub invariant-loop-record : goal.invariant-loop-record
invariant-loop-record g l = l.sums ≡ sums_from l.fn.totals (resources_moved (g.I.NewIndexes.to l.indexes) (map resource_profiles_view (take l.record-index l.records)))
