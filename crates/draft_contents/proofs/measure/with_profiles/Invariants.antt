use Rattle.std.proofs.Common.{◌≡◌, map, take}
use Rattle.parts.specs.Sums.{sums_from}
use Rattle.prof_rec.specs.Views.{profile_view}
use Rattle.draft_contents.specs.Adding.{profiles_moved}
use Rattle.draft_contents.proofs.measure.with_profiles.Given as goal

-- those so far are measured
abbrev pub invariant-loop-profile : goal.invariant-loop-profile
invariant-loop-profile g l = l.sums ≡ sums_from l.fn.totals (profiles_moved (g.I.NewIndexes.to l.indexes) (map profile_view (take l.profile-index l.profiles)))
