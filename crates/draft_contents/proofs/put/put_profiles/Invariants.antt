use Rattle.std.proofs.Common.{◌≡◌, ◌++◌, map, take}
use Rattle.schema.specs.Prefix.{IsPrefix}
use Rattle.prof_rec.specs.Views.{profile_view}
use Rattle.draft_contents.specs.Adding.{profiles_moved}
use Rattle.draft_contents.proofs.put.put_profiles.Given as goal

-- those so far were put
abbrev pub invariant-loop-profile : goal.invariant-loop-profile
invariant-loop-profile g l =
    (l.records ≡ l.fn.records ++ profiles_moved (g.I.NewIndexes.to l.indexes) (map profile_view (take l.profile-index l.added))) × IsPrefix l.fn.records l.records
