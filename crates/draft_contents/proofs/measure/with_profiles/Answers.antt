use Rattle.std.proofs.Common.{ℕ, List, ◌+◌, ◌^◌, ◌∷◌, [], map, take}
use Rattle.schema.specs.Messages.{profile}
use Rattle.schema.specs.Moved.{moved}
use Rattle.parts.specs.Parts.{RecordPart}
use Rattle.parts.specs.Values.{profile_value_part}
use Rattle.prof_rec.specs.Views.{profile_view}
use Rattle.draft_contents.specs.Adding.{profiles_moved}
use Rattle.draft_contents.proofs.Rows.{measured_more, profile_more}
use Rattle.draft_contents.proofs.Lengths.{profile_shorter}
use Rattle.draft_contents.proofs.measure.with_profiles.Goals as goal

pub with_profile-requires : goal.with_profile-requires
with_profile-requires g c = (
  profile_shorter (2 ^ 63) profile_value_part (moved (g.I.NewIndexes.to c.args.indexes.now) profile) profile_view c.args.profiles.now c.loop-profile.profile-index c.profile-item.result c.loop-profile-test.true
      c.profile-item.is c.requires,
  tt,
)

pub loop-profile-preserved : goal.loop-profile-preserved
loop-profile-preserved g c =
    let row : ℕ → List RecordPart = λ n. profiles_moved (g.I.NewIndexes.to c.args.indexes.now) (map profile_view (take n c.args.profiles.now)) in
    measured_more c.args.totals c.loop-profile.sums c.in-Ok.more (row c.loop-profile.profile-index) (profile_value_part (moved (g.I.NewIndexes.to c.args.indexes.now) profile (profile_view c.profile-item.result)) ∷ []) (row (c.loop-profile.profile-index + 1))
    (profile_more (moved (g.I.NewIndexes.to c.args.indexes.now) profile) profile_view profile_value_part c.args.profiles.now c.loop-profile.profile-index c.profile-item.result c.loop-profile-test.true c.profile-item.is)
    c.loop-profile.invariant c.in-Ok.ensures
