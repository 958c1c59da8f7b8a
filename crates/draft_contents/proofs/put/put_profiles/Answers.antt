use Rattle.std.proofs.Common.{ℕ, List, ◌+◌, ◌^◌, ◌∷◌, [], map, take, arith}
use Rattle.schema.specs.Messages.{profile}
use Rattle.schema.specs.Moved.{moved}
use Rattle.parts.specs.Parts.{RecordPart}
use Rattle.parts.specs.Values.{profile_value_part}
use Rattle.prof_rec.specs.Views.{profile_view}
use Rattle.key_tables.proofs.Prefixes.{prefix_itself, prefix_longer}
use Rattle.draft_contents.specs.Adding.{profiles_moved}
use Rattle.draft_contents.proofs.Rows.{none_put, put_more, profile_more}
use Rattle.draft_contents.proofs.Lengths.{profile_shorter}
use Rattle.draft_contents.proofs.put.put_profiles.Goals as goal

pub loop-profile-init : goal.loop-profile-init
loop-profile-init g c = (none_put c.args.records.now, prefix_itself c.args.records.now)

pub add_profile-requires : goal.add_profile-requires
add_profile-requires g c =
    let l = profile_shorter (2 ^ 62) profile_value_part (moved (g.I.NewIndexes.to c.args.indexes.now) profile) profile_view c.args.added.now c.loop-profile.profile-index c.profile-item.result c.loop-profile-test.true
    c.profile-item.is c.requires in omega (arith, l)

pub loop-profile-preserved : goal.loop-profile-preserved
loop-profile-preserved g c =
    let row : ℕ → List RecordPart = λ n. profiles_moved (g.I.NewIndexes.to c.args.indexes.now) (map profile_view (take n c.args.added.now)) in (
      put_more c.args.records.now c.loop-profile.records c.add_profile.new.self (row c.loop-profile.profile-index) (profile_value_part (moved (g.I.NewIndexes.to c.args.indexes.now) profile (profile_view c.profile-item.result)) ∷ []) (row (c.loop-profile.profile-index + 1))
          (profile_more (moved (g.I.NewIndexes.to c.args.indexes.now) profile) profile_view profile_value_part c.args.added.now c.loop-profile.profile-index c.profile-item.result c.loop-profile-test.true
          c.profile-item.is) c.loop-profile.invariant.0 c.in_default.ensures.ok,
      prefix_longer c.args.records.now c.loop-profile.records (profile_value_part (moved (g.I.NewIndexes.to c.args.indexes.now) profile (profile_view c.profile-item.result)) ∷ []) c.add_profile.new.self c.in_default.ensures.ok c.loop-profile.invariant.1,
    )
