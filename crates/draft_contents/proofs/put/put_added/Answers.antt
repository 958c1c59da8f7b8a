use Rattle.std.proofs.Common.{ℤ, List, ◌++◌, ◌^◌, map, subst}
use Rattle.schema.specs.Shape.{Table}
use Rattle.parts.specs.Parts.{RecordPart}
use Rattle.prof_rec.specs.Views.{profile_view, resource_profiles_view, scope_profiles_view}
use Rattle.draft_contents.specs.Adding.{AreShorter, added_moved, profiles_moved, resources_moved, scopes_moved}
use Rattle.draft_contents.specs.declared.unrepeated.Added.{Added}
use Rattle.draft_contents.proofs.Lengths.{shorter_before, shorter_behind}
use Rattle.draft_contents.proofs.put.put_added.Goals as goal

pub put_resources-requires-in-Scopes : goal.put_resources-requires-in-Scopes
put_resources-requires-in-Scopes g c =
    let to : Table → ℤ → ℤ = g.I.NewIndexes.to c.args.indexes.now in
    shorter_behind (2 ^ 62) (scopes_moved to (map scope_profiles_view c.in-Scopes.scopes.now)) (resources_moved to (map resource_profiles_view c.in-Scopes.resources.now))
    (subst (λ (a : Added). AreShorter (2 ^ 62) (added_moved to a)) c.in-Scopes.is c.requires)

pub put_profiles-requires : goal.put_profiles-requires
put_profiles-requires g c =
    let to : Table → ℤ → ℤ = g.I.NewIndexes.to c.args.indexes.now in
    shorter_before (2 ^ 62) (profiles_moved to (map profile_view c.in-Profiles.profiles.now))
    (scopes_moved to (map scope_profiles_view c.in-Profiles.scopes.now) ++ resources_moved to (map resource_profiles_view c.in-Profiles.resources.now))
    (subst (λ (a : Added). AreShorter (2 ^ 62) (added_moved to a)) c.in-Profiles.is c.requires)

pub put_scopes-requires-in-Profiles : goal.put_scopes-requires-in-Profiles
put_scopes-requires-in-Profiles g c =
    let to : Table → ℤ → ℤ = g.I.NewIndexes.to c.args.indexes.now in
    let ps : List RecordPart = profiles_moved to (map profile_view c.in-Profiles.profiles.now) in
    let qs : List RecordPart = scopes_moved to (map scope_profiles_view c.in-Profiles.scopes.now) in
    let rs : List RecordPart = resources_moved to (map resource_profiles_view c.in-Profiles.resources.now) in
    shorter_before (2 ^ 62) qs rs (shorter_behind (2 ^ 62) ps (qs ++ rs) (subst (λ (a : Added). AreShorter (2 ^ 62) (added_moved to a)) c.in-Profiles.is c.requires))

pub put_resources-requires-in-Profiles : goal.put_resources-requires-in-Profiles
put_resources-requires-in-Profiles g c =
    let to : Table → ℤ → ℤ = g.I.NewIndexes.to c.args.indexes.now in
    let ps : List RecordPart = profiles_moved to (map profile_view c.in-Profiles.profiles.now) in
    let qs : List RecordPart = scopes_moved to (map scope_profiles_view c.in-Profiles.scopes.now) in
    let rs : List RecordPart = resources_moved to (map resource_profiles_view c.in-Profiles.resources.now) in
    shorter_behind (2 ^ 62) qs rs (shorter_behind (2 ^ 62) ps (qs ++ rs) (subst (λ (a : Added). AreShorter (2 ^ 62) (added_moved to a)) c.in-Profiles.is c.requires))
