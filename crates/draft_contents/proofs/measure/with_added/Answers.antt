use Rattle.std.proofs.Common.{ℤ, List, ◌++◌, ◌^◌, map, refl, sym, ap, ◌∙◌, subst, append_assoc}
use Rattle.schema.specs.Shape.{Table}
use Rattle.parts.specs.Parts.{RecordPart}
use Rattle.prof_rec.specs.Views.{profile_view, resource_profiles_view, scope_profiles_view}
use Rattle.draft_contents.specs.Adding.{AreShorter, added_moved, profiles_moved, resources_moved, scopes_moved}
use Rattle.draft_contents.specs.declared.unrepeated.Added.{Added}
use Rattle.draft_contents.proofs.Lengths.{shorter_before, shorter_behind}
use Rattle.draft_contents.proofs.LeftOut.{sums_then}
use Rattle.draft_contents.proofs.Rows.{measured_more}
use Rattle.draft_contents.proofs.measure.with_added.Goals as goal

pub with_resources-requires-in-Scopes : goal.with_resources-requires-in-Scopes
with_resources-requires-in-Scopes g c =
    let to : Table → ℤ → ℤ = g.I.NewIndexes.to c.args.indexes.now in
    shorter_behind (2 ^ 63) (scopes_moved to (map scope_profiles_view c.in-Scopes.scopes.now)) (resources_moved to (map resource_profiles_view c.in-Scopes.resources.now))
    (subst (λ (a : Added). AreShorter (2 ^ 63) (added_moved to a)) c.in-Scopes.is c.requires)

pub with_profiles-requires : goal.with_profiles-requires
with_profiles-requires g c =
    let to : Table → ℤ → ℤ = g.I.NewIndexes.to c.args.indexes.now in
    shorter_before (2 ^ 63) (profiles_moved to (map profile_view c.in-Profiles.profiles.now))
    (scopes_moved to (map scope_profiles_view c.in-Profiles.scopes.now) ++ resources_moved to (map resource_profiles_view c.in-Profiles.resources.now))
    (subst (λ (a : Added). AreShorter (2 ^ 63) (added_moved to a)) c.in-Profiles.is c.requires)

pub with_scopes-requires-in-Profiles : goal.with_scopes-requires-in-Profiles
with_scopes-requires-in-Profiles g c =
    let to : Table → ℤ → ℤ = g.I.NewIndexes.to c.args.indexes.now in
    let ps : List RecordPart = profiles_moved to (map profile_view c.in-Profiles.profiles.now) in
    let qs : List RecordPart = scopes_moved to (map scope_profiles_view c.in-Profiles.scopes.now) in
    let rs : List RecordPart = resources_moved to (map resource_profiles_view c.in-Profiles.resources.now) in
    shorter_before (2 ^ 63) qs rs (shorter_behind (2 ^ 63) ps (qs ++ rs) (subst (λ (a : Added). AreShorter (2 ^ 63) (added_moved to a)) c.in-Profiles.is c.requires))

pub with_resources-requires-in-Profiles : goal.with_resources-requires-in-Profiles
with_resources-requires-in-Profiles g c =
    let to : Table → ℤ → ℤ = g.I.NewIndexes.to c.args.indexes.now in
    let ps : List RecordPart = profiles_moved to (map profile_view c.in-Profiles.profiles.now) in
    let qs : List RecordPart = scopes_moved to (map scope_profiles_view c.in-Profiles.scopes.now) in
    let rs : List RecordPart = resources_moved to (map resource_profiles_view c.in-Profiles.resources.now) in
    shorter_behind (2 ^ 63) qs rs (shorter_behind (2 ^ 63) ps (qs ++ rs) (subst (λ (a : Added). AreShorter (2 ^ 63) (added_moved to a)) c.in-Profiles.is c.requires))

pub returns-in_ok-sums-in-Scopes : goal.returns-in_ok-sums-in-Scopes
returns-in_ok-sums-in-Scopes g c =
    let to : Table → ℤ → ℤ = g.I.NewIndexes.to c.args.indexes.now in
    sums_then c.with_resources-in-Scopes.result c.args.totals c.in_ok-sums-in-Scopes.sums (scopes_moved to (map scope_profiles_view c.in-Scopes.scopes.now))
    (resources_moved to (map resource_profiles_view c.in-Scopes.resources.now)) (added_moved to c.args.added.now) (ap (added_moved to) c.in-Scopes.is)
    c.in_ok-sums-in-Scopes.ensures c.with_resources-in-Scopes.ensures

pub returns-in_ok-more-in-Profiles : goal.returns-in_ok-more-in-Profiles
returns-in_ok-more-in-Profiles g c =
    let to : Table → ℤ → ℤ = g.I.NewIndexes.to c.args.indexes.now in
    let ps : List RecordPart = profiles_moved to (map profile_view c.in-Profiles.profiles.now) in
    let qs : List RecordPart = scopes_moved to (map scope_profiles_view c.in-Profiles.scopes.now) in
    let rs : List RecordPart = resources_moved to (map resource_profiles_view c.in-Profiles.resources.now) in
    sums_then c.with_resources-in-Profiles.result c.args.totals c.in_ok-more-in-Profiles.more (ps ++ qs) rs (added_moved to c.args.added.now)
    (ap (added_moved to) c.in-Profiles.is ∙ sym (append_assoc ps qs rs))
    (measured_more c.args.totals c.in_ok-sums-in-Profiles.sums c.in_ok-more-in-Profiles.more ps qs (ps ++ qs) refl c.in_ok-sums-in-Profiles.ensures c.in_ok-more-in-Profiles.ensures)
    c.with_resources-in-Profiles.ensures
