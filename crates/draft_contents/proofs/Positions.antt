-- The records of the code at a position.
use Rattle.std.proofs.Common.{◌≡◌, ℕ, ◌<◌, List, length, get_or, map, sym, ap, ◌∙◌, subst, arith}
use Rattle.std.proofs.lemmas.List.{get_or-map, length-map}
use Rattle.schema.specs.Messages.{profile, scope_profiles, resource_profiles}
use Rattle.schema.specs.Shape.{Value, empty}
use Rattle.prof_rec.specs.declared.profile.Profile.{Profile}
use Rattle.prof_rec.specs.declared.resource_profiles.ResourceProfiles.{ResourceProfiles}
use Rattle.prof_rec.specs.declared.scope_profiles.ScopeProfiles.{ScopeProfiles}
use Rattle.prof_rec.specs.Views.{profile_view, resource_profiles_view, scope_profiles_view}
use Rattle.otlp_msg.specs.declared.path.ProfilePos.{ProfilePos}
use Rattle.draft_contents.specs.Singles.{IsPosition, profile_at, record_alone, resource_alone, resource_at, scope_alone, scope_at}

-- the value at a place of a list that is seen by `view`
seen_at : {X Y : Type 0} (view : X → Y) (xs : List X) (i : ℕ) (x : X) (d : Y) → i < length xs → x ≡ get_or xs i x → get_or (map view xs) i d ≡ view x
seen_at view xs i x d l e = get_or-map view xs i x d l ∙ ap view (sym e)

-- a place is one of a list where it is one of its values
seen_below : {X Y : Type 0} (view : X → Y) (xs : List X) (i : ℕ) → i < length (map view xs) → i < length xs
seen_below view xs i l = omega (arith, length-map xs view)

module _ (rs : List ResourceProfiles) (pos : ProfilePos) (at : IsPosition (map resource_profiles_view rs) pos) where
  pub resource_below : pos.resource < length rs
  resource_below = seen_below resource_profiles_view rs pos.resource at.resource

  module _ (r : ResourceProfiles) (found : r ≡ get_or rs pos.resource r) (ss : List ScopeProfiles) (scopes : ss ≡ r.scope_profiles) where
    resource_is : resource_at (map resource_profiles_view rs) pos ≡ resource_profiles_view r
    resource_is = seen_at resource_profiles_view rs pos.resource r (empty resource_profiles) resource_below found

    pub scope_below : pos.scope < length ss
    scope_below =
        seen_below scope_profiles_view ss pos.scope
        (subst (λ xs. pos.scope < length (map scope_profiles_view xs)) (sym scopes) (subst (λ (x : Value resource_profiles). pos.scope < length x.1.0) resource_is at.scope))

    module _ (s : ScopeProfiles) (there : s ≡ get_or ss pos.scope s) (ps : List Profile) (profiles : ps ≡ s.profiles) where
      scope_is : scope_at (map resource_profiles_view rs) pos ≡ scope_profiles_view s
      scope_is =
          ap (λ (x : Value resource_profiles). get_or x.1.0 pos.scope (empty scope_profiles)) resource_is
          ∙ ap (λ xs. get_or (map scope_profiles_view xs) pos.scope (empty scope_profiles)) (sym scopes)
          ∙ seen_at scope_profiles_view ss pos.scope s (empty scope_profiles) scope_below there

      pub profile_below : pos.profile < length ps
      profile_below =
          seen_below profile_view ps pos.profile
          (subst (λ xs. pos.profile < length (map profile_view xs)) (sym profiles) (subst (λ (x : Value scope_profiles). pos.profile < length x.1.0) scope_is at.profile))

      profile_is : (p : Profile) → p ≡ get_or ps pos.profile p → profile_at (map resource_profiles_view rs) pos ≡ profile_view p
      profile_is p here =
          ap (λ (x : Value scope_profiles). get_or x.1.0 pos.profile (empty profile)) scope_is
          ∙ ap (λ xs. get_or (map profile_view xs) pos.profile (empty profile)) (sym profiles)
          ∙ seen_at profile_view ps pos.profile p (empty profile) profile_below here

      -- the record of the three that were found is that of the position
      pub record_found : (p : Profile) → p ≡ get_or ps pos.profile p
          → resource_alone (resource_profiles_view r) (scope_alone (scope_profiles_view s) (profile_view p)) ≡ record_alone (map resource_profiles_view rs) pos
      record_found p here =
          ap (λ (x : Value profile). resource_alone (resource_profiles_view r) (scope_alone (scope_profiles_view s) x)) (sym (profile_is p here))
          ∙ ap (λ (x : Value scope_profiles). resource_alone (resource_profiles_view r) (scope_alone x (profile_at (map resource_profiles_view rs) pos))) (sym scope_is)
          ∙ ap (λ (x : Value resource_profiles). resource_alone x (scope_alone (scope_at (map resource_profiles_view rs) pos) (profile_at (map resource_profiles_view rs) pos))) (sym resource_is)
