-- The numbers of profiles in the records of a message.
use Rattle.std.proofs.Common.{◌≡◌, ℕ, suc, ◌+◌, ◌<◌, ◌≤◌, List, length, get_or, map, take, Option, Some, None, sym, ap, subst, ◌∙◌, arith}
use Rattle.std.specs.Prelude.{sum_by}
use Rattle.std.proofs.lemmas.List.Sums.{sum_by_more}
use Rattle.std.proofs.lemmas.List.{get_or-map, length-map, take_all}
use Rattle.schema.specs.Messages.{scope_profiles, resource_profiles}
use Rattle.schema.specs.Shape.{Value, empty}
use Rattle.prof_rec.specs.declared.profile.Profile.{Profile}
use Rattle.prof_rec.specs.declared.resource_profiles.ResourceProfiles.{ResourceProfiles}
use Rattle.prof_rec.specs.declared.scope_profiles.ScopeProfiles.{ScopeProfiles}
use Rattle.prof_rec.specs.Views.{profile_view, resource_profiles_view, scope_profiles_view}
use Rattle.otlp_msg.specs.declared.path.ProfilePos.{ProfilePos}
use Rattle.otlp_msg.specs.Message.{profiles_in_scopes}
use Rattle.draft_contents.specs.Singles.{IsPosition, flat_index, resource_at, scope_at}
use Rattle.split_merge.specs.Places.{AreNumbersOf, IsPositionOf, IsScopeOf, profiles_in_records}

-- ---- lists that are seen by a view

-- the value at a place
pub seen_at : {X Y : Type 0} (view : X → Y) (xs : List X) (i : ℕ) (x : X) (d : Y) → i < length xs → x ≡ get_or xs i x → get_or (map view xs) i d ≡ view x
seen_at view xs i x d l e = get_or-map view xs i x d l ∙ ap view (sym e)

-- a place is one of a list where it is one of its values
pub seen_below : {X Y : Type 0} (view : X → Y) (xs : List X) (i : ℕ) → i < length (map view xs) → i < length xs
seen_below view xs i l = omega (arith, length-map xs view)

pub below_seen : {X Y : Type 0} (view : X → Y) (xs : List X) (i : ℕ) → i < length xs → i < length (map view xs)
below_seen view xs i l = omega (arith, length-map xs view)

-- ---- counts

-- with one scope record more, or one resource record more
scopes_more : (ss : List (Value scope_profiles)) (b : ℕ) → b < length ss
    → profiles_in_scopes (take (b + 1) ss) ≡ profiles_in_scopes (take b ss) + length (get_or ss b (empty scope_profiles)).1.0
scopes_more ss b l = sum_by_more (λ (s : Value scope_profiles). length s.1.0) ss b (empty scope_profiles) l

records_more : (rs : List (Value resource_profiles)) (a : ℕ) → a < length rs
    → profiles_in_records (take (a + 1) rs) ≡ profiles_in_records (take a rs) + profiles_in_scopes (get_or rs a (empty resource_profiles)).1.0
records_more rs a l = sum_by_more (λ (r : Value resource_profiles). profiles_in_scopes r.1.0) rs a (empty resource_profiles) l

-- ---- the position after one

module _ (rs : List (Value resource_profiles)) (pos : ProfilePos) (at : IsPosition rs pos) where
  abbrev scopes : List (Value scope_profiles)
  scopes = (resource_at rs pos).1.0

  -- in the same scope record
  pub next_profile : pos.profile + 1 < length (scope_at rs pos).1.0 → AreNumbersOf rs (flat_index rs pos + 1) pos.resource pos.scope (pos.profile + 1)
  next_profile l = record { resource = at.resource; scope = at.scope; profile = l; before = omega arith }

  -- in another one
  pub next_scope : (b : ℕ) → length (scope_at rs pos).1.0 ≤ pos.profile + 1 → IsScopeOf scopes (profiles_in_scopes (take (pos.scope + 1) scopes)) (Some b)
      → AreNumbersOf rs (flat_index rs pos + 1) pos.resource b 0
  next_scope b l s =
      let h = at.profile in
      record { resource = at.resource; scope = s.0; profile = s.1; before = omega (arith, scopes_more scopes pos.scope at.scope, s.2, h) }

  -- or in another resource record
  pub next_record : length (scope_at rs pos).1.0 ≤ pos.profile + 1 → IsScopeOf scopes (profiles_in_scopes (take (pos.scope + 1) scopes)) None
      → profiles_in_records (take (pos.resource + 1) rs) ≡ flat_index rs pos + 1
  next_record l s =
      let h = at.profile in
      let e : profiles_in_scopes scopes ≡ profiles_in_scopes (take (pos.scope + 1) scopes) = s in
      omega (arith, records_more rs pos.resource at.resource, scopes_more scopes pos.scope at.scope, e, h)

-- ---- the first position from a resource record on

module _ (rs : List (Value resource_profiles)) (from a : ℕ) (within : a < length rs) (same : profiles_in_records (take a rs) ≡ profiles_in_records (take from rs)) where
  abbrev there : List (Value scope_profiles)
  there = (get_or rs a (empty resource_profiles)).1.0

  pub first_numbers : (b : ℕ) → IsScopeOf there (profiles_in_scopes (take 0 there)) (Some b) → AreNumbersOf rs (profiles_in_records (take from rs)) a b 0
  first_numbers b s = record { resource = within; scope = s.0; profile = s.1; before = let e : profiles_in_scopes (take b there) ≡ 0 = s.2 in omega (arith, e, same) }

  pub none_here : IsScopeOf there (profiles_in_scopes (take 0 there)) None → profiles_in_records (take (a + 1) rs) ≡ profiles_in_records (take from rs)
  none_here s = let e : profiles_in_scopes there ≡ 0 = s in omega (arith, records_more rs a within, e, same)

-- at the end there are no more
pub none_left : (rs : List (Value resource_profiles)) (from a : ℕ) → length rs ≤ a → profiles_in_records (take a rs) ≡ profiles_in_records (take from rs)
    → profiles_in_records rs ≡ profiles_in_records (take from rs)
none_left rs from a l e = ap profiles_in_records (sym (take_all a rs l)) ∙ e

pub no_scope_left : (ss : List (Value scope_profiles)) (from b : ℕ) → length ss ≤ b → profiles_in_scopes (take b ss) ≡ profiles_in_scopes (take from ss)
    → profiles_in_scopes ss ≡ profiles_in_scopes (take from ss)
no_scope_left ss from b l e = ap profiles_in_scopes (sym (take_all b ss l)) ∙ e

-- ---- the records of the code

-- those that are found at a position
module _ (records : List ResourceProfiles) (pos : ProfilePos) (at : IsPosition (map resource_profiles_view records) pos) where
  abbrev rs : List (Value resource_profiles)
  rs = map resource_profiles_view records

  module _ (r : ResourceProfiles) (found : r ≡ get_or records pos.resource r) (ss : List ScopeProfiles) (are : ss ≡ r.scope_profiles) where
    resource_is : resource_at rs pos ≡ resource_profiles_view r
    resource_is = seen_at resource_profiles_view records pos.resource r (empty resource_profiles) (seen_below resource_profiles_view records pos.resource at.resource) found

    pub scopes_are : (resource_at rs pos).1.0 ≡ map scope_profiles_view ss
    scopes_are = ap (λ (x : Value resource_profiles). x.1.0) resource_is ∙ ap (map scope_profiles_view) (sym are)

    pub scope_below : pos.scope < length ss
    scope_below = seen_below scope_profiles_view ss pos.scope (subst (λ (xs : List (Value scope_profiles)). pos.scope < length xs) scopes_are at.scope)

    module _ (s : ScopeProfiles) (there : s ≡ get_or ss pos.scope s) where
      pub profiles_here : length (scope_at rs pos).1.0 ≡ length s.profiles
      profiles_here =
          ap (λ (xs : List (Value scope_profiles)). length (get_or xs pos.scope (empty scope_profiles)).1.0) scopes_are
          ∙ ap (λ (x : Value scope_profiles). length x.1.0) (seen_at scope_profiles_view ss pos.scope s (empty scope_profiles) scope_below there)
          ∙ length-map s.profiles profile_view

-- the scope records of the one with a number
pub scopes_of : (records : List ResourceProfiles) (a : ℕ) → a < length records → (r : ResourceProfiles) → r ≡ get_or records a r → (ss : List ScopeProfiles) → ss ≡ r.scope_profiles
    → map scope_profiles_view ss ≡ (get_or (map resource_profiles_view records) a (empty resource_profiles)).1.0
scopes_of records a l r found ss are =
    ap (map scope_profiles_view) are ∙ ap (λ (x : Value resource_profiles). x.1.0) (sym (seen_at resource_profiles_view records a r (empty resource_profiles) l found))

-- the number of profiles of the scope record with a number
pub profiles_of_scope : (scopes : List ScopeProfiles) (b : ℕ) → b < length scopes → (s : ScopeProfiles) → s ≡ get_or scopes b s
    → length (get_or (map scope_profiles_view scopes) b (empty scope_profiles)).1.0 ≡ length s.profiles
profiles_of_scope scopes b l s found =
    ap (λ (x : Value scope_profiles). length x.1.0) (seen_at scope_profiles_view scopes b s (empty scope_profiles) l found) ∙ length-map s.profiles profile_view

-- a scope record without profiles changes no count
pub empty_scope : (ss : List (Value scope_profiles)) (from b : ℕ) → b < length ss → length (get_or ss b (empty scope_profiles)).1.0 ≡ 0
    → profiles_in_scopes (take b ss) ≡ profiles_in_scopes (take from ss) → profiles_in_scopes (take (b + 1) ss) ≡ profiles_in_scopes (take from ss)
empty_scope ss from b l z e = omega (arith, scopes_more ss b l, z, e)

-- ---- a position

-- the position with these numbers
pub position_with : (rs : List (Value resource_profiles)) (n a b c : ℕ) (pos : ProfilePos) → pos.resource ≡ a → pos.scope ≡ b → pos.profile ≡ c
    → AreNumbersOf rs n a b c → IsPositionOf rs n (Some pos)
position_with rs n a b c pos e f g h =
    subst (λ (z : ℕ). AreNumbersOf rs n pos.resource pos.scope z → IsPositionOf rs n (Some pos)) g
    (λ k. (record { resource = k.resource; scope = k.scope; profile = k.profile }, k.before))
    (subst (λ (x : ℕ). AreNumbersOf rs n x pos.scope c) (sym e) (subst (λ (y : ℕ). AreNumbersOf rs n a y c) (sym f) h))
