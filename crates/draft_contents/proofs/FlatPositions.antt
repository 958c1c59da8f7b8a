-- The profile at a position in the flat list of a message's meaning.
use Rattle.std.proofs.Common.{◌≡◌, ℕ, zero, suc, ◌+◌, ◌<◌, List, [], ◌∷◌, length, get_or, map, take, refl, sym, ap, ◌∙◌, arith}
use Rattle.std.specs.Prelude.{sum_by}
use Rattle.std.proofs.lemmas.List.Sums.{sum_by-cons}
use Rattle.std.proofs.lemmas.List.{append-nil, get_or-map, get_or_append_left, get_or-append-add, length-append, length-map}
use Rattle.schema.specs.Messages.{profile, scope, scope_profiles, resource, resource_profiles}
use Rattle.schema.specs.Shape.{Shape, Value, empty}
use Rattle.meaning.specs.Meaning.{resolve}
use Rattle.meaning.specs.Message.{tables_in}
use Rattle.meaning.specs.Tables.{Tables}
use Rattle.meaning.specs.Tree.{Tree, listed, tree}
use Rattle.meaning.proofs.Places.{map-map}
use Rattle.meaning.proofs.Trees.{elements-listed}
use Rattle.parts.specs.Records.{held, holder}
use Rattle.operations.specs.Flat.{FlatProfile, flat, flat_profile, flat_resources, flat_scopes, group}
use Rattle.operations.specs.Outlines.{head}
use Rattle.operations.proofs.Renumbered.{elements-each}
use Rattle.otlp_msg.specs.declared.path.ProfilePos.{ProfilePos}
use Rattle.otlp_msg.specs.Message.{Message, profiles_in_scopes}
use Rattle.draft_contents.specs.Meanings.{meaning}
use Rattle.draft_contents.specs.Singles.{IsPosition, alone, flat_index, profile_at, resource_at, scope_at}

-- what a value means
abbrev mean : Tables → (s : Shape) → Value s → Tree
mean d s x = resolve d s (tree s x)

-- what is held by the meaning of a record
held_means : (d : Tables) (h k : Shape) (x : Value (holder h k)) → held (mean d (holder h k) x) ≡ map (mean d k) x.1.0
held_means d h k x = elements-each (resolve d k) (listed (map (tree k) x.1.0)) ∙ ap (map (resolve d k)) (elements-listed (map (tree k) x.1.0)) ∙ map-map (tree k) (resolve d k) x.1.0

-- the number of profiles with one record more in front
scopes_more : (s : Value scope_profiles) (ss : List (Value scope_profiles)) → profiles_in_scopes (s ∷ ss) ≡ length s.1.0 + profiles_in_scopes ss
scopes_more s ss = sum_by-cons (λ (x : Value scope_profiles). length x.1.0) s ss

abbrev profiles_in : List (Value resource_profiles) → ℕ
profiles_in rs = sum_by (λ r. profiles_in_scopes r.1.0) rs

resources_more : (r : Value resource_profiles) (rs : List (Value resource_profiles)) → profiles_in (r ∷ rs) ≡ profiles_in_scopes r.1.0 + profiles_in rs
resources_more r rs = sum_by-cons (λ (x : Value resource_profiles). profiles_in_scopes x.1.0) r rs

module _ (d : Tables) where
  -- ---- the profiles of a scope record

  module _ (f : Tree → FlatProfile) (s : Value scope_profiles) where
    profiles_len : length (map f (held (mean d scope_profiles s))) ≡ length s.1.0
    profiles_len = length-map (held (mean d scope_profiles s)) f ∙ ap length (held_means d scope profile s) ∙ length-map s.1.0 (mean d profile)

    profile_there : (k : ℕ) (e : FlatProfile) → k < length s.1.0 → get_or (map f (held (mean d scope_profiles s))) k e ≡ f (mean d profile (get_or s.1.0 k (empty profile)))
    profile_there k e l =
        let t : Tree = mean d profile (empty profile) in
        ap (λ ts. get_or (map f ts) k e) (held_means d scope profile s)
        ∙ get_or-map f (map (mean d profile) s.1.0) k t e (omega (arith, l, length-map s.1.0 (mean d profile)))
        ∙ ap f (get_or-map (mean d profile) s.1.0 k (empty profile) t l)

  -- ---- those of scope records

  -- those of the first, and of the others
  abbrev scopes_flat : Tree → ℕ → ℕ → List (Value scope_profiles) → List FlatProfile
  scopes_flat r i j ss = flat_scopes r i j (map (mean d scope_profiles) ss)

  scopes_len : (r : Tree) (i j : ℕ) (ss : List (Value scope_profiles)) → length (scopes_flat r i j ss) ≡ profiles_in_scopes ss
  scopes_len r i j [] = refl
  scopes_len r i j (s ∷ ss) =
      let f : Tree → FlatProfile = flat_profile r (head (mean d scope_profiles s)) i j in
      let xs : List FlatProfile = map f (held (mean d scope_profiles s)) in
      omega (arith, length-append xs (scopes_flat r i (suc j) ss), profiles_len f s, scopes_len r i (suc j) ss, scopes_more s ss)

  scope_there : (r : Tree) (i j : ℕ) (ss : List (Value scope_profiles)) (b k : ℕ) (e : FlatProfile) → b < length ss → k < length (get_or ss b (empty scope_profiles)).1.0
      → get_or (scopes_flat r i j ss) (profiles_in_scopes (take b ss) + k) e
      ≡ flat_profile r (head (mean d scope_profiles (get_or ss b (empty scope_profiles)))) i (j + b) (mean d profile (get_or (get_or ss b (empty scope_profiles)).1.0 k (empty profile)))
  scope_there r i j [] b k e l q = absurd (omega arith)
  scope_there r i j (s ∷ ss) zero k e l q =
      let p : Tree = mean d profile (get_or s.1.0 k (empty profile)) in
      let f : Tree → FlatProfile = flat_profile r (head (mean d scope_profiles s)) i j in
      let xs : List FlatProfile = map f (held (mean d scope_profiles s)) in
      let here : 0 + k ≡ k = omega arith in
      let place : j ≡ j + 0 = omega arith in
      ap (λ n. get_or (scopes_flat r i j (s ∷ ss)) n e) here
      ∙ get_or_append_left xs (scopes_flat r i (suc j) ss) e k (omega (arith, q, profiles_len f s))
      ∙ profile_there f s k e q ∙ ap (λ n. flat_profile r (head (mean d scope_profiles s)) i n p) place
  scope_there r i j (s ∷ ss) (suc b) k e l q =
      let f : Tree → FlatProfile = flat_profile r (head (mean d scope_profiles s)) i j in
      let xs : List FlatProfile = map f (held (mean d scope_profiles s)) in
      let t : Value scope_profiles = get_or ss b (empty scope_profiles) in
      let n : ℕ = profiles_in_scopes (take b ss) + k in
      let here : profiles_in_scopes (s ∷ take b ss) + k ≡ length xs + n = omega (arith, profiles_len f s, scopes_more s (take b ss)) in
      let place : suc j + b ≡ j + suc b = omega arith in
      ap (λ m. get_or (scopes_flat r i j (s ∷ ss)) m e) here
      ∙ get_or-append-add xs (scopes_flat r i (suc j) ss) n e
      ∙ scope_there r i (suc j) ss b k e (omega (arith, l)) q
      ∙ ap (λ m. flat_profile r (head (mean d scope_profiles t)) i m (mean d profile (get_or t.1.0 k (empty profile)))) place

  -- a place before the end
  profile_before : (ss : List (Value scope_profiles)) (b k : ℕ) → b < length ss → k < length (get_or ss b (empty scope_profiles)).1.0
      → profiles_in_scopes (take b ss) + k < profiles_in_scopes ss
  profile_before [] b k l q = absurd (omega arith)
  profile_before (s ∷ ss) zero k l q = let u : k < length s.1.0 = q in omega (arith, u, scopes_more s ss)
  profile_before (s ∷ ss) (suc b) k l q = omega (arith, profile_before ss b k (omega (arith, l)) q, scopes_more s ss, scopes_more s (take b ss))

  -- ---- and those of resource records

  abbrev resources_flat : ℕ → List (Value resource_profiles) → List FlatProfile
  resources_flat i rs = flat_resources i (map (mean d resource_profiles) rs)

  abbrev first_flat : ℕ → Value resource_profiles → List FlatProfile
  first_flat i r = flat_scopes (head (mean d resource_profiles r)) i 0 (held (mean d resource_profiles r))

  first_is : (i : ℕ) (r : Value resource_profiles) → first_flat i r ≡ scopes_flat (head (mean d resource_profiles r)) i 0 r.1.0
  first_is i r = ap (flat_scopes (head (mean d resource_profiles r)) i 0) (held_means d resource scope_profiles r)

  first_len : (i : ℕ) (r : Value resource_profiles) → length (first_flat i r) ≡ profiles_in_scopes r.1.0
  first_len i r = ap length (first_is i r) ∙ scopes_len (head (mean d resource_profiles r)) i 0 r.1.0

  resources_len : (i : ℕ) (rs : List (Value resource_profiles)) → length (resources_flat i rs) ≡ profiles_in rs
  resources_len i [] = refl
  resources_len i (r ∷ rs) = omega (arith, length-append (first_flat i r) (resources_flat (suc i) rs), first_len i r, resources_len (suc i) rs, resources_more r rs)

  module _ (b k : ℕ) (e : FlatProfile) where
    resource_there : (i : ℕ) (rs : List (Value resource_profiles)) (a : ℕ) → a < length rs → b < length (get_or rs a (empty resource_profiles)).1.0
        → k < length (get_or (get_or rs a (empty resource_profiles)).1.0 b (empty scope_profiles)).1.0
        → get_or (resources_flat i rs) (profiles_in (take a rs) + (profiles_in_scopes (take b (get_or rs a (empty resource_profiles)).1.0) + k)) e
        ≡ flat_profile (head (mean d resource_profiles (get_or rs a (empty resource_profiles)))) (head (mean d scope_profiles (get_or (get_or rs a (empty resource_profiles)).1.0 b (empty scope_profiles))))
        (i + a) b (mean d profile (get_or (get_or (get_or rs a (empty resource_profiles)).1.0 b (empty scope_profiles)).1.0 k (empty profile)))
    resource_there i [] a l q u = absurd (omega arith)
    resource_there i (r ∷ rs) zero l q u =
        let h : Tree = head (mean d resource_profiles r) in
        let s : Value scope_profiles = get_or r.1.0 b (empty scope_profiles) in
        let p : Tree = mean d profile (get_or s.1.0 k (empty profile)) in
        let n : ℕ = profiles_in_scopes (take b r.1.0) + k in
        let here : 0 + n ≡ n = omega arith in
        let place : 0 + b ≡ b = omega arith in
        let first : i ≡ i + 0 = omega arith in
        ap (λ m. get_or (resources_flat i (r ∷ rs)) m e) here
        ∙ get_or_append_left (first_flat i r) (resources_flat (suc i) rs) e n (omega (arith, first_len i r, profile_before r.1.0 b k q u))
        ∙ ap (λ xs. get_or xs n e) (first_is i r) ∙ scope_there h i 0 r.1.0 b k e q u
        ∙ ap (λ m. flat_profile h (head (mean d scope_profiles s)) i m p) place ∙ ap (λ m. flat_profile h (head (mean d scope_profiles s)) m b p) first
    resource_there i (r ∷ rs) (suc a) l q u =
        let t : Value resource_profiles = get_or rs a (empty resource_profiles) in
        let s : Value scope_profiles = get_or t.1.0 b (empty scope_profiles) in
        let n : ℕ = profiles_in (take a rs) + (profiles_in_scopes (take b t.1.0) + k) in
        let here : profiles_in (r ∷ take a rs) + (profiles_in_scopes (take b t.1.0) + k) ≡ length (first_flat i r) + n = omega (arith, first_len i r, resources_more r (take a rs)) in
        let place : suc i + a ≡ i + suc a = omega arith in
        ap (λ m. get_or (resources_flat i (r ∷ rs)) m e) here
        ∙ get_or-append-add (first_flat i r) (resources_flat (suc i) rs) n e
        ∙ resource_there (suc i) rs a (omega (arith, l)) q u
        ∙ ap (λ m. flat_profile (head (mean d resource_profiles t)) (head (mean d scope_profiles s)) m b (mean d profile (get_or s.1.0 k (empty profile)))) place

  -- a place before the end
  resource_before : (rs : List (Value resource_profiles)) (a n : ℕ) → a < length rs → n < profiles_in_scopes (get_or rs a (empty resource_profiles)).1.0
      → profiles_in (take a rs) + n < profiles_in rs
  resource_before [] a n l q = absurd (omega arith)
  resource_before (r ∷ rs) zero n l q = let u : n < profiles_in_scopes r.1.0 = q in omega (arith, u, resources_more r rs)
  resource_before (r ∷ rs) (suc a) n l q = omega (arith, resource_before rs a n (omega (arith, l)) q, resources_more r rs, resources_more r (take a rs))

-- ---- of a message

module _ (m : Message) (pos : ProfilePos) (at : IsPosition m.0 pos) where
  abbrev d : Tables
  d = tables_in m.1.0

  whole_flat : flat (meaning m ∷ []) ≡ resources_flat d 0 m.0
  whole_flat = ap (flat_resources 0) (append-nil (meaning m))

  pub index_within : flat_index m.0 pos < length (flat (meaning m ∷ []))
  index_within =
      omega (
        arith,
        ap length whole_flat,
        resources_len d 0 m.0,
        resource_before d m.0 pos.resource (profiles_in_scopes (take pos.scope (resource_at m.0 pos).1.0) + pos.profile) at.resource
            (profile_before d (resource_at m.0 pos).1.0 pos.scope pos.profile at.scope at.profile),
      )

  -- the element there
  abbrev element : FlatProfile
  element =
      flat_profile (head (mean d resource_profiles (resource_at m.0 pos))) (head (mean d scope_profiles (scope_at m.0 pos))) pos.resource pos.scope (mean d profile (profile_at m.0 pos))

  pub element_there : (e : FlatProfile) → get_or (flat (meaning m ∷ [])) (flat_index m.0 pos) e ≡ element
  element_there e =
      let place : 0 + pos.resource ≡ pos.resource = omega arith in
      ap (λ xs. get_or xs (flat_index m.0 pos) e) whole_flat
      ∙ resource_there d pos.scope pos.profile e 0 m.0 pos.resource at.resource at.scope at.profile
      ∙ ap
      (λ n. flat_profile (head (mean d resource_profiles (resource_at m.0 pos))) (head (mean d scope_profiles (scope_at m.0 pos))) n pos.scope (mean d profile (profile_at m.0 pos)))
      place

  -- alone it means the record of this element
  pub alone_means : (e : FlatProfile) → meaning (alone m pos) ≡ group (get_or (flat (meaning m ∷ [])) (flat_index m.0 pos) e ∷ [])
  alone_means e = ap (λ x. group (x ∷ [])) (sym (element_there e))
