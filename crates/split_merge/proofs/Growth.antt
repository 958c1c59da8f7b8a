-- A part that grows by one profile, and a part that is whole.
use Rattle.std.proofs.Common.{◌≡◌, ◌≢◌, ℕ, zero, suc, ◌+◌, ◌-◌, ◌<◌, ◌≤◌, ◌⊎◌, inl, inr, Bool, true, false, List, [], ◌∷◌, ◌++◌, length, get_or, map, take, drop, Option, Some, None, refl, sym, ap, subst, ◌∙◌, arith}
use Rattle.std.specs.Prelude.{nat_lt, ◌==◌, if◌then◌else◌}
use Rattle.std.specs.List.{flat_map}
use Rattle.std.proofs.Math.Seq.{take-suc}
use Rattle.std.proofs.lemmas.Bool.{eqb-false, eqb-true}
use Rattle.std.proofs.lemmas.List.{get_or-drop, length-drop, take-append-drop}
use Rattle.schema.specs.Each.{Each}
use Rattle.schema.specs.Messages.{resource_profiles}
use Rattle.meaning.specs.Message.{meaning_text}
use Rattle.meaning.specs.Tree.{Tree, Nil}
use Rattle.operations.specs.Cuts.{first_length, size_of}
use Rattle.operations.specs.Flat.{FlatProfile, HasHeadsOf, flat_profile, group, record_of}
use Rattle.operations.specs.Seams.{seam, under_last}
use Rattle.operations.proofs.Growing.{prefix-shorter}
use Rattle.operations.proofs.HeadPlaces.{flat-placed}
use Rattle.operations.proofs.Longest.{longest-is}
use Rattle.operations.proofs.Prefixes.{each_left_over, prefix-elsewhere, prefix-profile, prefix-scope}
use Rattle.otlp_msg.specs.Message.{Message, message_limit}
use Rattle.draft_contents.specs.Contents.{Contents}
use Rattle.draft_contents.specs.Draft.{IsFaultOfPlaced, StandsFor, StandsWithin}
use Rattle.draft_contents.specs.Meanings.{Meaning, meaning, placed}
use Rattle.draft_contents.specs.declared.fault.BuildFault.TheVariants.{OutputLimit}
use Rattle.draft_contents.specs.declared.incoming.Joining.{Joining}
use Rattle.draft_contents.specs.declared.incoming.Joining.TheVariants.{Resource, Scope, Seam}
use Rattle.split_merge.specs.PartSteps.{GrowsPart, HoldsPart, IsGrowing, IsWholePart, joining_after, left_from}
use Rattle.split_merge.specs.Places.{IsPlace, IsPlaceOf, alone_at, place_index, profiles_of_all}
use Rattle.split_merge.specs.declared.cutting.Growth.TheVariants.{More, Ends}
use Rattle.split_merge.specs.declared.places.Place.{Place}
use Rattle.split_merge.proofs.AllProfiles.{all, all_len, alone_is, place_within, records_before, records_differ, resource_place_is, scope_place_is}

abbrev bytes_of : Meaning → ℕ
bytes_of ms = length (meaning_text resource_profiles ms)

-- a flat profile, for where there is none
abbrev other : FlatProfile
other = flat_profile Nil Nil 0 0 Nil

-- how many profiles are left
pub left_len : (ms : List Message) (before : ℕ) → length (left_from ms before) ≡ profiles_of_all ms - before
left_len ms before = length-drop before (all ms) ∙ ap (λ n. n - before) (all_len ms)

-- one of them
left_at-is : (ms : List Message) (before n k : ℕ) → before + n ≡ k → get_or (left_from ms before) n other ≡ get_or (all ms) k other
left_at-is ms before n k e = get_or-drop before (all ms) n other ∙ ap (λ i. get_or (all ms) i other) e

-- each has the heads of the records at its places
abbrev all_records : List Message → List Tree
all_records ms = flat_map (λ m. m) (map meaning ms)

left_placed : (ms : List Message) (before : ℕ) → Each (HasHeadsOf (all_records ms)) (left_from ms before)
left_placed ms before = each_left_over (HasHeadsOf (all_records ms)) before (all ms) (flat-placed (map meaning ms))

-- the first of them, alone
first_is : (ms : List Message) (first : Place) → IsPlace ms first → take 1 (left_from ms (place_index ms first)) ≡ get_or (all ms) (place_index ms first) other ∷ []
first_is ms first p =
    let before : ℕ = place_index ms first in
    let some : 0 < length (left_from ms before) = omega (arith, left_len ms before, place_within ms first p) in
    take-suc (left_from ms before) 0 other some ∙ ap (λ (x : FlatProfile). x ∷ []) (left_at-is ms before 0 before (omega arith))

pub first_alone : (ms : List Message) (first : Place) → IsPlace ms first → group (take 1 (left_from ms (place_index ms first))) ≡ meaning (alone_at ms first)
first_alone ms first p = ap group (first_is ms first p) ∙ sym (alone_is ms first p other)

-- ---- one profile more

module _ (ms : List Message) (last place : Place) (p : IsPlace ms last) (q : IsPlace ms place) (next : place_index ms place ≡ suc (place_index ms last))
    (before n : ℕ) (ends : before + suc n ≡ suc (place_index ms last)) where
  abbrev l : List FlatProfile
  l = left_from ms before

  long : suc n < length l
  long = omega (arith, left_len ms before, place_within ms place q)

  this_is : get_or l n other ≡ get_or (all ms) (place_index ms last) other
  this_is = left_at-is ms before n (place_index ms last) (omega arith)

  next_is : get_or l (suc n) other ≡ get_or (all ms) (place_index ms place) other
  next_is = left_at-is ms before (suc n) (place_index ms place) (omega arith)

  -- it means its record
  means : record_of (get_or l (suc n) other) ∷ [] ≡ meaning (alone_at ms place)
  means = ap (λ (x : FlatProfile). record_of x ∷ []) next_is ∙ sym (alone_is ms place q other)

  -- the places of both
  this_resource : (get_or l n other).resource_place ≡ records_before ms last.message + last.pos.resource
  this_resource = ap (λ (x : FlatProfile). x.resource_place) this_is ∙ resource_place_is ms last p other

  next_resource : (get_or l (suc n) other).resource_place ≡ records_before ms place.message + place.pos.resource
  next_resource = ap (λ (x : FlatProfile). x.resource_place) next_is ∙ resource_place_is ms place q other

  this_scope : (get_or l n other).scope_place ≡ last.pos.scope
  this_scope = ap (λ (x : FlatProfile). x.scope_place) this_is ∙ scope_place_is ms last p other

  next_scope : (get_or l (suc n) other).scope_place ≡ place.pos.scope
  next_scope = ap (λ (x : FlatProfile). x.scope_place) next_is ∙ scope_place_is ms place q other

  abbrev Joins : Joining → Type 0
  Joins how = group (take (suc (suc n)) l) ≡ placed how (group (take (suc n) l)) (alone_at ms place)

  elsewhere : ((get_or l n other).resource_place ≡ (get_or l (suc n) other).resource_place → ⊥) → Joins Resource
  elsewhere h = prefix-elsewhere l n other long h ∙ ap (λ x. group (take (suc n) l) ++ x) means

  -- in different messages
  messages_apart : last.message ≢ place.message → (get_or l n other).resource_place ≡ (get_or l (suc n) other).resource_place → ⊥
  messages_apart h e =
      let a = p.position in
      let b = q.position in
      records_differ (nat_lt last.message place.message) ms last.message place.message last.pos.resource place.pos.resource refl h p.message q.message a.resource b.resource
      (sym this_resource ∙ e ∙ next_resource)

  -- in one message
  resources_apart : last.message ≡ place.message → last.pos.resource ≢ place.pos.resource → (get_or l n other).resource_place ≡ (get_or l (suc n) other).resource_place → ⊥
  resources_apart m h e = h (omega (arith, sym this_resource ∙ e ∙ next_resource, ap (records_before ms) m))

  one_resource : last.message ≡ place.message → last.pos.resource ≡ place.pos.resource → (get_or l n other).resource_place ≡ (get_or l (suc n) other).resource_place
  one_resource m r = omega (arith, this_resource, next_resource, ap (records_before ms) m, r)

  by_tests : (tm tr ts : Bool) → (last.message == place.message) ≡ tm → (last.pos.resource == place.pos.resource) ≡ tr → (last.pos.scope == place.pos.scope) ≡ ts
      → Joins (if tm then (if tr then (if ts then Seam else Scope) else Resource) else Resource)
  by_tests false tr ts a b c = elsewhere (messages_apart (eqb-false _ _ a))
  by_tests true false ts a b c = elsewhere (resources_apart (eqb-true _ _ a) (eqb-false _ _ b))
  by_tests true true false a b c =
      prefix-scope (all_records ms) l n other (left_placed ms before) long (one_resource (eqb-true _ _ a) (eqb-true _ _ b))
      (λ e. eqb-false _ _ c (sym this_scope ∙ e ∙ next_scope)) ∙ ap (λ x. under_last (group (take (suc n) l)) x) means
  by_tests true true true a b c =
      prefix-profile (all_records ms) l n other (left_placed ms before) long (one_resource (eqb-true _ _ a) (eqb-true _ _ b))
      (this_scope ∙ eqb-true _ _ c ∙ sym next_scope) ∙ ap (λ x. seam (group (take (suc n) l)) x) means

  joins : Joins (joining_after last place)
  joins = by_tests (last.message == place.message) (last.pos.resource == place.pos.resource) (last.pos.scope == place.pos.scope) refl refl refl

-- so it is after any number of profiles
joins_after : (ms : List Message) (last place : Place) → IsPlace ms last → IsPlace ms place → place_index ms place ≡ suc (place_index ms last)
    → (before count : ℕ) → 0 < count → before + count ≡ suc (place_index ms last)
    → group (take (suc count) (left_from ms before)) ≡ placed (joining_after last place) (group (take count (left_from ms before))) (alone_at ms place)
joins_after ms last place p q next before zero h ends = absurd (omega arith)
joins_after ms last place p q next before (suc n) h ends = joins ms last place p q next before n ends

-- ---- the part grows

pub grown : (ms : List Message) (limit : ℕ) (last place : Place) (c d : Contents) → IsPlace ms last → IsPlaceOf ms (suc (place_index ms last)) (Some place)
    → (how : Joining) → how ≡ joining_after last place → StandsWithin limit how c d (alone_at ms place) → GrowsPart ms limit last c d (More place)
grown ms limit last place c d p q how same t = (
  q.1,
  λ before g.
      let h = g.holds in
      let s : StandsWithin limit (joining_after last place) c d (alone_at ms place) = subst (λ (x : Joining). StandsWithin limit x c d (alone_at ms place)) same t in
      let e = joins_after ms last place p q.0 q.1 before g.count h.some g.ends in
      let r = s (group (take g.count (left_from ms before))) h.stands in
      record {
        count = suc g.count;
        place = q.0;
        ends = omega (arith, g.ends, q.1);
        holds = record {
          some = omega arith;
          within = omega (arith, place_within ms place q.0, q.1, g.ends);
          stands = subst (StandsFor d) (sym e) r.0;
          fits = inr (subst (λ x. bytes_of x ≤ limit) (sym e) r.1);
        };
      },
)

-- the first profile is a part
pub begun : (ms : List Message) (limit : ℕ) (first : Place) (c d : Contents) → IsPlace ms first → StandsFor c []
    → StandsWithin message_limit Resource c d (alone_at ms first) → IsGrowing ms limit (place_index ms first) first d
begun ms limit first c d p empty s = record {
  count = 1;
  place = p;
  ends = omega arith;
  holds = record {
    some = omega arith;
    within = omega (arith, place_within ms first p);
    stands = subst (StandsFor d) (sym (first_alone ms first p)) (s [] empty).0;
    fits = inl refl;
  };
}

-- ---- the part is whole

module _ (ms : List Message) (limit : ℕ) (last : Place) (c : Contents) (before : ℕ) (g : IsGrowing ms limit before last c) where
  abbrev rest : List FlatProfile
  rest = left_from ms before

  whole : (next : Option Place) → IsPlaceOf ms (suc (place_index ms last)) next → (g.count ≡ length rest) ⊎ (limit < size_of (take (suc g.count) rest))
      → IsWholePart ms limit before next c
  whole next q end =
      let h = g.holds in
      let few : g.count ≤ length rest = omega (arith, left_len ms before, h.within) in
      let n : first_length limit rest ≡ g.count = longest-is limit rest g.count h.some few h.fits end in
      let e : suc (place_index ms last) ≡ before + first_length limit rest = omega (arith, n, g.ends) in
      record { stands = subst (λ k. StandsFor c (group (take k rest))) (sym n) h.stands; follows = subst (λ k. IsPlaceOf ms k next) e q }

-- where no profile is left
pub whole_at_end : (ms : List Message) (limit : ℕ) (last : Place) (c : Contents) → IsPlaceOf ms (suc (place_index ms last)) None
    → GrowsPart ms limit last c c (Ends None)
whole_at_end ms limit last c q before g =
    let all_are : profiles_of_all ms ≡ suc (place_index ms last) = q in
    whole ms limit last c before g None q (inl (omega (arith, left_len ms before, g.ends, all_are)))

-- and where the next one would be too much
pub whole_in_limit : (ms : List Message) (limit : ℕ) (last place : Place) (c d : Contents) (size : ℕ) → IsPlace ms last
    → IsPlaceOf ms (suc (place_index ms last)) (Some place) → d ≡ c
    → (how : Joining) → how ≡ joining_after last place → IsFaultOfPlaced limit how c (alone_at ms place) (OutputLimit size)
    → GrowsPart ms limit last c d (Ends (Some place))
whole_in_limit ms limit last place c d size p q same how is t before g =
    let h = g.holds in
    let f : IsFaultOfPlaced limit (joining_after last place) c (alone_at ms place) (OutputLimit size) =
    subst (λ (x : Joining). IsFaultOfPlaced limit x c (alone_at ms place) (OutputLimit size)) is t in
    let e = joins_after ms last place p q.0 q.1 before g.count h.some g.ends in
    let r = f (group (take g.count (left_from ms before))) h.stands in
    let many : limit < bytes_of (group (take (suc g.count) (left_from ms before))) =
    subst (λ x. limit < bytes_of x) (sym e) (subst (λ n. limit < n) r.0 r.1) in
    subst (λ x. IsWholePart ms limit before (Some place) x) (sym same) (whole ms limit last c before g (Some place) q (inr many))
