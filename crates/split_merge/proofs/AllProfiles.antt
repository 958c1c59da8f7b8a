-- The profiles of messages by their places.
use Rattle.std.proofs.Common.{◌≡◌, ◌≢◌, ℕ, zero, suc, ◌+◌, ◌<◌, ◌≤◌, Bool, true, false, List, [], ◌∷◌, ◌++◌, length, get_or, map, take, Option, None, refl, sym, ap, subst, ◌∙◌, arith, add_assoc, zero-add}
use Rattle.std.specs.Prelude.{nat_lt, sum_by}
use Rattle.std.proofs.lemmas.Bool.{ltb-false, ltb-true}
use Rattle.std.proofs.lemmas.List.Sums.{sum_by-cons, sum_by_more, sum_by_more_le}
use Rattle.std.proofs.lemmas.List.{append-nil, get_or-map, get_or_append_left, get_or-append-add, length-append, length-map}
use Rattle.schema.specs.Messages.{envelope, profile, scope, scope_profiles, resource, resource_profiles}
use Rattle.schema.specs.Shape.{Shape, Value, empty}
use Rattle.meaning.specs.Meaning.{resolve}
use Rattle.meaning.specs.Message.{tables_in}
use Rattle.meaning.specs.Tables.{Tables}
use Rattle.meaning.specs.Tree.{Tree, listed, tree}
use Rattle.meaning.proofs.Places.{map-map}
use Rattle.meaning.proofs.Trees.{elements-listed}
use Rattle.parts.specs.Records.{held, holder}
use Rattle.operations.specs.Flat.{FlatProfile, flat, flat_profile, flat_resources, flat_scopes, later, record_of}
use Rattle.operations.specs.Outlines.{head}
use Rattle.operations.proofs.Later.{first-append}
use Rattle.operations.proofs.Renumbered.{elements-each}
use Rattle.otlp_msg.specs.Checked.{value_of}
use Rattle.otlp_msg.specs.declared.checked.Checked.{Checked}
use Rattle.otlp_msg.specs.declared.path.ProfilePos.{ProfilePos}
use Rattle.otlp_msg.specs.Message.{Message, profiles_in_scopes, profiles_of, records_of}
use Rattle.draft_contents.specs.Meanings.{meaning}
use Rattle.draft_contents.specs.Singles.{IsPosition, alone, flat_index}
use Rattle.draft_contents.proofs.FlatPositions.{alone_means, element_there, index_within}
use Rattle.split_merge.specs.Places.{IsPlace, IsPositionOf, alone_at, message_at, place_index, profiles_in_records, profiles_of_all}
use Rattle.split_merge.specs.declared.places.Place.{Place}
use Rattle.split_merge.proofs.Numbers.{below_seen, seen_at}

-- ---- how many there are in one message

-- what a value means
abbrev mean : Tables → (s : Shape) → Value s → Tree
mean d s x = resolve d s (tree s x)

-- what is held by the meaning of a record
held_means : (d : Tables) (h k : Shape) (x : Value (holder h k)) → held (mean d (holder h k) x) ≡ map (mean d k) x.1.0
held_means d h k x = elements-each (resolve d k) (listed (map (tree k) x.1.0)) ∙ ap (map (resolve d k)) (elements-listed (map (tree k) x.1.0)) ∙ map-map (tree k) (resolve d k) x.1.0

module _ (d : Tables) where
  scopes_len : (r : Tree) (i j : ℕ) (ss : List (Value scope_profiles)) → length (flat_scopes r i j (map (mean d scope_profiles) ss)) ≡ profiles_in_scopes ss
  scopes_len r i j [] = refl
  scopes_len r i j (s ∷ ss) =
      let t : Tree = mean d scope_profiles s in
      let xs : List FlatProfile = map (flat_profile r (head t) i j) (held t) in
      let rest : List FlatProfile = flat_scopes r i (suc j) (map (mean d scope_profiles) ss) in
      let n : length xs ≡ length s.1.0 = length-map (held t) (flat_profile r (head t) i j) ∙ ap length (held_means d scope profile s) ∙ length-map s.1.0 (mean d profile) in
      omega (arith, length-append xs rest, n, scopes_len r i (suc j) ss, sum_by-cons (λ (x : Value scope_profiles). length x.1.0) s ss)

  records_len : (i : ℕ) (rs : List (Value resource_profiles)) → length (flat_resources i (map (mean d resource_profiles) rs)) ≡ profiles_in_records rs
  records_len i [] = refl
  records_len i (r ∷ rs) =
      let t : Tree = mean d resource_profiles r in
      let xs : List FlatProfile = flat_scopes (head t) i 0 (held t) in
      let rest : List FlatProfile = flat_resources (suc i) (map (mean d resource_profiles) rs) in
      let n : length xs ≡ profiles_in_scopes r.1.0 = ap (λ ts. length (flat_scopes (head t) i 0 ts)) (held_means d resource scope_profiles r) ∙ scopes_len (head t) i 0 r.1.0 in
      omega (arith, length-append xs rest, n, records_len (suc i) rs, sum_by-cons (λ (x : Value resource_profiles). profiles_in_scopes x.1.0) r rs)

pub flat_len : (m : Message) → length (flat (meaning m ∷ [])) ≡ profiles_of m
flat_len m = ap (λ ts. length (flat_resources 0 ts)) (append-nil (meaning m)) ∙ records_len (tables_in m.1.0) 0 m.0

-- ---- and in all

abbrev pub all : List Message → List FlatProfile
all ms = flat (map meaning ms)

all_first : (m : Message) (ms : List Message) → all (m ∷ ms) ≡ flat (meaning m ∷ []) ++ map (later (length (meaning m))) (all ms)
all_first m ms = first-append (meaning m) (map meaning ms)

pub all_len : (ms : List Message) → length (all ms) ≡ profiles_of_all ms
all_len [] = refl
all_len (m ∷ ms) =
    let xs : List FlatProfile = flat (meaning m ∷ []) in
    let ys : List FlatProfile = map (later (length (meaning m))) (all ms) in
    omega (
      arith,
      ap length (all_first m ms),
      length-append xs ys,
      flat_len m,
      length-map (all ms) (later (length (meaning m))),
      all_len ms,
      sum_by-cons profiles_of m ms,
    )

-- the profile at a place is one of them
within_all : (ms : List Message) (n : ℕ) (pos : ProfilePos) → n < length ms → IsPosition (records_of (message_at ms n)) pos
    → profiles_of_all (take n ms) + flat_index (records_of (message_at ms n)) pos < profiles_of_all ms
within_all ms n pos l at =
    let m : Message = message_at ms n in
    omega (arith, sum_by_more_le profiles_of ms n (empty envelope) l, index_within m pos at, flat_len m)

pub place_within : (ms : List Message) (place : Place) → IsPlace ms place → place_index ms place < profiles_of_all ms
place_within ms place p = within_all ms place.message place.pos p.message p.position

-- ---- the profile at a place

-- the number of resource records of the messages before
abbrev pub records_before : List Message → ℕ → ℕ
records_before ms n = sum_by (λ m. length (records_of m)) (take n ms)

later_none : (e : FlatProfile) → later 0 e ≡ e
later_none e = ap (λ n. flat_profile e.resource e.scope n e.scope_place e.profile) (zero-add e.resource_place)

later_twice : (i j : ℕ) (e : FlatProfile) → later i (later j e) ≡ later (i + j) e
later_twice i j e = ap (λ n. flat_profile e.resource e.scope n e.scope_place e.profile) (sym (add_assoc i j e.resource_place))

there : (ms : List Message) (n : ℕ) (pos : ProfilePos) (e : FlatProfile) → n < length ms → IsPosition (records_of (message_at ms n)) pos
    → get_or (all ms) (profiles_of_all (take n ms) + flat_index (records_of (message_at ms n)) pos) e
    ≡ later (records_before ms n) (get_or (flat (meaning (message_at ms n) ∷ [])) (flat_index (records_of (message_at ms n)) pos) e)
there [] n pos e l at = absurd (omega arith)
there (m ∷ ms) zero pos e l at =
    let k : ℕ = flat_index (records_of m) pos in
    let xs : List FlatProfile = flat (meaning m ∷ []) in
    let ys : List FlatProfile = map (later (length (meaning m))) (all ms) in
    let z : 0 + k ≡ k = omega arith in
    ap (λ i. get_or (all (m ∷ ms)) i e) z
    ∙ ap (λ l. get_or l k e) (all_first m ms)
    ∙ get_or_append_left xs ys e k (index_within m pos at)
    ∙ sym (later_none (get_or xs k e))
there (m ∷ ms) (suc n) pos e l at =
    let k : ℕ = flat_index (records_of (message_at ms n)) pos in
    let xs : List FlatProfile = flat (meaning m ∷ []) in
    let ys : List FlatProfile = map (later (length (meaning m))) (all ms) in
    let j : ℕ = profiles_of_all (take n ms) + k in
    let x : FlatProfile = get_or (flat (meaning (message_at ms n) ∷ [])) k e in
    let here : profiles_of_all (m ∷ take n ms) + k ≡ length xs + j = omega (arith, flat_len m, sum_by-cons profiles_of m (take n ms)) in
    let below : n < length ms = omega (arith, l) in
    let first : length (meaning m) + records_before ms n ≡ records_before (m ∷ ms) (suc n) =
    omega (arith, length-map m.0 (mean (tables_in m.1.0) resource_profiles), sum_by-cons (λ m. length (records_of m)) m (take n ms)) in
    ap (λ i. get_or (all (m ∷ ms)) i e) here
    ∙ ap (λ l. get_or l (length xs + j) e) (all_first m ms)
    ∙ get_or-append-add xs ys j e
    ∙ get_or-map (later (length (meaning m))) (all ms) j e e (omega (arith, within_all ms n pos below at, all_len ms))
    ∙ ap (later (length (meaning m))) (there ms n pos e below at)
    ∙ later_twice (length (meaning m)) (records_before ms n) x
    ∙ ap (λ i. later i x) first

module _ (ms : List Message) (place : Place) (p : IsPlace ms place) (e : FlatProfile) where
  abbrev m : Message
  m = message_at ms place.message

  abbrev in_message : FlatProfile
  in_message = get_or (flat (meaning m ∷ [])) (flat_index (records_of m) place.pos) e

  pub element_is : get_or (all ms) (place_index ms place) e ≡ later (records_before ms place.message) in_message
  element_is = there ms place.message place.pos e p.message p.position

  pub resource_place_is : (get_or (all ms) (place_index ms place) e).resource_place ≡ records_before ms place.message + place.pos.resource
  resource_place_is =
      ap (λ (x : FlatProfile). x.resource_place) element_is
      ∙ ap (λ (x : FlatProfile). records_before ms place.message + x.resource_place) (element_there m place.pos p.position e)

  pub scope_place_is : (get_or (all ms) (place_index ms place) e).scope_place ≡ place.pos.scope
  scope_place_is = ap (λ (x : FlatProfile). x.scope_place) element_is ∙ ap (λ (x : FlatProfile). x.scope_place) (element_there m place.pos p.position e)

  -- alone it means its record
  pub alone_is : meaning (alone_at ms place) ≡ record_of (get_or (all ms) (place_index ms place) e) ∷ []
  alone_is = alone_means m place.pos p.position e ∙ ap (λ (x : FlatProfile). record_of x ∷ []) (sym element_is)

-- ---- resource records of different messages

before_less : (ms : List Message) (i j : ℕ) → i ≤ j → records_before ms i ≤ records_before ms j
before_less [] zero j h = omega arith
before_less [] (suc i) zero h = absurd (omega arith)
before_less [] (suc i) (suc j) h = omega arith
before_less (m ∷ ms) zero j h = omega arith
before_less (m ∷ ms) (suc i) zero h = absurd (omega arith)
before_less (m ∷ ms) (suc i) (suc j) h =
    let f : Message → ℕ = λ m. length (records_of m) in
    omega (arith, sum_by-cons f m (take i ms), sum_by-cons f m (take j ms), before_less ms i j (omega arith))

-- those of an earlier message come before those of a later one
records_apart : (ms : List Message) (i j a b : ℕ) → i < j → i < length ms → a < length (records_of (message_at ms i))
    → records_before ms i + a ≡ records_before ms j + b → ⊥
records_apart ms i j a b h l r e =
    let f : Message → ℕ = λ m. length (records_of m) in
    absurd (omega (arith, sum_by_more f ms i (empty envelope) l, before_less ms (i + 1) j (omega arith), e, r))

pub records_differ : (t : Bool) (ms : List Message) (i j a b : ℕ) → nat_lt i j ≡ t → i ≢ j → i < length ms → j < length ms
    → a < length (records_of (message_at ms i)) → b < length (records_of (message_at ms j)) → records_before ms i + a ≡ records_before ms j + b → ⊥
records_differ true ms i j a b x h l k r q e = records_apart ms i j a b (ltb-true i j x) l r e
records_differ false ms i j a b x h l k r q e = let o = ltb-false i j x in records_apart ms j i b a (omega (arith, o, h)) k q (sym e)

-- ---- messages without profiles

-- a message without profiles changes no count
pub none_in_message : (cs : List Checked) (from i : ℕ) → i < length cs → (x : Checked) → x ≡ get_or cs i x → (rs : List (Value resource_profiles)) → rs ≡ records_of (value_of x)
    → (first : Option ProfilePos) → first ≡ None → IsPositionOf rs (profiles_in_records (take 0 rs)) first
    → profiles_of_all (take i (map value_of cs)) ≡ profiles_of_all (take from (map value_of cs))
    → profiles_of_all (take (i + 1) (map value_of cs)) ≡ profiles_of_all (take from (map value_of cs))
none_in_message cs from i l x found rs are first none p same =
    let ms : List Message = map value_of cs in
    let q : profiles_in_records rs ≡ 0 = subst (IsPositionOf rs (profiles_in_records (take 0 rs))) none p in
    let here : profiles_of (message_at ms i) ≡ 0 = ap profiles_of (seen_at value_of cs i x (empty envelope) l found) ∙ ap profiles_in_records (sym are) ∙ q in
    omega (arith, sum_by_more profiles_of ms i (empty envelope) (below_seen value_of cs i l), here, same)
