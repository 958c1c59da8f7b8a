-- The last heads of a draft after one profile, and what is known of them before the next one.
use Rattle.std.proofs.Common.{◌≡◌, ℕ, ℤ, suc, List, [], ◌∷◌, ◌++◌, map, drop, get_or, Option, Some, None, Bool, true, false, cond, ◌⊎◌, inl, inr, refl, sym, ap, ◌∙◌, subst, arith}
use Rattle.std.proofs.lemmas.Bool.{and_from, and_parts}
use Rattle.std.proofs.lemmas.Slice.Eq.{bytes_eq-Decides}
use Rattle.std.specs.Str.{bytes_eq}
use Rattle.schema.specs.Messages.{profile, resource, scope, scope_profiles, resource_profiles}
use Rattle.schema.specs.Moved.{moved}
use Rattle.schema.specs.Shape.{Shape, Index, One, Many, Table, Value, empty}
use Rattle.schema.specs.Spell.{spell}
use Rattle.schema.specs.Texts.{bytes_field}
use Rattle.schema_laws.proofs.MovedValues.{each_is_map}
use Rattle.meaning.specs.Memo.{index_in}
use Rattle.meaning.specs.Renumbering.{is_plain}
use Rattle.key_tables.specs.Keys.{at}
use Rattle.otlp_msg.specs.declared.path.ProfilePos.{ProfilePos}
use Rattle.otlp_msg.specs.Message.{Message, records_of}
use Rattle.parts.specs.LastHeads.{LastHeads, heads_from, is_head, last_heads, repeated_head, repeated_parts}
use Rattle.parts.specs.Parts.{RecordPart, ResourceBegins, ScopeBegins, ProfileText}
use Rattle.parts.specs.Values.{value_parts}
use Rattle.parts.proofs.LastHeads.{last_heads-append}
use Rattle.renumber.specs.Walk.{State}
use Rattle.draft_contents.specs.Adding.{AreRenumbered, left_parts, moved_parts, resources_moved}
use Rattle.draft_contents.specs.Repeats.{AreKnown, HeadsStand, repeats_resource, repeats_scope}
use Rattle.draft_contents.specs.Singles.{profile_at, record_alone, resource_at, scope_at, single_record, single_scope}
use Rattle.draft_contents.specs.declared.incoming.Joining.{Joining}
use Rattle.draft_contents.specs.declared.incoming.Joining.TheVariants.{Resource, Scope, Seam}
use Rattle.draft_contents.specs.declared.known.KnownHeads.{KnownHeads}
use Rattle.draft_contents.specs.declared.known.KnownHeads.TheVariants as known
use Rattle.draft_contents.specs.declared.single.Single.{Single}

-- ---- values without indexes

each_stays : {A : Type 0} (f : A → A) → ((x : A) → f x ≡ x) → (xs : List A) → map f xs ≡ xs
each_stays f h [] = refl
each_stays f h (x ∷ xs) = ap (λ y. y ∷ map f xs) (h x) ∙ ap (λ ys. x ∷ ys) (each_stays f h xs)

-- new indexes change nothing where there is none
plain_stays : (to : Table → ℤ → ℤ) (s : Shape) → is_plain s ≡ true → (v : Value s) → moved to s v ≡ v
plain_stays to (Index T k) p v = absurd cc
plain_stays to (One n k rest) p v =
    let q = and_parts (is_plain k) (is_plain rest) p in
    ap (λ (x : Value k). (x, moved to rest v.1)) (plain_stays to k q.0 v.0) ∙ ap (λ (y : Value rest). (v.0, y)) (plain_stays to rest q.1 v.1)
plain_stays to (Many n k rest) p v =
    let q = and_parts (is_plain k) (is_plain rest) p in
    ap (λ (xs : List (Value k)). (xs, moved to rest v.1)) (each_is_map to k v.0 ∙ each_stays (moved to k) (plain_stays to k q.0) v.0)
    ∙ ap (λ (y : Value rest). (v.0, y)) (plain_stays to rest q.1 v.1)
plain_stays to s p v = refl

-- ---- heads

-- these two heads
abbrev both_heads : Option (List ℕ × List ℕ) → Option (List ℕ × List ℕ) → LastHeads
both_heads r s = record { resource = r; scope = s }

-- the head of a resource record, and that of a scope record
abbrev resource_head : Value resource → List ℕ → Option (List ℕ × List ℕ)
resource_head v url = Some (bytes_field 1 (spell resource v), bytes_field 3 url)

abbrev scope_head : Value scope → List ℕ → Option (List ℕ × List ℕ)
scope_head v url = Some (bytes_field 1 (spell scope v), bytes_field 3 url)

-- new indexes change none
resource_stays : (to : Table → ℤ → ℤ) (v : Value resource) (url : List ℕ) → resource_head (moved to resource v) url ≡ resource_head v url
resource_stays to v url = ap (λ (x : Value resource). resource_head x url) (plain_stays to resource refl v)

scope_stays : (to : Table → ℤ → ℤ) (v : Value scope) (url : List ℕ) → scope_head (moved to scope v) url ≡ scope_head v url
scope_stays to v url = ap (λ (x : Value scope). scope_head x url) (plain_stays to scope refl v)

-- what the test of heads says
head_is : (o : Option (List ℕ × List ℕ)) (f b : List ℕ) → is_head o f b ≡ true → o ≡ Some (f, b)
head_is None f b e = absurd cc
head_is (Some h) f b e =
    let q = and_parts (bytes_eq h.0 f) (bytes_eq h.1 b) e in
    ap (λ (x : List ℕ). Some (x, h.1)) ((bytes_eq-Decides h.0 f).0 q.0) ∙ ap (λ (y : List ℕ). Some (f, y)) ((bytes_eq-Decides h.1 b).0 q.1)

is_itself : (o : Option (List ℕ × List ℕ)) (f b : List ℕ) → o ≡ Some (f, b) → is_head o f b ≡ true
is_itself o f b e = ap (λ x. is_head x f b) e ∙ and_from (bytes_eq f f) (bytes_eq b b) ((bytes_eq-Decides f f).1 refl) ((bytes_eq-Decides b b).1 refl)

-- ---- after a profile

module _ (f b g c t : List ℕ) where
  -- the parts of a record that holds one profile
  abbrev one : List RecordPart
  one = ResourceBegins f b ∷ ScopeBegins g c ∷ ProfileText t ∷ []

  after_scope : (l : LastHeads) (x : Bool) → is_head l.resource f b ≡ x → heads_from l (drop (cond x 1 0) one) ≡ both_heads (Some (f, b)) (Some (g, c))
  after_scope l true e = ap (λ o. both_heads o (Some (g, c))) (head_is l.resource f b e)
  after_scope l false e = refl

  after_seam : (l : LastHeads) (x y : Bool) → is_head l.resource f b ≡ x → is_head l.scope g c ≡ y
      → heads_from l (drop (cond x (suc (cond y 1 0)) 0) one) ≡ both_heads (Some (f, b)) (Some (g, c))
  after_seam l true true e h = ap (λ o. both_heads o l.scope) (head_is l.resource f b e) ∙ ap (both_heads (Some (f, b))) (head_is l.scope g c h)
  after_seam l true false e h = ap (λ o. both_heads o (Some (g, c))) (head_is l.resource f b e)
  after_seam l false y e h = refl

  -- however it comes to others, its heads are the last ones
  after_one : (how : Joining) (before : List RecordPart) → last_heads (before ++ left_parts how before one) ≡ both_heads (Some (f, b)) (Some (g, c))
  after_one Resource before = last_heads-append before one
  after_one Scope before =
      let l = last_heads before in
      last_heads-append before (left_parts Scope before one) ∙ after_scope l (is_head l.resource f b) refl
  after_one Seam before =
      let l = last_heads before in
      last_heads-append before (left_parts Seam before one) ∙ after_seam l (is_head l.resource f b) (is_head l.scope g c) refl refl

-- after a profile was put its heads stand
pub put_heads_stand : (how : Joining) (a b : State) (before after : List RecordPart) (m : Message) (pos : ProfilePos) (x : Value resource_profiles) → x ≡ record_alone (records_of m) pos
    → AreRenumbered how a b before after (x ∷ []) → HeadsStand pos after m
put_heads_stand how a b before after m pos x e q =
    let to : Table → ℤ → ℤ = index_in (at b.memo) in
    let r : Value resource_profiles = resource_at (records_of m) pos in
    let s : Value scope_profiles = scope_at (records_of m) pos in
    let p : Value profile = profile_at (records_of m) pos in
    ap last_heads (q.is ∙ ap (λ (y : Value resource_profiles). before ++ left_parts how before (moved_parts b (y ∷ []))) e)
    ∙ after_one (bytes_field 1 (spell resource (moved to resource r.0))) (bytes_field 3 r.1.1.0) (bytes_field 1 (spell scope (moved to scope s.0))) (bytes_field 3 s.1.1.0) (spell profile (moved to profile p)) how before
    ∙ ap (λ o. both_heads o (scope_head (moved to scope s.0) s.1.1.0)) (resource_stays to r.0 r.1.1.0) ∙ ap (both_heads (resource_head r.0 r.1.1.0)) (scope_stays to s.0 s.1.1.0)

-- ---- before the next one

one_of : (x : Bool) → ◌≡◌ {A = ℕ} (cond x 1 0) 1 → true ≡ x
one_of true e = refl
one_of false e = absurd (omega (arith, e))

two_of : (x y : Bool) → ◌≡◌ {A = ℕ} (cond x (suc (cond y 1 0)) 0) 2 → (true ≡ x) × (true ≡ y)
two_of true true e = (refl, refl)
two_of true false e = absurd (omega (arith, e))
two_of false y e = absurd (omega (arith, e))

-- what is known is so
both_known : (to : Table → ℤ → ℤ) (before : List RecordPart) (s : Single) → AreKnown known.Both before (single_record s ∷ [])
    → (true ≡ repeats_resource to before (single_record s)) × (true ≡ repeats_scope to before (single_scope s))
both_known to before s h = two_of (repeats_resource to before (single_record s)) (repeats_scope to before (single_scope s)) (h to)

module _ (to : Table → ℤ → ℤ) (before : List RecordPart) (s : Single) (k : KnownHeads) (h : AreKnown k before (single_record s ∷ [])) where
  -- of the resource record
  pub resource_known : (k ≡ known.Resource) ⊎ (k ≡ known.Both) → true ≡ repeats_resource to before (single_record s)
  resource_known (inl e) = one_of (repeats_resource to before (single_record s)) (subst (λ (k : KnownHeads). AreKnown k before (single_record s ∷ [])) e h to)
  resource_known (inr e) = (both_known to before s (subst (λ (k : KnownHeads). AreKnown k before (single_record s ∷ [])) e h)).0

  -- and of the scope record
  pub scope_known : k ≡ known.Both → true ≡ repeats_scope to before (single_scope s)
  scope_known e = (both_known to before s (subst (λ (k : KnownHeads). AreKnown k before (single_record s ∷ [])) e h)).1

-- heads that stand are known of a profile in the same resource record
known_head : (l : LastHeads) (f b : List ℕ) (ps : List RecordPart) → l.resource ≡ Some (f, b) → repeated_head l (ResourceBegins f b ∷ ps) ≡ 1
known_head l f b ps e = ap (λ x. cond x 1 0) (is_itself l.resource f b e)

known_heads : (l : LastHeads) (f b g c : List ℕ) (ps : List RecordPart) → l.resource ≡ Some (f, b) → l.scope ≡ Some (g, c) → repeated_parts l (ResourceBegins f b ∷ ScopeBegins g c ∷ ps) ≡ 2
known_heads l f b g c ps e h =
    ap (λ x. cond x (suc (cond (is_head l.scope g c) 1 0)) 0) (is_itself l.resource f b e) ∙ ap (λ x. suc (cond x 1 0)) (is_itself l.scope g c h)

module _ (rs : List (Value resource_profiles)) (last pos : ProfilePos) (to : Table → ℤ → ℤ) (l : LastHeads) (e : last.resource ≡ pos.resource) where
  abbrev r : Value resource_profiles
  r = resource_at rs pos

  abbrev s : Value scope_profiles
  s = scope_at rs pos

  resource_stands : l ≡ last_heads (value_parts (record_alone rs last ∷ [])) → l.resource ≡ resource_head (moved to resource r.0) r.1.1.0
  resource_stands h =
      ap (λ (x : LastHeads). x.resource) h
      ∙ ap (λ (i : ℕ). let x : Value resource_profiles = get_or rs i (empty resource_profiles) in resource_head x.0 x.1.1.0) e ∙ sym (resource_stays to r.0 r.1.1.0)

  scope_stands : last.scope ≡ pos.scope → l ≡ last_heads (value_parts (record_alone rs last ∷ [])) → l.scope ≡ scope_head (moved to scope s.0) s.1.1.0
  scope_stands k h =
      ap (λ (x : LastHeads). x.scope) h
      ∙ ap (λ (i : ℕ). let x : Value scope_profiles = get_or (get_or rs i (empty resource_profiles)).1.0 last.scope (empty scope_profiles) in scope_head x.0 x.1.1.0) e
      ∙ ap (λ (i : ℕ). let x : Value scope_profiles = get_or r.1.0 i (empty scope_profiles) in scope_head x.0 x.1.1.0) k ∙ sym (scope_stays to s.0 s.1.1.0)

module _ (last pos : ProfilePos) (parts : List RecordPart) (m : Message) (h : HeadsStand last parts m) (e : last.resource ≡ pos.resource) where
  pub stands_known_resource : AreKnown known.Resource parts (record_alone (records_of m) pos ∷ [])
  stands_known_resource to =
      let r : Value resource_profiles = resource_at (records_of m) pos in
      known_head (last_heads parts) (bytes_field 1 (spell resource (moved to resource r.0))) (bytes_field 3 r.1.1.0) (drop 1 (resources_moved to (record_alone (records_of m) pos ∷ []))) (resource_stands (records_of m) last pos to (last_heads parts) e h)

  pub stands_known_both : last.scope ≡ pos.scope → AreKnown known.Both parts (record_alone (records_of m) pos ∷ [])
  stands_known_both k to =
      let r : Value resource_profiles = resource_at (records_of m) pos in
      let s : Value scope_profiles = scope_at (records_of m) pos in
      known_heads (last_heads parts) (bytes_field 1 (spell resource (moved to resource r.0))) (bytes_field 3 r.1.1.0) (bytes_field 1 (spell scope (moved to scope s.0))) (bytes_field 3 s.1.1.0)
      (drop 2 (resources_moved to (record_alone (records_of m) pos ∷ [])))
      (resource_stands (records_of m) last pos to (last_heads parts) e h) (scope_stands (records_of m) last pos to (last_heads parts) e k h)
