-- What follows from a key's being interned: for the new list, for its image, and for cutting back.
use Rattle.std.proofs.Common.{◌≡◌, ℕ, ◌+◌, ◌-◌, ◌<◌, ◌≤◌, ◌^◌, ◌⊎◌, inl, inr, List, [], ◌∷◌, ◌++◌, length, map, take, sym, ap, ◌∙◌, subst, arith, length-append, true≢false, Result, Ok, Err, IsErr}
use Rattle.std.proofs.lemmas.List.{map-append, length-map, take-append-le}
use Rattle.std.proofs.lemmas.Option.{none-some}
use Rattle.std.proofs.Math.Seq.{take-length}
use Rattle.tables.specs.Keys.{IsAt, IsAbsent, IsPlace, AreDistinct, Interned, IsInterning, AreTableKeys}
use Rattle.tables.proofs.Places.{at_within, at_front, at_last, at_either, at_in_part, part_at, at_map, at_unmap, place_unique}

-- ---- the new list

module _ {K : Type 0} (old : List K) (key : K) (new : List K) (place : ℕ) where
  -- the answer is the key's first place in the new list
  pub interned_place : Interned old key new place → IsPlace new key place
  interned_place (inl h) = subst (λ l. IsPlace l key place) (sym h.same) h.had
  interned_place (inr h) =
      subst (λ l. IsPlace l key place) (sym h.grown) (subst (IsPlace (old ++ key ∷ []) key) (sym h.last) (
        at_last old key,
        λ before l s. elim (at_either old key key before s) [
          | inl t ↦ h.absent before t
          | inr e ↦ let f : before ≡ length old = e.0 in omega arith
        ],
      ))

  -- old keys keep their places
  pub interned_kept : Interned old key new place → (other : K) (i : ℕ) → IsAt old other i → IsAt new other i
  interned_kept (inl h) other i s = subst (λ l. IsAt l other i) (sym h.same) s
  interned_kept (inr h) other i s = subst (λ l. IsAt l other i) (sym h.grown) (at_front old (key ∷ []) other i s)

  -- and no key but this one is new
  pub interned_only : Interned old key new place → (other : K) (i : ℕ) → IsAt new other i
      → IsAt old other i ⊎ ((i ≡ place) × (other ≡ key))
  interned_only (inl h) other i s = inl (subst (λ l. IsAt l other i) h.same s)
  interned_only (inr h) other i s = elim (at_either old key other i (subst (λ l. IsAt l other i) h.grown s)) [
    | inl t ↦ inl t
    | inr e ↦ inr (e.0 ∙ sym h.last, e.1)
  ]

  -- the list is as long as before, or longer by one, and the answer is below its length
  pub interned_within : Interned old key new place → place < length new
  interned_within h = at_within new key place (interned_place h).0

  pub interned_length : Interned old key new place → (length old ≤ length new) × (length new ≤ length old + 1)
  interned_length (inl h) = let e : length new ≡ length old = ap length h.same in (omega arith, omega arith)
  interned_length (inr h) =
      let e : length new ≡ length old + 1 = ap length h.grown ∙ length-append old (key ∷ []) in (omega arith, omega arith)

  -- distinct keys stay distinct
  pub interned_distinct : Interned old key new place → AreDistinct old → AreDistinct new
  interned_distinct (inl h) d = subst AreDistinct (sym h.same) d
  interned_distinct (inr h) d = subst AreDistinct (sym h.grown) (λ other i j s t.
      elim (at_either old key other i s) [
        | inl a ↦ elim (at_either old key other j t) [
          | inl b ↦ d other i j a b
          | inr b ↦ absurd (h.absent i (subst (λ k. IsAt old k i) b.1 a))
        ]
        | inr a ↦ elim (at_either old key other j t) [
          | inl b ↦ absurd (h.absent j (subst (λ k. IsAt old k j) a.1 b))
          | inr b ↦ a.0 ∙ sym b.0
        ]
      ])

  -- the keys are those of a table again
  pub interned_table : Interned old key new place → AreDistinct old → length old < 2 ^ 31 - 1 → AreTableKeys new
  interned_table h d l = record { distinct = interned_distinct h d; few = omega (arith, (interned_length h).1) }

  -- the keys before are the front of the new ones
  pub interned_front : Interned old key new place → take (length old) new ≡ old
  interned_front (inl h) = ap (take (length old)) h.same ∙ take-length old
  interned_front (inr h) = ap (take (length old)) h.grown ∙ take-append-le (length old) old (key ∷ []) (omega arith) ∙ take-length old

  -- and cutting back to a mark that was made before gives what it would have given then
  pub interned_cut : Interned old key new place → (n : ℕ) → n ≤ length old → take n new ≡ take n old
  interned_cut (inl h) n l = ap (take n) h.same
  interned_cut (inr h) n l = ap (take n) h.grown ∙ take-append-le n old (key ∷ []) l

-- ---- what a table answers

-- a place
pub interning : {K E : Type 0} (old : List K) (key : K) (new : List K) (place : ℕ) → Interned old key new place → AreDistinct old → IsInterning {E = E} old key new (Ok place)
interning old key new place h d = record {
  ok = h;
  err = tt;
  absent = tt;
  distinct = interned_distinct old key new place h d;
  kept = (interned_length old key new place h).0;
  one = (interned_length old key new place h).1;
}

-- or an error, where a new key was none
pub no_interning : {K E : Type 0} (old : List K) (key : K) (new : List K) (result : Result ℕ E) → IsErr result → new ≡ old → IsAbsent old key → AreDistinct old
    → IsInterning old key new result
no_interning old key new (Ok place) e s a d = absurd (true≢false (sym e))
no_interning old key new (Err stop) e s a d = record {
  ok = tt;
  err = s;
  absent = a;
  distinct = subst AreDistinct (sym s) d;
  kept = omega (arith, ap length s);
  one = omega (arith, ap length s);
}

-- the first key of all
pub interned_first : {K : Type 0} (key : K) (new : List K) (place : ℕ) → Interned [] key new place → new ≡ key ∷ []
interned_first key new place (inl h) = absurd (none-some key h.had.0)
interned_first key new place (inr h) = h.grown

-- answer and list are determined
pub interned_once : {K : Type 0} (old : List K) (key : K) (new new' : List K) (i j : ℕ) → Interned old key new i → Interned old key new' j
    → (i ≡ j) × (new ≡ new')
interned_once old key new new' i j (inl a) (inl b) = (place_unique old key i j a.had b.had, a.same ∙ sym b.same)
interned_once old key new new' i j (inl a) (inr b) = absurd (b.absent i a.had.0)
interned_once old key new new' i j (inr a) (inl b) = absurd (a.absent j b.had.0)
interned_once old key new new' i j (inr a) (inr b) = (a.last ∙ sym b.last, a.grown ∙ sym b.grown)

-- ---- images

-- f gives no key of the list the image of this one, unless it is this one
abbrev pub TellsFrom : {A B : Type 0} → (A → B) → List A → A → Type 0
TellsFrom {A} f keys key = (other : A) (i : ℕ) → IsAt keys other i → f other ≡ f key → other ≡ key

-- f gives different keys different images
abbrev pub IsInjective : {A B : Type 0} → (A → B) → Type 0
IsInjective {A} f = (a b : A) → f a ≡ f b → a ≡ b

module _ {A B : Type 0} (f : A → B) where
  pub absent_map : (keys : List A) (key : A) → TellsFrom f keys key → IsAbsent keys key → IsAbsent (map f keys) (f key)
  absent_map keys key t h i s =
      let u : (a : A) × IsAt keys a i × (f a ≡ f key) = at_unmap f keys (f key) i s in
      h i (subst (λ k. IsAt keys k i) (t u.0 i u.1 u.2) u.1)

  pub place_map : (keys : List A) (key : A) (i : ℕ) → TellsFrom f keys key → IsPlace keys key i → IsPlace (map f keys) (f key) i
  place_map keys key i t p = (
    at_map f keys key i p.0,
    λ before l s.
        let u : (a : A) × IsAt keys a before × (f a ≡ f key) = at_unmap f keys (f key) before s in
        p.1 before l (subst (λ k. IsAt keys k before) (t u.0 before u.1 u.2) u.1),
  )

  -- a key that is interned has its image interned among the images
  pub interned_image : (old : List A) (key : A) (new : List A) (place : ℕ) → TellsFrom f old key → Interned old key new place
      → Interned (map f old) (f key) (map f new) place
  interned_image old key new place t (inl h) =
      inl (record { had = place_map old key place t h.had; same = ap (map f) h.same })
  interned_image old key new place t (inr h) = inr (record {
    absent = absent_map old key t h.absent;
    last = h.last ∙ sym (length-map old f);
    grown = ap (map f) h.grown ∙ map-append f old (key ∷ []);
  })

  pub interned_map : IsInjective f → (old : List A) (key : A) (new : List A) (place : ℕ) → Interned old key new place
      → Interned (map f old) (f key) (map f new) place
  interned_map t old key new place h = interned_image old key new place (λ other i s. t other key) h

  -- the images of distinct keys are distinct
  pub distinct_image : (keys : List A) → ((key : A) (i : ℕ) → IsAt keys key i → TellsFrom f keys key) → AreDistinct keys → AreDistinct (map f keys)
  distinct_image keys t d b i j s r =
      let u : (a : A) × IsAt keys a i × (f a ≡ b) = at_unmap f keys b i s in
      let v : (a : A) × IsAt keys a j × (f a ≡ b) = at_unmap f keys b j r in
      let e : u.0 ≡ v.0 = t v.0 j v.1 u.0 i u.1 (u.2 ∙ sym v.2) in
      d v.0 i j (subst (λ k. IsAt keys k i) e u.1) v.1

  pub distinct_map : IsInjective f → (keys : List A) → AreDistinct keys → AreDistinct (map f keys)
  distinct_map t keys d = distinct_image keys (λ key i s other j r. t other key) d

-- ---- cutting

module _ {K : Type 0} (n : ℕ) (keys : List K) where
  pub distinct_cut : AreDistinct keys → AreDistinct (take n keys)
  distinct_cut d key i j s t = d key i j (at_in_part n keys key i s).0 (at_in_part n keys key j t).0

  -- a key whose place is below the mark keeps it
  pub place_cut : (key : K) (i : ℕ) → IsPlace keys key i → i < n → IsPlace (take n keys) key i
  place_cut key i p l = (part_at n keys key i p.0 l, λ before m s. p.1 before m (at_in_part n keys key before s).0)

  -- and one whose place is not below it is gone
  pub absent_cut : (key : K) (i : ℕ) → IsPlace keys key i → n ≤ i → IsAbsent (take n keys) key
  absent_cut key i p l before s =
      let h : IsAt keys key before × (before < n) = at_in_part n keys key before s in p.1 before (omega arith) h.0
