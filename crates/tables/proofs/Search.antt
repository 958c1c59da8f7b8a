-- What looking for a key by a test of equality finds.
use Rattle.std.proofs.Common.{◌≡◌, ℕ, zero, suc, ◌+◌, ◌<◌, ◌⊎◌, inl, inr, List, [], ◌∷◌, ◌++◌, length, Bool, true, false, cond, not, ◌||◌, position, Some, None, if◌then◌else◌, nat_lt, refl, sym, ap, ◌∙◌, subst, true≢false, arith}
use Rattle.std.proofs.lemmas.Option.{slice_get_within, none-some, same_Some, cond_some}
use Rattle.std.proofs.lemmas.Bool.{ltb-true, lt-ltb}
use Rattle.std.specs.Cmp.{IsEquivalence}
use Rattle.std.specs.List.{list_any, position_or_len}
use Rattle.indexmap.specs.IndexSet.{insert_key}
use Rattle.tables.specs.Keys.{IsAt, IsAbsent, IsPlace, Interned}

-- either some key passed, and n is the place; or none did, and n is the length
abbrev Met : {K : Type 0} → List K → K → Bool → ℕ → Type 0
Met keys key any n = ((any ≡ true) × IsPlace keys key n) ⊎ ((any ≡ false) × IsAbsent keys key × (n ≡ length keys))

module _ {K : Type 0} (eq : K → K → Bool) (laws : IsEquivalence eq) (same : (a b : K) → eq a b ≡ true → a ≡ b) where
  step : (k : K) (ks : List K) (key : K) (any : Bool) (n : ℕ) (b : Bool) → eq key k ≡ b → Met ks key any n
      → Met (k ∷ ks) key (b || any) (cond (not b) (1 + n) 0)
  step k ks key any n true e m = inl (refl, (ap Some (sym (same key k e)), λ before l s. omega arith))
  step k ks key any n false e m =
      let one : suc n ≡ 1 + n = omega arith in
      let other : ¬ IsAt (k ∷ ks) key zero = λ s. true≢false (sym (laws.refl key) ∙ ap (eq key) (sym (same_Some k key s)) ∙ e) in
      subst (Met (k ∷ ks) key any) one (elim m [
        | inl h ↦ inl (h.0, (h.1.0, earlier h.1.1 other))
        | inr h ↦ inr (h.0, nowhere h.1 other, ap suc h.2)
      ])
    where
      earlier : ((before : ℕ) → before < n → ¬ IsAt ks key before) → ¬ IsAt (k ∷ ks) key zero
          → (before : ℕ) → before < suc n → ¬ IsAt (k ∷ ks) key before
      earlier h o zero l = o
      earlier h o (suc before) l = h before (omega arith)

      nowhere : IsAbsent ks key → ¬ IsAt (k ∷ ks) key zero → IsAbsent (k ∷ ks) key
      nowhere h o zero = o
      nowhere h o (suc i) = h i

  met : (ks : List K) (key : K) → Met ks key (list_any (eq key) ks) (position_or_len (eq key) ks)
  met [] key = inr (refl, λ i s. none-some key s, refl)
  met (k ∷ ks) key = step k ks key (list_any (eq key) ks) (position_or_len (eq key) ks) (eq key k) refl (met ks key)

  -- where no key passes, the key is absent
  pub absent_by_test : (ks : List K) (key : K) → list_any (eq key) ks ≡ false → IsAbsent ks key
  absent_by_test ks key h = elim (met ks key) [
    | inl m ↦ absurd (true≢false (sym m.0 ∙ h))
    | inr m ↦ m.1
  ]

  -- what a hashed set does with a key
  pub interned_by_test : (ks ks' : List K) (key : K) (n : ℕ) → ks' ≡ insert_key eq ks key → n ≡ position_or_len (eq key) ks
      → Interned ks key ks' n
  interned_by_test ks ks' key n e p = elim (met ks key) [
    | inl m ↦ inl (record { had = subst (IsPlace ks key) (sym p) m.1; same = e ∙ ap (λ b. if b then ks else ks ++ key ∷ []) m.0 })
    | inr m ↦ inr (record { absent = m.1; last = p ∙ m.2; grown = e ∙ ap (λ b. if b then ks else ks ++ key ∷ []) m.0 })
  ]

  -- what a search from the front finds
  pub place_by_search : (ks : List K) (key : K) (n : ℕ) → position (eq key) ks ≡ Some n → IsPlace ks key n
  place_by_search ks key n h =
      let c = cond_some (nat_lt (position_or_len (eq key) ks) (length ks)) (position_or_len (eq key) ks) n h in
      elim (met ks key) [
        | inl m ↦ subst (IsPlace ks key) c.1 m.1
        | inr m ↦ let l : position_or_len (eq key) ks < length ks = ltb-true _ _ c.0 in absurd (omega (arith, m.2))
      ]

  -- and where it finds nothing
  pub absent_by_search : (ks : List K) (key : K) → position (eq key) ks ≡ None → IsAbsent ks key
  absent_by_search ks key h = elim (met ks key) [
    | inl m ↦
        let n : ℕ = position_or_len (eq key) ks in
        let l : nat_lt n (length ks) ≡ true = lt-ltb _ _ (slice_get_within ks n key m.1.0) in
        absurd (none-some n (sym h ∙ ap (λ b. cond b (Some n) None) l))
    | inr m ↦ m.1
  ]
