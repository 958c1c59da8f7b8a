-- Places in a table of keys, and those that meanings speak of.
use Rattle.std.proofs.Common.{◌≡◌, ℕ, zero, suc, inl, inr, List, [], ◌∷◌, ◌++◌, Bool, true, false, cond, Some, refl, sym, ap, ◌∙◌, arith}
use Rattle.std.proofs.lemmas.Option.{none-some, same_Some}
use Rattle.meaning.specs.Tables.{has, place, with_one}
use Rattle.meaning.specs.Tree.{Tree, same}
use Rattle.meaning.proofs.Trees.{same-itself, same-true}
use Rattle.tables.specs.Keys.{IsAbsent, IsPlace, Interned}
use Rattle.tables.proofs.Interning.{interned_place}

-- a tree that is nowhere in the list
has-absent : (ks : List Tree) (t : Tree) → IsAbsent ks t → has ks t ≡ false
has-absent [] t h = refl
has-absent (k ∷ ks) t h = by_test (same k t) refl (has-absent ks t (λ i s. h (suc i) s))
  where
    by_test : (b : Bool) → same k t ≡ b → has ks t ≡ false → cond b true (has ks t) ≡ false
    by_test true e r = absurd (h zero (ap Some (same-true k t e)))
    by_test false e r = r

-- the first place of a tree
place-first : (ks : List Tree) (t : Tree) (i : ℕ) → IsPlace ks t i → (has ks t ≡ true) × (place ks t ≡ i)
place-first [] t i p = absurd (none-some t p.0)
place-first (k ∷ ks) t zero p = rw (same_Some k t p.0, same-itself t) (refl, refl)
place-first (k ∷ ks) t (suc i) p = by_test (same k t) refl (place-first ks t i (p.0, λ before l s. p.1 (suc before) (omega arith) s))
  where
    by_test : (b : Bool) → same k t ≡ b → (has ks t ≡ true) × (place ks t ≡ i) → (cond b true (has ks t) ≡ true) × (cond b 0 (suc (place ks t)) ≡ suc i)
    by_test true e h = absurd (p.1 zero (omega arith) (ap Some (same-true k t e)))
    by_test false e h = (h.0, ap suc h.1)

-- a tree that goes into a list of trees
pub interned_tree : (old new : List Tree) (t : Tree) (j : ℕ) → Interned old t new j → (new ≡ with_one old t) × (j ≡ place new t)
interned_tree old new t j h = (grown h, sym (place-first new t j (interned_place old t new j h)).1)
  where
    grown : Interned old t new j → new ≡ with_one old t
    grown (inl f) = f.same ∙ sym (ap (λ b. cond b old (old ++ t ∷ [])) (place-first old t j f.had).0)
    grown (inr a) = a.grown ∙ sym (ap (λ b. cond b old (old ++ t ∷ [])) (has-absent old t a.absent))
