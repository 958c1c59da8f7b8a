-- Places in a list: at its front, at its end, in a part of it, and in its image.
use Rattle.std.proofs.Common.{◌≡◌, ℕ, zero, suc, ◌<◌, ◌⊎◌, inl, inr, List, [], ◌∷◌, ◌++◌, length, map, take, Some, refl, sym, ap, ◌∙◌, arith}
use Rattle.std.proofs.lemmas.Bool.{cases_lt}
use Rattle.std.proofs.lemmas.Option.{slice_get_within, none-some, same_Some}
use Rattle.tables.specs.Keys.{IsAt, IsPlace, AreDistinct}

-- a place is below the length
pub at_within : {K : Type 0} (keys : List K) (key : K) (i : ℕ) → IsAt keys key i → i < length keys
at_within keys key i s = slice_get_within keys i key s

-- at one place is one key
pub at_one : {K : Type 0} (keys : List K) (a b : K) (i : ℕ) → IsAt keys a i → IsAt keys b i → a ≡ b
at_one keys a b i s t = same_Some a b (sym s ∙ t)

-- ---- a list with more after it

pub at_front : {K : Type 0} (keys more : List K) (key : K) (i : ℕ) → IsAt keys key i → IsAt (keys ++ more) key i
at_front [] more key i s = absurd (none-some key s)
at_front (k ∷ ks) more key zero s = s
at_front (k ∷ ks) more key (suc i) s = at_front ks more key i s

pub at_last : {K : Type 0} (keys : List K) (key : K) → IsAt (keys ++ key ∷ []) key (length keys)
at_last [] key = refl
at_last (k ∷ ks) key = at_last ks key

-- a key of the longer list was there before, or it is the last
pub at_either : {K : Type 0} (keys : List K) (last key : K) (i : ℕ) → IsAt (keys ++ last ∷ []) key i
    → IsAt keys key i ⊎ ((i ≡ length keys) × (key ≡ last))
at_either [] last key zero s = inr (refl, sym (same_Some last key s))
at_either [] last key (suc i) s = absurd (none-some key s)
at_either (k ∷ ks) last key zero s = inl s
at_either (k ∷ ks) last key (suc i) s = elim (at_either ks last key i s) [
  | inl t ↦ inl t
  | inr e ↦ inr (ap suc e.0, e.1)
]

-- ---- a part from the front

pub at_in_part : {K : Type 0} (n : ℕ) (keys : List K) (key : K) (i : ℕ) → IsAt (take n keys) key i
    → IsAt keys key i × (i < n)
at_in_part zero keys key i s = absurd (none-some key s)
at_in_part (suc n) [] key i s = absurd (none-some key s)
at_in_part (suc n) (k ∷ ks) key zero s = (s, omega arith)
at_in_part (suc n) (k ∷ ks) key (suc i) s =
    let h : IsAt ks key i × (i < n) = at_in_part n ks key i s in (h.0, omega arith)

pub part_at : {K : Type 0} (n : ℕ) (keys : List K) (key : K) (i : ℕ) → IsAt keys key i → i < n
    → IsAt (take n keys) key i
part_at zero keys key i s l = absurd (omega arith)
part_at (suc n) [] key i s l = s
part_at (suc n) (k ∷ ks) key zero s l = s
part_at (suc n) (k ∷ ks) key (suc i) s l = part_at n ks key i s (omega arith)

-- ---- the image of a list

pub at_map : {A B : Type 0} (f : A → B) (keys : List A) (key : A) (i : ℕ) → IsAt keys key i → IsAt (map f keys) (f key) i
at_map f [] key i s = absurd (none-some key s)
at_map f (k ∷ ks) key zero s = ap Some (ap f (same_Some k key s))
at_map f (k ∷ ks) key (suc i) s = at_map f ks key i s

-- what is at a place of the image is the image of what is there
pub at_unmap : {A B : Type 0} (f : A → B) (keys : List A) (b : B) (i : ℕ) → IsAt (map f keys) b i
    → (a : A) × IsAt keys a i × (f a ≡ b)
at_unmap f [] b i s = absurd (none-some b s)
at_unmap f (k ∷ ks) b zero s = (k, refl, same_Some (f k) b s)
at_unmap f (k ∷ ks) b (suc i) s = at_unmap f ks b i s

-- ---- first places

-- a key has one first place at most
pub place_unique : {K : Type 0} (keys : List K) (key : K) (i j : ℕ) → IsPlace keys key i → IsPlace keys key j → i ≡ j
place_unique keys key i j p q = elim (cases_lt i j) [
  | inl l ↦ absurd (q.1 i l p.0)
  | inr m ↦ elim (cases_lt j i) [ inl l ↦ absurd (p.1 j l q.0) | inr n ↦ omega arith ]
]

-- among distinct keys the place of a key is its first
pub distinct_place : {K : Type 0} (keys : List K) (key : K) (i : ℕ) → AreDistinct keys → IsAt keys key i → IsPlace keys key i
distinct_place keys key i d s = (s, λ before l t. let e : before ≡ i = d key before i t s in omega arith)
