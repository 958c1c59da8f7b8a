-- The longest prefix that fits, and that the parts are the whole list.
use Rattle.std.proofs.Common.{◌≡◌, ℕ, zero, suc, ◌<◌, ◌≤◌, List, [], ◌∷◌, ◌++◌, length, map, take, drop, Bool, true, false, cond, refl, sym, ap, ◌∙◌, arith, ◌⊎◌, inl, inr}
use Rattle.std.specs.Prelude.{nat_lt}
use Rattle.std.specs.List.{flat_map}
use Rattle.std.proofs.lemmas.List.{take-append-drop}
use Rattle.std.proofs.lemmas.Bool.{cases_lt, lt-ltb, le-ltb, ltb-true}
use Rattle.schema.specs.Each.{Each}
use Rattle.operations.specs.Flat.{FlatProfile, group}
use Rattle.operations.specs.Cuts.{size_of, longest_fit, first_length, cut, flat_parts}
use Rattle.operations.proofs.Growing.{prefix-shorter}

take-more : {X : Type 0} (n m : ℕ) (xs : List X) → n ≤ m → (ys : List X) × (take m xs ≡ take n xs ++ ys)
take-more zero m xs h = (take m xs, refl)
take-more (suc n) zero xs h = absurd (omega arith)
take-more (suc n) (suc m) [] h = ([], refl)
take-more (suc n) (suc m) (x ∷ xs) h = let r = take-more n m xs (omega arith) in (r.0, ap (λ l. x ∷ l) r.1)

-- a longer prefix has no smaller size
take-grows : (n m : ℕ) (l : List FlatProfile) → n ≤ m → size_of (take n l) ≤ size_of (take m l)
take-grows n m l h = let r = take-more n m l h in let p = prefix-shorter (take n l) r.0 in rw r.1 p

-- where the number itself fits; and where the next one does not
longest-here : (limit : ℕ) (size : ℕ → ℕ) (n : ℕ) → 0 < n → (n ≡ 1) ⊎ (size n ≤ limit) → longest_fit limit size n ≡ n
longest-here limit size zero h f = absurd (omega arith)
longest-here limit size (suc n) h (inr f) = rw (le-ltb limit (size (suc n)) f) refl
longest-here limit size (suc n) h (inl e) = let z : n ≡ zero = omega arith in by_test (nat_lt limit (size (suc n))) (ap (longest_fit limit size) z ∙ sym e)
  where
    by_test : (b : Bool) → longest_fit limit size n ≡ suc n → cond b (longest_fit limit size n) (suc n) ≡ suc n
    by_test false z = refl
    by_test true z = z

longest-above : (limit : ℕ) (size : ℕ → ℕ) → ((n m : ℕ) → n ≤ m → size n ≤ size m)
    → (n m : ℕ) → 0 < n → (n ≡ 1) ⊎ (size n ≤ limit) → limit < size (suc n) → n ≤ m → longest_fit limit size m ≡ n
longest-above limit size w n zero h f g le = absurd (omega arith)
longest-above limit size w n (suc m) h f g le = elim (cases_lt m n) [
  | inl lt ↦ let e : suc m ≡ n = omega arith in ap (longest_fit limit size) e ∙ longest-here limit size n h f
  | inr ge ↦
      let t = lt-ltb limit (size (suc m)) (let x = w (suc n) (suc m) (omega arith) in omega arith) in
      rw t (longest-above limit size w n m h f g ge)
]

pub longest-is : (limit : ℕ) (l : List FlatProfile) (n : ℕ) → 0 < n → n ≤ length l → (n ≡ 1) ⊎ (size_of (take n l) ≤ limit)
    → (n ≡ length l) ⊎ (limit < size_of (take (suc n) l)) → first_length limit l ≡ n
longest-is limit l n h le f (inl e) = ap (longest_fit limit (λ m. size_of (take m l))) (sym e) ∙ longest-here limit (λ m. size_of (take m l)) n h f
longest-is limit l n h le f (inr g) = longest-above limit (λ m. size_of (take m l)) (λ i j. take-grows i j l) n (length l) h f g le

-- where there are more, the next one does not fit
pub longest-late : (limit : ℕ) (size : ℕ → ℕ) (m : ℕ) → longest_fit limit size m < m → limit < size (suc (longest_fit limit size m))
longest-late limit size zero h = absurd (omega arith)
longest-late limit size (suc m) h = by_test (nat_lt limit (size (suc m))) refl (longest-late limit size m) h
  where
    by_test : (b : Bool) → nat_lt limit (size (suc m)) ≡ b → (longest_fit limit size m < m → limit < size (suc (longest_fit limit size m)))
        → cond b (longest_fit limit size m) (suc m) < suc m → limit < size (suc (cond b (longest_fit limit size m) (suc m)))
    by_test false e r h = absurd (omega arith)
    by_test true e r h = elim (cases_lt (longest_fit limit size m) m) [
      | inl lt ↦ r lt
      | inr ge ↦ let z : longest_fit limit size m ≡ m = omega arith in rw z (ltb-true limit (size (suc m)) e)
    ]

-- ---- the whole list

longest-some : (limit : ℕ) (size : ℕ → ℕ) (n : ℕ) → 0 < longest_fit limit size n
longest-some limit size zero = omega arith
longest-some limit size (suc n) = by_test (nat_lt limit (size (suc n))) (longest-some limit size n)
  where
    by_test : (b : Bool) → 0 < longest_fit limit size n → 0 < cond b (longest_fit limit size n) (suc n)
    by_test true r = r
    by_test false r = omega arith

no_longer : {X : Type 0} (n : ℕ) (xs : List X) → length (drop n xs) ≤ length xs
no_longer zero xs = omega arith
no_longer (suc n) [] = omega arith
no_longer (suc n) (x ∷ xs) = let r = no_longer n xs in omega arith

drop-shorter : {X : Type 0} (n : ℕ) (x : X) (xs : List X) → 0 < n → length (drop n (x ∷ xs)) ≤ length xs
drop-shorter zero x xs h = absurd (omega arith)
drop-shorter (suc n) x xs h = no_longer n xs

pub cut-all : (more limit : ℕ) (l : List FlatProfile) → length l ≤ more → flat_map (λ p. p) (cut more limit l) ≡ l
cut-all zero limit [] h = refl
cut-all zero limit (e ∷ l) h = absurd (omega arith)
cut-all (suc more) limit [] h = refl
cut-all (suc more) limit (e ∷ l) h =
    let n = first_length limit (e ∷ l) in
    let d = drop-shorter n e l (longest-some limit (λ n. size_of (take n (e ∷ l))) (length (e ∷ l))) in
    ap (λ x. take n (e ∷ l) ++ x) (cut-all more limit (drop n (e ∷ l)) (omega arith)) ∙ take-append-drop n (e ∷ l)

-- as many cuts as there are profiles are enough
cut-enough : (i j limit : ℕ) (l : List FlatProfile) → length l ≤ i → length l ≤ j → cut i limit l ≡ cut j limit l
cut-enough zero zero limit l h k = refl
cut-enough zero (suc j) limit [] h k = refl
cut-enough zero (suc j) limit (e ∷ l) h k = absurd (omega arith)
cut-enough (suc i) zero limit [] h k = refl
cut-enough (suc i) zero limit (e ∷ l) h k = absurd (omega arith)
cut-enough (suc i) (suc j) limit [] h k = refl
cut-enough (suc i) (suc j) limit (e ∷ l) h k =
    let n = first_length limit (e ∷ l) in
    let d = drop-shorter n e l (longest-some limit (λ n. size_of (take n (e ∷ l))) (length (e ∷ l))) in
    ap (λ c. take n (e ∷ l) ∷ c) (cut-enough i j limit (drop n (e ∷ l)) (omega arith) (omega arith))

-- so what is left after the first part is cut as by itself
pub cut-next : (limit : ℕ) (e : FlatProfile) (l : List FlatProfile) → let n = first_length limit (e ∷ l) in
    (cut (length (e ∷ l)) limit (e ∷ l) ≡ take n (e ∷ l) ∷ cut (length (drop n (e ∷ l))) limit (drop n (e ∷ l)))
cut-next limit e l =
    let n = first_length limit (e ∷ l) in
    let d = drop-shorter n e l (longest-some limit (λ n. size_of (take n (e ∷ l))) (length (e ∷ l))) in
    ap (λ c. take n (e ∷ l) ∷ c) (cut-enough (length l) (length (drop n (e ∷ l))) limit (drop n (e ∷ l)) d (omega arith))

-- ---- the size of parts

-- the number that is found fits, or is 1
pub longest-fits : (limit : ℕ) (size : ℕ → ℕ) (n : ℕ) → (size (longest_fit limit size n) ≤ limit) ⊎ (longest_fit limit size n ≡ 1)
longest-fits limit size zero = inr refl
longest-fits limit size (suc n) = elim (cases_lt limit (size (suc n))) [
  | inl lt ↦ let t = lt-ltb limit (size (suc n)) lt in rw t (longest-fits limit size n)
  | inr ge ↦ let t = le-ltb limit (size (suc n)) ge in rw t (inl ge)
]

-- a prefix of one has one element
take-one : {X : Type 0} (n : ℕ) (x : X) (xs : List X) → n ≡ 1 → length (take n (x ∷ xs)) ≡ 1
take-one n x xs e = ap (λ m. length (take m (x ∷ xs))) e

pub cut-fits : (more limit : ℕ) (l : List FlatProfile) → Each (λ p. (size_of p ≤ limit) ⊎ (length p ≡ 1)) (cut more limit l)
cut-fits zero limit l = tt
cut-fits (suc more) limit [] = tt
cut-fits (suc more) limit (e ∷ l) =
    let n = first_length limit (e ∷ l) in
    (first (longest-fits limit (λ m. size_of (take m (e ∷ l))) (length (e ∷ l))), cut-fits more limit (drop n (e ∷ l)))
  where
    first : (size_of (take (first_length limit (e ∷ l)) (e ∷ l)) ≤ limit) ⊎ (first_length limit (e ∷ l) ≡ 1)
        → (size_of (take (first_length limit (e ∷ l)) (e ∷ l)) ≤ limit) ⊎ (length (take (first_length limit (e ∷ l)) (e ∷ l)) ≡ 1)
    first (inl h) = inl h
    first (inr h) = inr (take-one (first_length limit (e ∷ l)) e l h)

-- ---- one part after the other

-- it is no more than the number itself
longest-most : (limit : ℕ) (size : ℕ → ℕ) (n : ℕ) → longest_fit limit size (suc n) ≤ suc n
longest-most limit size zero = by_test (nat_lt limit (size 1))
  where
    by_test : (b : Bool) → cond b 1 1 ≤ 1
    by_test true = omega arith
    by_test false = omega arith
longest-most limit size (suc n) = by_test (nat_lt limit (size (suc (suc n)))) (longest-most limit size n)
  where
    by_test : (b : Bool) → longest_fit limit size (suc n) ≤ suc n → cond b (longest_fit limit size (suc n)) (suc (suc n)) ≤ suc (suc n)
    by_test true h = omega arith
    by_test false h = omega arith

pub first-between : (limit : ℕ) (l : List FlatProfile) → 0 < length l → (0 < first_length limit l) × (first_length limit l ≤ length l)
first-between limit [] h = absurd (omega arith)
first-between limit (e ∷ l) h =
    let size : ℕ → ℕ = λ n. size_of (take n (e ∷ l)) in (longest-some limit size (length (e ∷ l)), longest-most limit size (length l))

pub parts-next : (limit : ℕ) (l : List FlatProfile) → 0 < length l → let n = first_length limit l in
    (flat_parts limit l ≡ group (take n l) ∷ flat_parts limit (drop n l))
parts-next limit [] h = absurd (omega arith)
parts-next limit (e ∷ l) h = ap (map group) (cut-next limit e l)
