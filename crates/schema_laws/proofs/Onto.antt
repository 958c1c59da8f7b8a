-- Spellings that are appended row after row, and their lengths.
use Rattle.std.proofs.Common.{◌≡◌, ℕ, zero, suc, ◌+◌, ◌*◌, ◌/◌, ◌%◌, ◌^◌, ◌<◌, ◌≤◌, true, false, List, [], ◌∷◌, ◌++◌, length, refl, sym, ap, ◌∙◌, arith, inl, inr, pow-suc, append_assoc, length-append}
use Rattle.std.specs.Prelude.{nat_lt}
use Rattle.std.proofs.lemmas.Bool.{cases_lt, lt-ltb, le-ltb}
use Rattle.std.proofs.lemmas.List.{append-nil}
use Rattle.schema.specs.Shape.{Shape, One, Many, Value}
use Rattle.schema.specs.Texts.{varint_upto, varint, long_field}
use Rattle.schema.specs.Spell.{spell, spell_one, spell_many, spell_onto, len_onto}

-- ---- varints

-- more steps than the number has give the same varint
enough : (k m n : ℕ) → n ≤ k → n ≤ m → varint_upto k n ≡ varint_upto m n
unfolding varint_upto
enough zero zero n p q = refl
enough zero (suc m) n p q = let t : nat_lt n 128 ≡ true = lt-ltb _ _ (omega arith) in rw t refl
enough (suc k) zero n p q = let t : nat_lt n 128 ≡ true = lt-ltb _ _ (omega arith) in rw t refl
enough (suc k) (suc m) n p q =
    elim (cases_lt n 128) [
      | inl lt ↦ let t : nat_lt n 128 ≡ true = lt-ltb _ _ lt in rw t refl
      | inr le ↦ let t : nat_lt n 128 ≡ false = le-ltb _ _ le in rw t (ap (λ (r : List ℕ). (n % 128 + 128) ∷ r) (enough k m (n / 128) (omega arith) (omega arith)))
    ]

-- a number below 128 is its own varint
pub varint_small : (n : ℕ) → n < 128 → varint n ≡ n ∷ []
unfolding varint_upto
varint_small zero lt = refl
varint_small (suc n) lt = let t : nat_lt (suc n) 128 ≡ true = lt-ltb _ _ lt in rw t refl

-- a greater one is its low seven bits, and the varint of the rest
pub varint_large : (n : ℕ) → 128 ≤ n → varint n ≡ (n % 128 + 128) ∷ varint (n / 128)
unfolding varint_upto
varint_large zero le = absurd (omega arith)
varint_large (suc n) le =
    let t : nat_lt (suc n) 128 ≡ false = le-ltb _ _ le in
    rw t (ap (λ (r : List ℕ). (suc n % 128 + 128) ∷ r) (enough n (suc n / 128) (suc n / 128) (omega arith) (omega arith)))

-- a power of 128 is not 0
one_power : (k : ℕ) → 1 ≤ 128 ^ k
one_power zero = omega arith
one_power (suc k) = let p : 128 ^ suc k ≡ 128 ^ k * 128 = pow-suc 128 k in omega (arith, one_power k)

-- its length, by the powers of 128 between which the number lies
pub varint_length : (k n : ℕ) → 128 ^ k * 128 ≤ n → n < 128 ^ k * 128 * 128 → length (varint n) ≡ k + 2
varint_length zero n le lt = omega (arith, ap length (varint_large n (omega arith)), ap length (varint_small (n / 128) (omega arith)))
varint_length (suc k) n le lt =
    let p : 128 ^ suc k ≡ 128 ^ k * 128 = pow-suc 128 k in
    omega (arith, one_power k, ap length (varint_large n (omega (arith, one_power k))), varint_length k (n / 128) (omega arith) (omega arith))

-- a number of so many sevens of bits has so many bytes at most
len_below : (k n : ℕ) → n < 128 ^ k * 128 → length (varint n) ≤ k + 1
len_below zero n lt = omega (arith, ap length (varint_small n (omega arith)))
len_below (suc k) n lt = elim (cases_lt n 128) [
  | inl small ↦ omega (arith, ap length (varint_small n small))
  | inr large ↦
      let p : 128 ^ suc k ≡ 128 ^ k * 128 = pow-suc 128 k in
      omega (arith, ap length (varint_large n large), len_below k (n / 128) (omega arith))
]

-- a varint of 64 bits has ten bytes at most
pub varint_at_most : (n : ℕ) → n < 2 ^ 64 → length (varint n) ≤ 10
varint_at_most n lt = len_below 9 n (omega arith)

-- a varint has a byte at least
pub varint_some : (n : ℕ) → 0 < length (varint n)
varint_some n = elim (cases_lt n 128) [
  | inl small ↦ omega (arith, ap length (varint_small n small))
  | inr large ↦ omega (arith, ap length (varint_large n large))
]

-- a byte that goes on, after what is put, and the varint of the rest are the varint
pub varint_onto : (out : List ℕ) (n : ℕ) → 128 ≤ n → (out ++ (n % 128 + 128) ∷ []) ++ varint (n / 128) ≡ out ++ varint n
varint_onto out n le = append_assoc out ((n % 128 + 128) ∷ []) (varint (n / 128)) ∙ ap (λ (t : List ℕ). out ++ t) (sym (varint_large n le))

-- ---- bytes after their length

-- the length of a field of bytes
pub long_len : (n : ℕ) (b : List ℕ) → length (long_field n b) ≡ length (varint (n * 8 + 2)) + length (varint (length b)) + length b
unfolding long_field
long_len n b = omega (arith, length-append (varint (n * 8 + 2)) (varint (length b) ++ b), length-append (varint (n * 8 + 2) ++ varint (length b)) b, length-append (varint (n * 8 + 2)) (varint (length b)), length-append (varint (length b)) b)

-- it is a byte at least
pub long_some : (n : ℕ) (b : List ℕ) → 0 < length (long_field n b)
long_some n b = omega (arith, long_len n b, varint_some (length b))

-- a tag, a length and bytes, after what is put, are the field
pub long_onto : (out : List ℕ) (n len : ℕ) (b : List ℕ) → len ≡ length b → ((out ++ varint (n * 8 + 2)) ++ varint len) ++ b ≡ out ++ long_field n b
unfolding long_field
long_onto out n len b e =
    ap (λ (m : ℕ). ((out ++ varint (n * 8 + 2)) ++ varint m) ++ b) e ∙ simp append_assoc

-- ---- messages

-- the rows after a text are the spelling after it
pub onto : (s : Shape) (out : List ℕ) (v : Value s) → spell_onto s out v ≡ out ++ spell s v
onto (One n k rest) out v = onto rest (out ++ spell_one k (spell k) n v.0) v.1 ∙ append_assoc out (spell_one k (spell k) n v.0) (spell rest v.1)
onto (Many n k rest) out v = onto rest (out ++ spell_many k (spell k) n v.0) v.1 ∙ append_assoc out (spell_many k (spell k) n v.0) (spell rest v.1)
onto s out v = sym (append-nil out)

-- and so are their lengths
pub onto_len : (s : Shape) (len : ℕ) (v : Value s) → len_onto s len v ≡ len + length (spell s v)
onto_len (One n k rest) len v = onto_len rest (len + length (spell_one k (spell k) n v.0)) v.1 ∙ omega (arith, length-append (spell_one k (spell k) n v.0) (spell rest v.1))
onto_len (Many n k rest) len v = onto_len rest (len + length (spell_many k (spell k) n v.0)) v.1 ∙ omega (arith, length-append (spell_many k (spell k) n v.0) (spell rest v.1))
onto_len s len v = omega arith
