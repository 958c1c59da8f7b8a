-- The lengths of fields.
use Rattle.std.proofs.Common.{◌≡◌, ℕ, ◌+◌, ◌*◌, ◌^◌, ◌<◌, ◌≤◌, Bool, true, false, cond, List, [], ◌++◌, length, refl, ap, subst, arith, length-append, inl, inr, ◌∷◌}
use Rattle.std.specs.Prelude.{◌==◌}
use Rattle.std.specs.Int.{w64, to_le_bytes}
use Rattle.std.proofs.lemmas.Bool.{cases_eq, eq-eqb, ne_eqb}
use Rattle.schema.specs.Field.{greatest_number}
use Rattle.schema.specs.Texts.{bytes_field, fixed_field, long_field, number_field, varint}
use Rattle.schema.specs.Each.{Each}
use Rattle.schema_laws.proofs.Onto.{varint_at_most, long_len}
use Rattle.schema_laws.proofs.FixedNumbers.{eight_len}
use Rattle.std.specs.List.{flat_map}

-- a varint after its tag has twenty bytes at most
pub varint_field_len : (n v : ℕ) → n ≤ greatest_number → v < 2 ^ 64 → length (varint (n * 8) ++ varint v) ≤ 20
varint_field_len n v le lt = let a = varint_at_most (n * 8) (omega arith) in let b = varint_at_most v lt in omega (arith, length-append (varint (n * 8)) (varint v))

-- and so has a number's field
pub number_len : (n v : ℕ) → n ≤ greatest_number → v < 2 ^ 64 → length (number_field n v) ≤ 20
unfolding number_field
number_len n v le lt = elim (cases_eq v 0) [
  | inl e ↦ let t : (v == 0) ≡ true = eq-eqb _ _ e in let x : number_field n v ≡ [] = rw t refl in omega (arith, ap length x)
  | inr ne ↦
      let t : (v == 0) ≡ false = ne_eqb _ _ ne in
      let x : number_field n v ≡ varint (n * 8) ++ varint v = rw t refl in
      omega (arith, ap length x, varint_field_len n v le lt)
]

-- a tag, and bytes after it that are not left out
pub eight_field_len : (n : ℕ) (b : List ℕ) → n ≤ greatest_number → length b ≡ 8 → length (varint (n * 8 + 1) ++ b) ≤ 18
eight_field_len n b le e = let a = varint_at_most (n * 8 + 1) (omega arith) in omega (arith, length-append (varint (n * 8 + 1)) b)

-- an eight-byte value's field has eighteen bytes at most
pub fixed_field_len : (n v : ℕ) → n ≤ greatest_number → length (fixed_field n v) ≤ 18
unfolding fixed_field
fixed_field_len n v le = fixed_cases (v == 0)
  where
    fixed_cases : (t : Bool) → length (cond t [] (varint (n * 8 + 1) ++ to_le_bytes w64 v)) ≤ 18
    fixed_cases true = omega arith
    fixed_cases false = eight_field_len n (to_le_bytes w64 v) le (eight_len v)

-- a field of bytes is twenty longer than they are, at most
pub long_field_len : (n : ℕ) (b : List ℕ) → n ≤ greatest_number → length b < 2 ^ 64 → length (long_field n b) ≤ 20 + length b
long_field_len n b le lt = let a = varint_at_most (n * 8 + 2) (omega arith) in let c = varint_at_most (length b) lt in omega (arith, long_len n b)

-- and no shorter than they are
pub long_field_le : (n : ℕ) (b : List ℕ) → length b ≤ length (long_field n b)
long_field_le n b = omega (arith, long_len n b)

-- the same where empty bytes are left out
pub bytes_field_len : (n : ℕ) (b : List ℕ) → n ≤ greatest_number → length b < 2 ^ 64 → length (bytes_field n b) ≤ 20 + length b
unfolding bytes_field
bytes_field_len n b le lt = elim (cases_eq (length b) 0) [
  | inl e ↦ let t : (length b == 0) ≡ true = eq-eqb _ _ e in let x : bytes_field n b ≡ [] = rw t refl in omega (arith, ap length x)
  | inr ne ↦ let t : (length b == 0) ≡ false = ne_eqb _ _ ne in let x : bytes_field n b ≡ long_field n b = rw t refl in omega (arith, ap length x, long_field_len n b le lt)
]

-- and it is no shorter than the bytes
pub bytes_field_le : (n : ℕ) (b : List ℕ) → length b ≤ length (bytes_field n b)
unfolding bytes_field
bytes_field_le n b = elim (cases_eq (length b) 0) [
  | inl e ↦ omega arith
  | inr ne ↦ let t : (length b == 0) ≡ false = ne_eqb _ _ ne in let x : bytes_field n b ≡ long_field n b = rw t refl in omega (arith, ap length x, long_field_le n b)
]

-- what follows from the one holds too
pub each_as : {A : Type 0} (P Q : A → Type 0) → ((x : A) → P x → Q x) → (xs : List A) → Each P xs → Each Q xs
each_as P Q h [] i = tt
each_as P Q h (x ∷ xs) i = (h x i.0, each_as P Q h xs i.1)

-- each element of a short text is short
pub each_short : {A : Type 0} (text : A → List ℕ) (n : ℕ) (P Q : A → Type 0) → ((x : A) → P x → length (text x) < 2 ^ 64 → Q x) → (xs : List A) → Each P xs
    → length (flat_map (λ x. long_field n (text x)) xs) < 2 ^ 64 → Each Q xs
each_short text n P Q h [] i short = tt
each_short {A} text n P Q h (x ∷ xs) i short =
    let l = long_field_le n (text x) in
    let s : length (long_field n (text x)) + length (flat_map (λ (y : A). long_field n (text y)) xs) < 2 ^ 64 =
    subst (λ (m : ℕ). m < 2 ^ 64) (length-append (long_field n (text x)) (flat_map (λ (y : A). long_field n (text y)) xs)) short in
    (h x i.0 (omega arith), each_short text n P Q h xs i.1 (omega arith))
