-- Eight-byte values, also packed.
use Rattle.std.proofs.Common.{◌≡◌, ℕ, suc, ◌*◌, ◌/◌, ◌%◌, ◌^◌, ◌<◌, List, [], ◌∷◌, ◌++◌, length, drop, refl, ap, ◌∙◌, arith, length-append}
use Rattle.std.specs.Int.{w64, from_le_bytes, to_le_bytes}
use Rattle.std.proofs.lemmas.List.{take_at, drop_at}
use Rattle.std.proofs.lemmas.Nat.{from_le_bytes-to_le_bytes_8}
use Rattle.schema.specs.Merge.{fixed_upto, packed_fixed}
use Rattle.schema.specs.Texts.{fixed_text}
use Rattle.schema.specs.Each.{Each}
use Rattle.schema_laws.proofs.Rows.{packed_fixed_is, fixed_nothing}

-- a value has eight bytes
pub eight_len : (v : ℕ) → length (to_le_bytes w64 v) ≡ 8
eight_len v = refl

-- eight bytes at the front are a value, and the rest is packed
pub fixed_front : (b rest : List ℕ) → length b ≡ 8 → packed_fixed (b ++ rest) ≡ from_le_bytes w64 b ∷ packed_fixed rest
fixed_front b rest e =
    let n : length (b ++ rest) / 8 ≡ suc (length rest / 8) = omega (arith, length-append b rest) in
    packed_fixed_is (b ++ rest) (length rest / 8) n
    ∙ ap (λ (x : List ℕ). from_le_bytes w64 x ∷ fixed_upto (length rest / 8) (drop 8 (b ++ rest))) (take_at b rest 8 e)
    ∙ ap (λ (x : List ℕ). from_le_bytes w64 b ∷ fixed_upto (length rest / 8) x) (drop_at b rest 8 e)

-- eight bytes in front of so many values
len_step : (b rest : List ℕ) (n : ℕ) → length b ≡ 8 → length rest ≡ 8 * n → length (b ++ rest) ≡ 8 * suc n
len_step b rest n e f = omega (arith, length-append b rest)

-- a packed text has eight bytes for each value
pub fixed_len : (vs : List ℕ) → length (fixed_text vs) ≡ 8 * length vs
fixed_len [] = refl
fixed_len (v ∷ vs) = len_step (to_le_bytes w64 v) (fixed_text vs) (length vs) (eight_len v) (fixed_len vs)

-- the length of a packed text is a multiple of 8
pub fixed_whole : (vs : List ℕ) → length (fixed_text vs) % 8 ≡ 0
fixed_whole vs = let e = fixed_len vs in let n = length vs in omega arith

-- packed values are read again
pub fixed_again : (P : ℕ → Type 0) → ((v : ℕ) → P v → v < 2 ^ 64) → (vs : List ℕ) → Each P vs → packed_fixed (fixed_text vs) ≡ vs
fixed_again P small [] fits = fixed_nothing [] refl
fixed_again P small (v ∷ vs) fits =
    fixed_front (to_le_bytes w64 v) (fixed_text vs) (eight_len v)
    ∙ ap (λ (x : ℕ). x ∷ packed_fixed (fixed_text vs)) (from_le_bytes-to_le_bytes_8 v (small v fits.0))
    ∙ ap (λ (x : List ℕ). v ∷ x) (fixed_again P small vs fits.1)
