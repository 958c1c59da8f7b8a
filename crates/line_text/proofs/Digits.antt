-- Indentations and digits.
use Rattle.std.proofs.Common.{◌≡◌, ◌+◌, ◌*◌, ◌^◌, length, add-one, pow-suc, ◌/◌, ◌%◌, ◌<◌, ◌≤◌, ℕ, zero, suc, [], ◌∷◌, codes, take, false, ◌++◌, ◌⊎◌, inl, inr, rules, tests, slice_index, refl, ap, ◌∙◌, arith}
use Rattle.std.specs.Fmt.{decimal, digit_glyph}
use Rattle.std.specs.List.{repeat}
use Rattle.itoa.proofs.Decimal.{length_one, length_step_wide}
use Rattle.hex.specs.Hex.{encode_lower, encode_with, lower_digits}
use Rattle.shown.specs.Quoted.{hex_digits, escaped}

-- an indentation is a part of the deepest
pub indents : (level : ℕ) → level ≤ 6 → take (2 * level) (codes "            ") ≡ repeat level (codes "  ")
indents zero h = refl
indents (suc zero) h = refl
indents (suc (suc zero)) h = refl
indents (suc (suc (suc zero))) h = refl
indents (suc (suc (suc (suc zero)))) h = refl
indents (suc (suc (suc (suc (suc zero))))) h = refl
indents (suc (suc (suc (suc (suc (suc zero)))))) h = refl
indents (suc (suc (suc (suc (suc (suc (suc n))))))) h = absurd (omega (arith, h))

glyph : (n : ℕ) → n < 16 → slice_index lower_digits n ≡ digit_glyph false n
glyph zero h = refl
glyph (suc zero) h = refl
glyph (suc (suc zero)) h = refl
glyph (suc (suc (suc zero))) h = refl
glyph (suc (suc (suc (suc zero)))) h = refl
glyph (suc (suc (suc (suc (suc zero))))) h = refl
glyph (suc (suc (suc (suc (suc (suc zero)))))) h = refl
glyph (suc (suc (suc (suc (suc (suc (suc zero))))))) h = refl
glyph (suc (suc (suc (suc (suc (suc (suc (suc zero)))))))) h = refl
glyph (suc (suc (suc (suc (suc (suc (suc (suc (suc zero))))))))) h = refl
glyph (suc (suc (suc (suc (suc (suc (suc (suc (suc (suc zero)))))))))) h = refl
glyph (suc (suc (suc (suc (suc (suc (suc (suc (suc (suc (suc zero))))))))))) h = refl
glyph (suc (suc (suc (suc (suc (suc (suc (suc (suc (suc (suc (suc zero)))))))))))) h = refl
glyph (suc (suc (suc (suc (suc (suc (suc (suc (suc (suc (suc (suc (suc zero))))))))))))) h = refl
glyph (suc (suc (suc (suc (suc (suc (suc (suc (suc (suc (suc (suc (suc (suc zero)))))))))))))) h = refl
glyph (suc (suc (suc (suc (suc (suc (suc (suc (suc (suc (suc (suc (suc (suc (suc zero))))))))))))))) h = refl
glyph (suc (suc (suc (suc (suc (suc (suc (suc (suc (suc (suc (suc (suc (suc (suc (suc n)))))))))))))))) h = absurd (omega (arith, h))

-- the two digits of a byte
pub two_digits : (b : ℕ) → b < 256 → encode_lower (b ∷ []) ≡ hex_digits b
unfolding encode_with
two_digits b h =
    ap (λ (d : ℕ). slice_index lower_digits (b / 16) ∷ d ∷ []) (glyph (b % 16) (omega arith))
    ∙ ap (λ (d : ℕ). d ∷ digit_glyph false (b % 16) ∷ []) (glyph (b / 16) (omega (arith, h)) ∙ ap (digit_glyph false) (omega (arith, h)))

-- a control byte in quotes
pub control_escaped : (b : ℕ) → (b ≡ 92 → ⊥) × (b ≡ 34 → ⊥) → (b < 32) ⊎ ((32 ≤ b) × (b ≡ 127)) → codes "\\x" ++ hex_digits b ≡ escaped b
control_escaped b h (inl c) = search (rules, tests, h, c)
control_escaped b h (inr c) = search (rules, tests, h, c)

-- ---- numbers

power_of_ten : (k : ℕ) → 0 < 10 ^ k
power_of_ten zero = omega arith
power_of_ten (suc k) = omega (arith, pow-suc 10 k, power_of_ten k)

-- how many digits a number has
pub digits_are : (k n : ℕ) → 10 ^ k ≤ n → n < 10 * 10 ^ k → n < 2 ^ 128 → length (decimal n) ≡ k + 1
digits_are zero n least most wide = length_one n (omega (arith, most))
digits_are (suc k) n least most wide =
    let power : 10 ^ suc k ≡ 10 ^ k * 10 = pow-suc 10 k in
    length_step_wide n (omega (arith, least, power, power_of_ten k)) wide
    ∙ ap (λ (m : ℕ). m + 1) (digits_are k (n / 10) (omega (arith, least, power)) (omega (arith, most, power)) (omega (arith, wide)) ∙ add-one k)
