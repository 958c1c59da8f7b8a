-- What code writes by the format of std.
use Rattle.std.proofs.Common.{◌≡◌, ℕ, ◌-◌, ◌/◌, ◌%◌, ◌^◌, ◌<◌, [], ◌∷◌, false, ap, ◌∙◌, arith}
use Rattle.std.specs.Fmt.{digit_glyph, digits, padded_integral, format_spec}
use Rattle.std.proofs.lemmas.Fmt.{hex_byte}
use Rattle.shown.specs.Quoted.{hex_digits}

-- the digits of a byte are what `{:02x}` writes
pub hex_written : (b : ℕ) → b < 256 → padded_integral (format_spec 32 0 4 2 (2 ^ 64 - 1)) false [] (digits 16 false b) ≡ hex_digits b
hex_written b h =
    let e : b / 16 ≡ b / 16 % 16 = omega arith in
    hex_byte false b h ∙ ap (λ d. digit_glyph false d ∷ digit_glyph false (b % 16) ∷ []) e
