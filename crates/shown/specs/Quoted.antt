-- Texts, bytes, numbers and lists as words of a line.
use Rattle.std.specs.Prelude.{ℕ, ◌/◌, ◌%◌, List, [], ◌∷◌, ◌++◌, codes, false, ◌||◌, ◌==◌, nat_lt, if◌then◌else◌}
use Rattle.std.specs.Fmt.{digit_glyph}
use Rattle.std.specs.List.{flat_map, join_by}

-- a byte as two lower-case hexadecimal digits
abbrev pub hex_digits : ℕ → List ℕ
hex_digits b = digit_glyph false (b / 16 % 16) ∷ digit_glyph false (b % 16) ∷ []

-- bytes as `0x` and their digits
abbrev pub hex_text : List ℕ → List ℕ
hex_text bytes = codes "0x" ++ flat_map hex_digits bytes

-- a byte between quotes: a `\` (92) or `"` (34) has a `\` before it, and a control byte, below 32 or 127, is `\x` and its digits
abbrev pub escaped : ℕ → List ℕ
escaped b =
    if b == 92 || b == 34 then codes "\\" ++ b ∷ []
    else (if nat_lt b 32 || b == 127 then codes "\\x" ++ hex_digits b else b ∷ [])

-- a text in quotes
abbrev pub quoted : List ℕ → List ℕ
quoted text = codes "\"" ++ (flat_map escaped text ++ codes "\"")

-- words in brackets, with a space between them
abbrev pub bracketed : List (List ℕ) → List ℕ
bracketed words = codes "[" ++ (join_by (λ word. word) (codes " ") words ++ codes "]")
