-- The limit of `split`, as a word writes it.
use Rattle.std.specs.Prelude.{ℕ, Bool, List, length, ◌&&◌, if◌then◌else◌, nat_lt, nat_le, Option, Some, None}
use Rattle.std.specs.Str.{all_ascii_digits}
use Rattle.std.specs.Str.Parse.{digits_value}

-- the greatest limit, which is what a message may have
abbrev pub most_bytes : ℕ
most_bytes = 33554432

-- whether the word is one to eight decimal digits
abbrev pub is_short_number : List ℕ → Bool
is_short_number word = nat_lt 0 (length word) && nat_le (length word) 8 && all_ascii_digits word

-- a number of bytes from 1 to the greatest limit
abbrev pub if_limit : ℕ → Option ℕ
if_limit n = if nat_lt 0 n && nat_le n most_bytes then Some n else None

-- the limit that a word writes, if it is one
abbrev pub limit_in : List ℕ → Option ℕ
limit_in word = if is_short_number word then if_limit (digits_value 10 word) else None
