-- Numbers as a sign and digits.
use Rattle.std.specs.Prelude.{ℕ, List, [], ◌++◌, codes, Bool, true, false}
use Rattle.std.specs.Fmt.{decimal}

-- the sign of a number: a `-` if it is below 0
abbrev pub sign : Bool → List ℕ
sign true = codes "-"
sign false = []

-- a number by its sign and its distance from 0
abbrev pub signed : Bool → ℕ → List ℕ
signed is_negative n = sign is_negative ++ decimal n
