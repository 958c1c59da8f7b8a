-- Values that a program can write and read again, and shapes whose rows can be told apart.
use Rattle.std.specs.Prelude.{◌≡◌, ℕ, ◌<◌, ◌^◌, List, length, nat_lt, ◌==◌, Bool, true, false, not, ◌&&◌, ◌||◌, ◌⊎◌}
use Rattle.std.specs.Str.{is_utf8}
use Rattle.schema.specs.Each.{Each}
use Rattle.schema.specs.Shape.{Shape, Number, Fixed, Bytes, Text, Any, Index, End, One, Many, I32, Value, IsMessage}
use Rattle.schema.specs.Texts.{FitsNumber, numbers_text, fixed_text}
use Rattle.schema.specs.Spell.{spell}
use Rattle.schema.specs.AnyMerge.{any_levels}
use Rattle.schema.specs.AnySpell.{FitsAny, FitsIfWritten}

-- ---- shapes

-- a row of the message has this number
abbrev pub HasRow : Shape → ℕ → Type 0
HasRow (One n k rest) m = (m ≡ n) ⊎ HasRow rest m
HasRow (Many n k rest) m = (m ≡ n) ⊎ HasRow rest m
HasRow s m = ⊥

-- each row's number is one that a tag can hold, and no other row has it
abbrev pub Lawful : Shape → Type 0
Lawful (One n k rest) = (0 < n) × (n < 2 ^ 29) × Lawful k × Lawful rest × IsMessage rest × ((m : ℕ) → HasRow rest m → m ≡ n → ⊥)
Lawful (Many n k rest) = (0 < n) × (n < 2 ^ 29) × Lawful k × Lawful rest × IsMessage rest × ((m : ℕ) → HasRow rest m → m ≡ n → ⊥)
Lawful s = Unit {0}

-- the same as tests
abbrev pub has_row : Shape → ℕ → Bool
has_row (One n k rest) m = (m == n) || has_row rest m
has_row (Many n k rest) m = (m == n) || has_row rest m
has_row s m = false

abbrev pub is_message : Shape → Bool
is_message End = true
is_message (One n k rest) = true
is_message (Many n k rest) = true
is_message s = false

abbrev pub is_lawful : Shape → Bool
is_lawful (One n k rest) = nat_lt 0 n && (nat_lt n (2 ^ 29) && (is_lawful k && (is_lawful rest && (is_message rest && not (has_row rest n)))))
is_lawful (Many n k rest) = nat_lt 0 n && (nat_lt n (2 ^ 29) && (is_lawful k && (is_lawful rest && (is_message rest && not (has_row rest n)))))
is_lawful s = true

-- the rows of the message ascend by number, from above this one
abbrev pub ascends : ℕ → Shape → Bool
ascends n (One m k rest) = nat_lt n m && ascends m rest
ascends n (Many m k rest) = nat_lt n m && ascends m rest
ascends n s = true

-- ---- values

-- what a repeated row asks of its elements together
abbrev pub FitsTogether : (s : Shape) → List (Value s) → Type 0
FitsTogether (Number w) vs = length (numbers_text w vs) < 2 ^ 64
FitsTogether (Index T entry) vs = length (numbers_text I32 vs) < 2 ^ 64
FitsTogether Fixed vs = length (fixed_text vs) < 2 ^ 64
FitsTogether (Any depth) vs = Each (FitsAny (any_levels depth)) vs
FitsTogether s vs = Unit {0}

-- numbers are in their range, texts are UTF-8, AnyValues are not too deep, and each length can be written
abbrev pub Fits : (s : Shape) → Value s → Type 0
Fits (Number w) x = FitsNumber w x
Fits (Index T entry) x = FitsNumber I32 x
Fits Fixed x = x < 2 ^ 64
Fits Bytes x = length x < 2 ^ 64
Fits Text x = (is_utf8 x ≡ true) × (length x < 2 ^ 64)
Fits (Any depth) x = FitsIfWritten (any_levels depth) x
Fits End x = Unit {0}
Fits (One n k rest) x = Fits k x.0 × (length (spell k x.0) < 2 ^ 64) × Fits rest x.1
Fits (Many n k rest) x = Each (λ y. Fits k y × (length (spell k y) < 2 ^ 64)) x.0 × FitsTogether k x.0 × Fits rest x.1
