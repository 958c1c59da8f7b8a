-- What is told of a sink and of a source.
use Rattle.std.specs.Prelude.{◌≡◌, ◌<◌, ◌≤◌, ◌↔◌, ℕ, List, [], ◌++◌, length, take, drop, Option, Some, None}

-- with these bytes at the end, where the bytes taken are told
abbrev pub appended : Option (List ℕ) → List ℕ → Option (List ℕ)
appended None bytes = None
appended (Some taken) bytes = Some (taken ++ bytes)

-- a part of the text was taken from its front, but not all
abbrev pub TookPrefix : List ℕ → Option (List ℕ) → Option (List ℕ) → Type 0
TookPrefix text old new = (k : ℕ) × (k < length text) × (new ≡ appended old (take k text))

-- the first n of the bytes left were moved to the front of the room, where the bytes left are told
abbrev pub ReadInto : ℕ → List ℕ → Option (List ℕ) → Option (List ℕ) → Type 0
ReadInto n room None new = new ≡ None
ReadInto n room (Some left) new = (n ≤ length left) × (take n room ≡ take n left) × (new ≡ Some (drop n left))

-- the number is 0 exactly where nothing is left, where the bytes left are told
abbrev pub EndsAtZero : ℕ → Option (List ℕ) → Type 0
EndsAtZero n None = Unit {0}
EndsAtZero n (Some left) = (n ≡ 0) ↔ (left ≡ [])
