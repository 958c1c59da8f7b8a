-- The memo of a renumbering: the new indexes of the old entries that were met, and what it knows.
use Rattle.std.specs.Prelude.{◌≡◌, ℕ, ℤ, pos, negsuc, List, Option, Some, None, get_or, ◌⊎◌}
use Rattle.schema.specs.Each.{Each}
use Rattle.schema.specs.Shape.{Shape, Value, Index, One, Many, Table}
use Rattle.meaning.specs.Canonical.{values}
use Rattle.meaning.specs.Meaning.{resolve, uses}
use Rattle.meaning.specs.Renumbering.{Memo}
use Rattle.meaning.specs.Tables.{Tables, with_new}
use Rattle.meaning.specs.Tree.{tree}

-- the new index, and 0 where there is none
abbrev pub or_zero : Option ℕ → ℕ
or_zero (Some j) = j
or_zero None = 0

-- the new index of an old one; one that the memo does not know becomes 0
abbrev pub index_at : List (Option ℕ) → ℤ → ℤ
index_at new_indexes (pos i) = pos (or_zero (get_or new_indexes i None))
index_at new_indexes (negsuc i) = pos 0

abbrev pub index_in : Memo → Table → ℤ → ℤ
index_in memo T i = index_at (memo T) i

-- the memo has a new index for this one, or it is 0
abbrev pub KnowsIndex : Memo → Table → ℤ → Type 0
KnowsIndex memo T (pos i) = (i ≡ 0) ⊎ ((j : ℕ) × (get_or (memo T) i None ≡ Some j))
KnowsIndex memo T (negsuc i) = ⊥

-- so it has for each index of a value
abbrev pub Knows : Memo → (s : Shape) → Value s → Type 0
Knows memo (Index T k) i = KnowsIndex memo T i
Knows memo (One n k rest) v = Knows memo k v.0 × Knows memo rest v.1
Knows memo (Many n k rest) v = Each (Knows memo k) v.0 × Knows memo rest v.1
Knows memo s v = Unit {0}

-- a memo keeps what it holds
abbrev pub Keeps : Memo → Memo → Type 0
Keeps memo memo' = (T : Table) (i j : ℕ) → get_or (memo T) i None ≡ Some j → get_or (memo' T) i None ≡ Some j

-- A value of a message with the dictionary d was met: the entries k became k' by exactly what its walk meets, and the memo
-- knows each of its indexes after it.
pub record Met (d : Tables) (s : Shape) (k k' : Tables) (memo' : Memo) (x : Value s) : Type 0 where
  pub walked : (T : Table) → values k' T ≡ with_new (values k T) (uses T s (resolve d s (tree s x)))
  pub known : Knows memo' s x
