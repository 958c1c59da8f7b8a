-- The tables of a dictionary: what their entries are, and lists by table.
use Rattle.std.specs.Prelude.{◌≡◌, ℕ, suc, List, [], ◌∷◌, ◌++◌, Bool, true, false, cond}
use Rattle.schema.specs.Shape.{Shape, Index, One, Many, Table}
pub use Rattle.schema.specs.Messages.{entry}
pub use Rattle.schema.specs.Tables.{field_of, same_table}
use Rattle.meaning.specs.Tree.{Tree, same}

-- each index of the shape has the shape of its table's entries
abbrev pub IsSound : Shape → Type 0
IsSound (Index T k) = (k ≡ entry T) × IsSound k
IsSound (One n k rest) = IsSound k × IsSound rest
IsSound (Many n k rest) = IsSound k × IsSound rest
IsSound s = Unit {0}

-- lists by table: the entries of a dictionary, or the values that they stand for
abbrev pub Tables : Type 0
Tables = Table → List Tree

-- ---- lists of distinct values

-- the list has the value
abbrev pub has : List Tree → Tree → Bool
has [] t = false
has (k ∷ ks) t = cond (same k t) true (has ks t)

-- the first place of a value in a list, and its length where it has none
abbrev pub place : List Tree → Tree → ℕ
place [] t = 0
place (k ∷ ks) t = cond (same k t) 0 (suc (place ks t))

-- the list with a value at its end, if that is new
abbrev pub with_one : List Tree → Tree → List Tree
with_one ks t = cond (has ks t) ks (ks ++ t ∷ [])

-- the list with values at its end, each only where it is new by then
abbrev pub with_new : List Tree → List Tree → List Tree
with_new ks [] = ks
with_new ks (t ∷ ts) = with_new (with_one ks t) ts

-- no value is there twice
abbrev pub Distinct : List Tree → Type 0
Distinct [] = Unit {0}
Distinct (k ∷ ks) = (has ks k ≡ false) × Distinct ks
