-- Values with other indexes.
use Rattle.std.specs.Prelude.{◌≡◌, ℕ, ℤ, pos, ◌<◌, ◌^◌, List, map, Bool, true, false, cond}
use Rattle.schema.specs.Shape.{Shape, Value, Index, One, Many, Table}
use Rattle.schema.specs.Tables.{same_table}

-- the elements of a repeated row, each by `move` where it may hold an index
abbrev pub moved_each : (k : Shape) → (Value k → Value k) → List (Value k) → List (Value k)
moved_each (Index T k) move vs = map move vs
moved_each (One n k rest) move vs = map move vs
moved_each (Many n k rest) move vs = map move vs
moved_each s move vs = vs

-- each index into a table becomes what `to` says
abbrev pub moved : (Table → ℤ → ℤ) → (s : Shape) → Value s → Value s
moved to (Index T k) i = to T i
moved to (One n k rest) v = (moved to k v.0, moved to rest v.1)
moved to (Many n k rest) v = (moved_each k (moved to k) v.0, moved to rest v.1)
moved to s v = v

-- y may be the new index of x: it has 31 bits, and the index 0 stays
pub record IsNewIndex (x y : ℤ) : Type 0 where
  pub new : ℕ
  pub is : y ≡ pos new
  pub small : new < 2 ^ 31
  pub zero : x ≡ pos 0 → new ≡ 0

-- so is each index
abbrev pub GivesIndexes : (Table → ℤ → ℤ) → Type 0
GivesIndexes to = (T : Table) (i : ℤ) → IsNewIndex i (to T i)

-- an index of the shape, or of the entries that it leads to, is one into the table
abbrev pub mentions : Table → Shape → Bool
mentions T (Index U k) = cond (same_table T U) true (mentions T k)
mentions T (One n k rest) = cond (mentions T k) true (mentions T rest)
mentions T (Many n k rest) = cond (mentions T k) true (mentions T rest)
mentions T s = false
