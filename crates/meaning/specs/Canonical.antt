-- The canonical tables of a meaning, and the indexes of its values there.
use Rattle.std.specs.Prelude.{◌≡◌, ℕ, ℤ, pos, negsuc, ◌<◌, List, [], ◌∷◌, map, length, true}
use Rattle.schema.specs.Each.{Each}
use Rattle.schema.specs.Shape.{Shape, Index, End, One, Many, Table}
use Rattle.meaning.specs.Tree.{Tree, Integer, Nil, Cons, integer_of, listed}
use Rattle.meaning.specs.Tables.{Tables, entry, has, place, with_new}
use Rattle.meaning.specs.Meaning.{at_parts, at_each, zero_value, resolve, uses, visits, or_blank}

-- the tables that each message begins with
abbrev pub zeros : Tables
zeros T = zero_value (entry T) ∷ []

-- A table of a meaning: the zero value, then the values that the walk meets, without zero values and later repeats.
abbrev pub tables_of : Shape → Tree → Tables
tables_of s m T = with_new (zeros T) (uses T s m)

-- the same tables in the order of `visits`
abbrev pub visited_tables : Shape → Tree → Tables
visited_tables s m T = with_new (zeros T) (visits T s m)

-- each value of a table becomes its index there
abbrev pub renumber : Tables → Shape → Tree → Tree
renumber v (Index T k) t = Integer (pos (place (v T) t))
renumber v (One n k rest) t = at_parts (renumber v k) (renumber v rest) t
renumber v (Many n k rest) t = at_parts (at_each (renumber v k)) (renumber v rest) t
renumber v s t = t

-- the entries of lists of values, and the values that entries stand for
abbrev pub entries : Tables → Tables
entries v T = map (renumber v (entry T)) (v T)

abbrev pub values : Tables → Tables
values d T = map (resolve d (entry T)) (d T)

-- a list of records as a message of its own, and its tree
abbrev pub records : Shape → Shape
records k = Many 1 k End

abbrev pub record_list : List Tree → Tree
record_list ms = Cons (listed ms) Nil

-- ---- properties of such tables

-- P of the first row and Q of the others; and P of each element
abbrev pub HoldsForParts : (Tree → Type 0) → (Tree → Type 0) → Tree → Type 0
HoldsForParts P Q (Cons t ts) = P t × Q ts
HoldsForParts P Q t = Unit {0}

abbrev pub HoldsForEach : (Tree → Type 0) → Tree → Type 0
HoldsForEach P (Cons t ts) = P t × HoldsForEach P ts
HoldsForEach P t = Unit {0}

-- an index is one of a table of this length
abbrev pub IsIndex : ℕ → ℤ → Type 0
IsIndex len (pos i) = i < len
IsIndex len (negsuc i) = ⊥

-- each index is in its table; an empty table counts as its zero entry alone
abbrev pub IsWithin : Tables → Shape → Tree → Type 0
IsWithin d (Index T k) t = IsIndex (length (or_blank (d T) k)) (integer_of t)
IsWithin d (One n k rest) t = HoldsForParts (IsWithin d k) (IsWithin d rest) t
IsWithin d (Many n k rest) t = HoldsForParts (HoldsForEach (IsWithin d k)) (IsWithin d rest) t
IsWithin d s t = Unit {0}

-- the lists have each value that the walk of t meets
abbrev pub Covers : Tables → Shape → Tree → Type 0
Covers v s t = (T : Table) → Each (λ x. has (v T) x ≡ true) (uses T s t)
