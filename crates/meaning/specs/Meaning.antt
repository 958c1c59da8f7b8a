-- What a message means: its values with each index replaced by the value of the entry that it names.
use Rattle.std.specs.Prelude.{◌≡◌, pos, List, [], ◌∷◌, ◌++◌, cond, get_or}
use Rattle.schema.specs.Shape.{Shape, Index, One, Many, Table, empty}
use Rattle.meaning.specs.Tree.{Tree, Integer, Nil, Cons, tree, IsOf}
use Rattle.meaning.specs.Tables.{Tables, entry, same_table}

-- one function at the first row and one at the others; and a function at each element
abbrev pub at_parts : (Tree → Tree) → (Tree → Tree) → Tree → Tree
at_parts f g (Cons t ts) = Cons (f t) (g ts)
at_parts f g t = t

abbrev pub at_each : (Tree → Tree) → Tree → Tree
at_each f (Cons t ts) = Cons (f t) (at_each f ts)
at_each f t = t

-- what a walk meets in the first row and then in the others; and in each element
abbrev pub walk_parts : (Tree → List Tree) → (Tree → List Tree) → Tree → List Tree
walk_parts f g (Cons t ts) = f t ++ g ts
walk_parts f g t = []

abbrev pub walk_each : (Tree → List Tree) → Tree → List Tree
walk_each f (Cons t ts) = f t ++ walk_each f ts
walk_each f t = []

-- the tree of the empty value, whose indexes are 0
abbrev pub blank : Shape → Tree
blank s = tree s (empty s)

-- what the empty value means where entries 0 are zero: its indexes lead to empty values again
abbrev pub zero_value : Shape → Tree
zero_value (Index T k) = zero_value k
zero_value (One n k rest) = Cons (zero_value k) (zero_value rest)
zero_value (Many n k rest) = Cons Nil (zero_value rest)
zero_value s = blank s

-- the entry of this index; an index below 0 or past the end names the empty entry
abbrev pub entry_at : List Tree → Shape → Tree → Tree
entry_at entries k (Integer (pos i)) = get_or entries i (blank k)
entry_at entries k t = blank k

-- each index becomes the value of its entry
abbrev pub resolve : Tables → Shape → Tree → Tree
resolve d (Index T k) t = resolve d k (entry_at (d T) k t)
resolve d (One n k rest) t = at_parts (resolve d k) (resolve d rest) t
resolve d (Many n k rest) t = at_parts (at_each (resolve d k)) (resolve d rest) t
resolve d s t = t

-- The values of a table's kind that the walk of a meaning meets, with repeats: rows and elements are in order, and an
-- entry comes before those that it names.
abbrev pub uses : Table → Shape → Tree → List Tree
uses T (Index U k) t = cond (same_table T U) (t ∷ []) [] ++ uses T k t
uses T (One n k rest) t = walk_parts (uses T k) (uses T rest) t
uses T (Many n k rest) t = walk_parts (walk_each (uses T k)) (uses T rest) t
uses T s t = []

-- The same in the order of a program that renumbers: an entry comes after those that it names, since their new indexes
-- are part of it.
abbrev pub visits : Table → Shape → Tree → List Tree
visits T (Index U k) t = visits T k t ++ cond (same_table T U) (t ∷ []) []
visits T (One n k rest) t = walk_parts (visits T k) (visits T rest) t
visits T (Many n k rest) t = walk_parts (walk_each (visits T k)) (visits T rest) t
visits T s t = []

-- ---- trees that are meanings

-- P of the first row and Q of the others, of a tree that has rows
abbrev pub AreParts : (Tree → Type 0) → (Tree → Type 0) → Tree → Type 0
AreParts P Q (Cons t ts) = P t × Q ts
AreParts P Q t = ⊥

-- P of each element, of a tree that is a list
abbrev pub AreElements : (Tree → Type 0) → Tree → Type 0
AreElements P (Cons t ts) = P t × AreElements P ts
AreElements P t = t ≡ Nil

-- A tree is what some value of this shape may mean: where the value has an index, the tree has what an entry means.
abbrev pub IsMeaning : Shape → Tree → Type 0
IsMeaning (Index T k) t = IsMeaning k t
IsMeaning (One n k rest) t = AreParts (IsMeaning k) (IsMeaning rest) t
IsMeaning (Many n k rest) t = AreParts (AreElements (IsMeaning k)) (IsMeaning rest) t
IsMeaning s t = IsOf s t

-- ---- empty tables and zero entries

-- An empty table is its zero entry alone.
abbrev pub or_blank : List Tree → Shape → List Tree
or_blank [] k = blank k ∷ []
or_blank (e ∷ es) k = e ∷ es

-- each empty table of a dictionary is so
abbrev pub filled : Tables → Tables
filled d T = or_blank (d T) (entry T)

-- entry 0 of each table that is not empty is the zero entry
abbrev pub HasZeros : Tables → Type 0
HasZeros d = (T : Table) → entry_at (d T) (entry T) (Integer (pos 0)) ≡ blank (entry T)
