-- Values of all shapes as one type, so that values of different tables can be compared and be in lists of one type.
use Rattle.std.specs.Prelude.{◌≡◌, ℕ, ℤ, pos, List, [], ◌∷◌, map, Bool, true, false, ◌&&◌, ◌==◌, if◌then◌else◌}
use Rattle.std.specs.Bool.{beq}
use Rattle.std.specs.Ordering.{int_eq}
use Rattle.std.specs.Str.{bytes_eq}
use Rattle.schema.specs.Shape.{Shape, Number, Fixed, Bytes, Text, Any, Index, End, One, Many, Format, U32, U64, I32, I64, Flag, NumberValue, Value}
use Rattle.schema.specs.AnyValue.{AnyValue, Values, NoValues, AddValue, KeyValues, NoPairs, AddPair}

-- A message is its rows, and a repeated row its elements, each up to `Nil`.
pub data Tree : Type 0 where
  Natural : ℕ → Tree
  Integer : ℤ → Tree
  Boolean : Bool → Tree
  Octets : List ℕ → Tree
  Nil : Tree
  Cons : Tree → Tree → Tree

-- ---- the tree of a value

-- the tree of a number
abbrev pub number_tree : (w : Format) → NumberValue w → Tree
number_tree U32 n = Natural n
number_tree U64 n = Natural n
number_tree I32 z = Integer z
number_tree I64 z = Integer z
number_tree Flag b = Boolean b

-- the tree of a list of trees
abbrev pub listed : List Tree → Tree
listed [] = Nil
listed (t ∷ ts) = Cons t (listed ts)

-- the tree of an AnyValue: the number of its member and what that holds, and `Nil` where no member is set
abbrev mutual
  pub any_tree : AnyValue → Tree
  any_tree AnyValue.Empty = Nil
  any_tree (AnyValue.Text b) = Cons (Natural 1) (Octets b)
  any_tree (AnyValue.Flag x) = Cons (Natural 2) (Boolean x)
  any_tree (AnyValue.Int z) = Cons (Natural 3) (Integer z)
  any_tree (AnyValue.Double b) = Cons (Natural 4) (Octets b)
  any_tree (AnyValue.Items vs) = Cons (Natural 5) (values_tree vs)
  any_tree (AnyValue.Pairs kvs) = Cons (Natural 6) (pairs_tree kvs)
  any_tree (AnyValue.Raw b) = Cons (Natural 7) (Octets b)

  pub values_tree : Values → Tree
  values_tree NoValues = Nil
  values_tree (AddValue v vs) = Cons (any_tree v) (values_tree vs)

  pub pairs_tree : KeyValues → Tree
  pairs_tree NoPairs = Nil
  pairs_tree (AddPair k v kvs) = Cons (Cons (Octets k) (any_tree v)) (pairs_tree kvs)

-- the tree of a value; an index is its number
abbrev pub tree : (s : Shape) → Value s → Tree
tree (Number w) v = number_tree w v
tree Fixed v = Natural v
tree Bytes v = Octets v
tree Text v = Octets v
tree (Any depth) v = any_tree v
tree (Index T entry) v = Integer v
tree End v = Nil
tree (One n k rest) v = Cons (tree k v.0) (tree rest v.1)
tree (Many n k rest) v = Cons (listed (map (tree k) v.0)) (tree rest v.1)

-- ---- and back; a tree of another form stands for defaults

-- the value in a leaf
abbrev pub natural_of : Tree → ℕ
natural_of (Natural n) = n
natural_of t = 0

abbrev pub integer_of : Tree → ℤ
integer_of (Integer z) = z
integer_of t = pos 0

abbrev pub boolean_of : Tree → Bool
boolean_of (Boolean b) = b
boolean_of t = false

abbrev pub octets_of : Tree → List ℕ
octets_of (Octets b) = b
octets_of t = []

-- the number of a tree
abbrev pub number_of : (w : Format) → Tree → NumberValue w
number_of U32 t = natural_of t
number_of U64 t = natural_of t
number_of I32 t = integer_of t
number_of I64 t = integer_of t
number_of Flag t = boolean_of t

-- the first row, and the others
abbrev pub head_of : Tree → Tree
head_of (Cons t ts) = t
head_of t = Nil

abbrev pub tail_of : Tree → Tree
tail_of (Cons t ts) = ts
tail_of t = Nil

-- the elements of a repeated row
abbrev pub elements : Tree → List Tree
elements (Cons t ts) = t ∷ elements ts
elements t = []

-- the AnyValue of a member with this number, which holds the tree, these elements or these keys and values
abbrev pub any_member : ℕ → Tree → Values → KeyValues → AnyValue
any_member n t vs kvs =
    if n == 1 then AnyValue.Text (octets_of t)
    else (if n == 2 then AnyValue.Flag (boolean_of t)
    else (if n == 3 then AnyValue.Int (integer_of t)
    else (if n == 4 then AnyValue.Double (octets_of t)
    else (if n == 5 then AnyValue.Items vs
    else (if n == 6 then AnyValue.Pairs kvs
    else (if n == 7 then AnyValue.Raw (octets_of t)
    else AnyValue.Empty))))))

-- the AnyValue of a tree
abbrev mutual
  pub any_of : Tree → AnyValue
  any_of (Cons t u) = any_member (natural_of t) u (values_of u) (pairs_of u)
  any_of t = AnyValue.Empty

  pub values_of : Tree → Values
  values_of (Cons t u) = AddValue (any_of t) (values_of u)
  values_of t = NoValues

  pub pairs_of : Tree → KeyValues
  pairs_of (Cons (Cons k v) u) = AddPair (octets_of k) (any_of v) (pairs_of u)
  pairs_of t = NoPairs

-- the value of a tree
abbrev pub value : (s : Shape) → Tree → Value s
value (Number w) t = number_of w t
value Fixed t = natural_of t
value Bytes t = octets_of t
value Text t = octets_of t
value (Any depth) t = any_of t
value (Index T entry) t = integer_of t
value End t = tt
value (One n k rest) t = (value k (head_of t), value rest (tail_of t))
value (Many n k rest) t = (map (value k) (elements (head_of t)), value rest (tail_of t))

-- the tree is that of a value
abbrev pub IsOf : Shape → Tree → Type 0
IsOf s t = tree s (value s t) ≡ t

-- ---- the test of equality

-- whether two trees are equal
abbrev pub same : Tree → Tree → Bool
same (Natural m) (Natural n) = m == n
same (Integer x) (Integer y) = int_eq x y
same (Boolean b) (Boolean c) = beq b c
same (Octets a) (Octets b) = bytes_eq a b
same Nil Nil = true
same (Cons t ts) (Cons u us) = same t u && same ts us
same t u = false
