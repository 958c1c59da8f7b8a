-- Trees, their values, and the test of equality.
use Rattle.std.proofs.Common.{◌≡◌, List, [], ◌∷◌, map, Bool, true, false, refl, ap, ◌∙◌}
use Rattle.std.specs.Bool.{beq}
use Rattle.std.proofs.lemmas.Bool.{eqb-true, eq-eqb, and_parts, and_from}
use Rattle.std.proofs.lemmas.Bool.Decides.{Decides-int_eq}
use Rattle.std.proofs.lemmas.Slice.Eq.{bytes_eq-Decides}
use Rattle.schema.specs.Shape.{Shape, Number, Fixed, Bytes, Text, Any, Index, End, One, Many, Format, U32, U64, I32, I64, Flag, NumberValue, Value}
use Rattle.meaning.specs.Tree.{Tree, Natural, Integer, Boolean, Octets, Nil, Cons, number_tree, number_of, listed, elements, tree, value, same, any_of, any_tree, pairs_of, pairs_tree, values_of, values_tree}
use Rattle.schema.specs.AnyValue.{AnyValue, Values, NoValues, AddValue, KeyValues, NoPairs, AddPair}

-- ---- values

-- numbers
number_back : (w : Format) (v : NumberValue w) → number_of w (number_tree w v) ≡ v
number_back U32 v = refl
number_back U64 v = refl
number_back I32 v = refl
number_back I64 v = refl
number_back Flag v = refl

-- the elements of the tree of a list
pub elements-listed : (ts : List Tree) → elements (listed ts) ≡ ts
elements-listed [] = refl
elements-listed (t ∷ ts) = ap (λ l. t ∷ l) (elements-listed ts)

-- a function that undoes another at each element
map-undone : {A B : Type 0} (f : A → B) (g : B → A) → ((x : A) → g (f x) ≡ x) → (xs : List A) → map g (map f xs) ≡ xs
map-undone f g h [] = refl
map-undone f g h (x ∷ xs) = let e : g (f x) ≡ x = h x in let r : map g (map f xs) ≡ xs = map-undone f g h xs in cc

mutual
  -- the AnyValue of its tree
  any-back : (v : AnyValue) → any_of (any_tree v) ≡ v
  any-back AnyValue.Empty = refl
  any-back (AnyValue.Text b) = refl
  any-back (AnyValue.Flag x) = refl
  any-back (AnyValue.Int z) = refl
  any-back (AnyValue.Double b) = refl
  any-back (AnyValue.Items vs) = ap (λ (x : Values). AnyValue.Items x) (values-back vs)
  any-back (AnyValue.Pairs kvs) = ap (λ (x : KeyValues). AnyValue.Pairs x) (pairs-back kvs)
  any-back (AnyValue.Raw b) = refl

  -- its elements
  values-back : (vs : Values) → values_of (values_tree vs) ≡ vs
  values-back NoValues = refl
  values-back (AddValue v vs) = let a = any-back v in let b = values-back vs in cc

  -- and its keys and values
  pairs-back : (kvs : KeyValues) → pairs_of (pairs_tree kvs) ≡ kvs
  pairs-back NoPairs = refl
  pairs-back (AddPair k v kvs) = let a = any-back v in let b = pairs-back kvs in cc

-- the value of the tree of a value
pub value-tree : (s : Shape) (v : Value s) → value s (tree s v) ≡ v
value-tree (Number w) v = number_back w v
value-tree Fixed v = refl
value-tree Bytes v = refl
value-tree Text v = refl
value-tree (Any depth) v = any-back v
value-tree (Index T entry) v = refl
value-tree End v = refl
value-tree (One n k rest) v =
    let a : value k (tree k v.0) ≡ v.0 = value-tree k v.0 in
    let b : value rest (tree rest v.1) ≡ v.1 = value-tree rest v.1 in
    rw (a, b) refl
value-tree (Many n k rest) v =
    let a : map (value k) (elements (listed (map (tree k) v.0))) ≡ v.0 =
    ap (map (value k)) (elements-listed (map (tree k) v.0)) ∙ map-undone (tree k) (value k) (value-tree k) v.0 in
    let b : value rest (tree rest v.1) ≡ v.1 = value-tree rest v.1 in
    rw (a, b) refl

-- ---- the test of equality

-- the test of flags
beq-itself : (b : Bool) → beq b b ≡ true
beq-itself true = refl
beq-itself false = refl

beq-true : (b c : Bool) → beq b c ≡ true → b ≡ c
beq-true true true h = refl
beq-true false false h = refl
beq-true true false h = cc
beq-true false true h = cc

-- a tree is itself
pub same-itself : (t : Tree) → same t t ≡ true
same-itself (Natural n) = eq-eqb n n refl
same-itself (Integer z) = (Decides-int_eq z z).1 refl
same-itself (Boolean b) = beq-itself b
same-itself (Octets a) = (bytes_eq-Decides a a).1 refl
same-itself Nil = refl
same-itself (Cons t ts) = and_from _ _ (same-itself t) (same-itself ts)

-- trees that pass the test are the same
pub same-true : (t u : Tree) → same t u ≡ true → t ≡ u
same-true (Natural m) (Natural n) h = ap Natural (eqb-true m n h)
same-true (Integer x) (Integer y) h = ap Integer ((Decides-int_eq x y).0 h)
same-true (Boolean b) (Boolean c) h = ap Boolean (beq-true b c h)
same-true (Octets a) (Octets b) h = ap Octets ((bytes_eq-Decides a b).0 h)
same-true Nil Nil h = refl
same-true (Cons t ts) (Cons u us) h =
    let p = and_parts _ _ h in
    let e : t ≡ u = same-true t u p.0 in
    let f : ts ≡ us = same-true ts us p.1 in cc
same-true _ _ h = cc
