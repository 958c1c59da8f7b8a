-- The steps of code that goes through typed values with a dictionary.
use Rattle.std.proofs.Common.{◌≡◌, ℕ, ◌+◌, ◌<◌, List, [], ◌∷◌, ◌++◌, length, get_or, take, map, true, refl, sym, ap, ◌∙◌, subst}
use Rattle.std.proofs.lemmas.Bool.{and_parts}
use Rattle.std.proofs.lemmas.List.{take_more, map-append}
use Rattle.schema.specs.Shape.{Shape, Index, One, Many, Value}
use Rattle.meaning.specs.Tree.{Tree, Cons, listed, tree}
use Rattle.meaning.specs.Tables.{Tables}
use Rattle.meaning.specs.Meaning.{at_each, resolve}
use Rattle.meaning.specs.Renumbering.{Written, WrittenEach, Becomes, BecomeEach, is_plain}
use Rattle.meaning.proofs.Places.{map-map}
use Rattle.meaning.proofs.Growth.{each-listed, plain_each, plain_parts, written_row, written_rows, written_push}
use Rattle.meaning.proofs.Indexes.{written_plain}

-- a row, then the others
pub becomes_row : (d : Tables) {n : ℕ} {k rest : Shape} {v w u : Tables} (x y : Value (One n k rest))
    → Becomes d k v w x.0 y.0 → Becomes d rest w u x.1 y.1 → Becomes d (One n k rest) v u x y
becomes_row d x y r s = written_row r s

-- a repeated row, then the others
pub becomes_rows : (d : Tables) {n : ℕ} {k rest : Shape} {v w u : Tables} (x y : Value (Many n k rest))
    → BecomeEach d k v w x.0 y.0 → Becomes d rest w u x.1 y.1 → Becomes d (Many n k rest) v u x y
becomes_rows d {n} {k} {rest} {v} {w} {u} x y r s =
    let e : at_each (resolve d k) (listed (map (tree k) x.0)) ≡ listed (map (λ z. resolve d k (tree k z)) x.0) =
    each-listed (resolve d k) (map (tree k) x.0) ∙ ap listed (map-map (tree k) (resolve d k) x.0) in
    subst (λ t. Written (Many n k rest) v u (Cons t (resolve d rest (tree rest x.1))) (tree (Many n k rest) y)) (sym e) (written_rows r s)

-- resolving changes nothing where there is no index
pub resolve-plain : (d : Tables) (s : Shape) → is_plain s ≡ true → (t : Tree) → resolve d s t ≡ t
resolve-plain d (One n k rest) h t =
    let p = and_parts (is_plain k) (is_plain rest) h in
    plain_parts (resolve d k) (resolve d rest) (resolve-plain d k p.0) (resolve-plain d rest p.1) t
resolve-plain d (Many n k rest) h t =
    let p = and_parts (is_plain k) (is_plain rest) h in
    plain_parts (at_each (resolve d k)) (resolve d rest) (plain_each (resolve d k) (resolve-plain d k p.0)) (resolve-plain d rest p.1) t
resolve-plain d (Index T k) h t = cc
resolve-plain d s h t = refl

-- so a value without indexes stays as it is
pub becomes_itself : (d : Tables) (s : Shape) → is_plain s ≡ true → (v : Tables) (x : Value s) → Becomes d s v v x x
becomes_itself d s h v x = subst (λ t. Written s v v t (tree s x)) (sym (resolve-plain d s h (tree s x))) (written_plain s h v (tree s x))

-- A loop writes one more element; f and g are what its old and its new elements stand for, and z is any default.
pub written_more : {X Y : Type 0} (f : X → Tree) (g : Y → Tree) {s : Shape} {v w u : Tables} (xs : List X) (i : ℕ) (ys ys' : List Y) (z : X) (y : Y)
    → i < length xs → ys' ≡ ys ++ y ∷ [] → WrittenEach s v w (map f (take i xs)) (map g ys) → Written s w u (f (get_or xs i z)) (g y)
    → WrittenEach s v u (map f (take (i + 1) xs)) (map g ys')
written_more f g {s} {v} {w} {u} xs i ys ys' z y l n r q =
    let x = get_or xs i z in
    let a : map f (take (i + 1) xs) ≡ map f (take i xs) ++ f x ∷ [] = rw (take_more xs i z l) (map-append f (take i xs) (x ∷ [])) in
    let b : map g ys' ≡ map g ys ++ g y ∷ [] = rw n (map-append g ys (y ∷ [])) in
    subst (λ ms. WrittenEach s v u ms (map g ys')) (sym a)
    (subst (λ zs. WrittenEach s v u (map f (take i xs) ++ f x ∷ []) zs) (sym b) (written_push r q))
