-- Values without indexes.
use Rattle.std.proofs.Common.{◌≡◌, ℕ, zero, suc, pos, negsuc, List, [], ◌∷◌, map, get_or, refl, sym, ap, ◌∙◌}
use Rattle.schema.specs.Messages.{dictionary, entries_in, entry}
use Rattle.schema.specs.Shape.{Shape, Number, Fixed, Bytes, Text, Any, Index, End, One, Many, Table, Value, empty}
use Rattle.meaning.specs.Tree.{Tree, tree, value, listed, elements}
use Rattle.meaning.specs.Tables.{Tables}
use Rattle.meaning.specs.Meaning.{at_each, blank, resolve}
use Rattle.meaning.specs.Message.{tables_in}
use Rattle.meaning.proofs.Trees.{value-tree}
use Rattle.shown.specs.Direct.{direct, meant}

-- the values of what a function makes of the trees of a list
map-each : {A B : Type 0} (f : A → Tree) (g : Tree → Tree) (h : Tree → B) (m : A → B) → ((x : A) → m x ≡ h (g (f x)))
    → (xs : List A) → map m xs ≡ map h (elements (at_each g (listed (map f xs))))
map-each f g h m e [] = refl
map-each f g h m e (x ∷ xs) = let a : m x ≡ h (g (f x)) = e x in let b = map-each f g h m e xs in cc

-- what a value means is the value of what its tree means
pub meant-is : (d : Tables) (s : Shape) (v : Value s) → meant d s v ≡ value (direct s) (resolve d s (tree s v))
meant-is d (Number w) v = sym (value-tree (Number w) v)
meant-is d Fixed v = refl
meant-is d Bytes v = refl
meant-is d Text v = refl
meant-is d (Any depth) v = sym (value-tree (Any depth) v)
meant-is d (Index T k) v = refl
meant-is d End v = refl
meant-is d (One n k rest) v =
    let a : meant d k v.0 ≡ value (direct k) (resolve d k (tree k v.0)) = meant-is d k v.0 in
    let b : meant d rest v.1 ≡ value (direct rest) (resolve d rest (tree rest v.1)) = meant-is d rest v.1 in
    rw (a, b) refl
meant-is d (Many n k rest) v =
    let a : map (meant d k) v.0 ≡ map (value (direct k)) (elements (at_each (resolve d k) (listed (map (tree k) v.0)))) =
    map-each (tree k) (resolve d k) (value (direct k)) (meant d k) (meant-is d k) v.0 in
    let b : meant d rest v.1 ≡ value (direct rest) (resolve d rest (tree rest v.1)) = meant-is d rest v.1 in
    rw (a, b) refl

-- the tree of an entry is the entry of the trees
entry-tree : (k : Shape) (es : List (Value k)) (i : ℕ) → get_or (map (tree k) es) i (blank k) ≡ tree k (get_or es i (empty k))
entry-tree k [] i = refl
entry-tree k (e ∷ es) zero = refl
entry-tree k (e ∷ es) (suc i) = entry-tree k es i

-- an index means what its entry means
pub index-means : (d : Value dictionary) (T : Table) (i : ℕ)
    → meant (tables_in d) (Index T (entry T)) (pos i) ≡ meant (tables_in d) (entry T) (get_or (entries_in d T) i (empty (entry T)))
index-means d T i =
    ap (λ e. value (direct (entry T)) (resolve (tables_in d) (entry T) e)) (entry-tree (entry T) (entries_in d T) i)
    ∙ sym (meant-is (tables_in d) (entry T) (get_or (entries_in d T) i (empty (entry T))))

-- and below 0 it means what the empty entry means
pub below-means : (d : Value dictionary) (T : Table) (i : ℕ)
    → meant (tables_in d) (Index T (entry T)) (negsuc i) ≡ meant (tables_in d) (entry T) (empty (entry T))
below-means d T i = sym (meant-is (tables_in d) (entry T) (empty (entry T)))
