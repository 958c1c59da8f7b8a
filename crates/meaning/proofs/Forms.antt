-- Trees of values, and trees that are meanings.
use Rattle.std.proofs.Common.{◌≡◌, ℕ, zero, suc, List, [], ◌∷◌, get_or, map, cond, refl, sym, ap, ◌∙◌, subst, pos, negsuc}
use Rattle.schema.specs.Each.{Each}
use Rattle.schema.specs.Shape.{Shape, Index, One, Many, Table, Value, empty}
use Rattle.schema_laws.proofs.Lists.{each_append}
use Rattle.meaning.specs.Tree.{Tree, Natural, Integer, Boolean, Octets, Nil, Cons, listed, elements, tree, value, IsOf}
use Rattle.meaning.specs.Tables.{Tables, IsSound, entry, same_table}
use Rattle.meaning.specs.Meaning.{at_each, walk_each, blank, zero_value, entry_at, resolve, uses, AreParts, AreElements, IsMeaning}
use Rattle.meaning.specs.Canonical.{zeros, tables_of, renumber, entries}
use Rattle.meaning.proofs.Trees.{value-tree}
use Rattle.meaning.proofs.Places.{each_all, each_with_new}
use Rattle.meaning.proofs.Soundness.{each_here}
use Rattle.meaning.proofs.Closure.{each_map}

-- ---- cases

-- what holds of each tree with such rows
pub by_parts : (X : Tree → Type 0) (P Q : Tree → Type 0) → ((t ts : Tree) → P t → Q ts → X (Cons t ts)) → (t : Tree) → AreParts P Q t → X t
by_parts X P Q f (Cons t ts) h = f t ts h.0 h.1
by_parts X P Q f (Natural n) h = absurd h
by_parts X P Q f (Integer z) h = absurd h
by_parts X P Q f (Boolean b) h = absurd h
by_parts X P Q f (Octets a) h = absurd h
by_parts X P Q f Nil h = absurd h

-- and of each list of such elements
pub by_elements : (X : Tree → Type 0) (P : Tree → Type 0) → X Nil → ((t ts : Tree) → P t → X ts → X (Cons t ts)) → (t : Tree) → AreElements P t → X t
by_elements X P n f (Cons t ts) h = f t ts h.0 (by_elements X P n f ts h.1)
by_elements X P n f (Natural m) h = subst X (sym h) n
by_elements X P n f (Integer z) h = subst X (sym h) n
by_elements X P n f (Boolean b) h = subst X (sym h) n
by_elements X P n f (Octets a) h = subst X (sym h) n
by_elements X P n f Nil h = n

-- ---- trees of values

-- the tree of a value is one
pub tree_is : (s : Shape) (x : Value s) → IsOf s (tree s x)
tree_is s x = ap (tree s) (value-tree s x)

-- and so are those of a list
pub trees_are : (s : Shape) (xs : List (Value s)) → Each (IsOf s) (map (tree s) xs)
trees_are s [] = tt
trees_are s (x ∷ xs) = (tree_is s x, trees_are s xs)

-- trees of values are the trees of their values
pub map-is : (s : Shape) (ts : List Tree) → Each (IsOf s) ts → map (tree s) (map (value s) ts) ≡ ts
map-is s [] h = refl
map-is s (t ∷ ts) h =
    let e : tree s (value s t) ≡ t = h.0 in
    let r : map (tree s) (map (value s) ts) ≡ ts = map-is s ts h.1 in cc

-- what holds of each entry and of the empty one holds of the entry of each index
pub entry_has : (P : Tree → Type 0) (k : Shape) → P (blank k) → (es : List Tree) → Each P es → (t : Tree) → P (entry_at es k t)
entry_has P k b es h (Integer (pos i)) = go es i h
  where
    go : (es : List Tree) (i : ℕ) → Each P es → P (get_or es i (blank k))
    go [] i h = b
    go (e ∷ es) zero h = h.0
    go (e ∷ es) (suc i) h = go es i h.1
entry_has P k b es h (Integer (negsuc i)) = b
entry_has P k b es h (Natural n) = b
entry_has P k b es h (Boolean c) = b
entry_has P k b es h (Octets a) = b
entry_has P k b es h Nil = b
entry_has P k b es h (Cons t ts) = b

-- ---- what a tree hands on

-- what holds of a tree holds of its parts, and of an entry as of the index that names it
pub record IsHandedOn (P : Shape → Tree → Type 0) : Type 0 where
  pub one : (n : ℕ) (k rest : Shape) (t : Tree) → P (One n k rest) t → AreParts (P k) (P rest) t
  pub many : (n : ℕ) (k rest : Shape) (t : Tree) → P (Many n k rest) t → AreParts (AreElements (P k)) (P rest) t
  pub index : (T : Table) (k : Shape) (t : Tree) → P (Index T k) t → P k t

-- so it holds of the values that a walk meets
uses_have : (P : Shape → Tree → Type 0) → IsHandedOn P → (T : Table) (s : Shape) → IsSound s → (t : Tree) → P s t → Each (P (entry T)) (uses T s t)
uses_have P c T (One n k rest) i t h =
    by_parts (λ t. Each (P (entry T)) (uses T (One n k rest) t)) (P k) (P rest)
    (λ t ts p q. each_append (P (entry T)) (uses T k t) (uses T rest ts) (uses_have P c T k i.0 t p) (uses_have P c T rest i.1 ts q)) t (c.one n k rest t h)
uses_have P c T (Many n k rest) i t h =
    by_parts (λ t. Each (P (entry T)) (uses T (Many n k rest) t)) (AreElements (P k)) (P rest)
    (λ t ts p q.
    each_append (P (entry T)) (walk_each (uses T k) t) (uses T rest ts)
    (by_elements (λ u. Each (P (entry T)) (walk_each (uses T k) u)) (P k) tt
    (λ u us m o. each_append (P (entry T)) (uses T k u) (walk_each (uses T k) us) (uses_have P c T k i.0 u m) o) t p)
    (uses_have P c T rest i.1 ts q)) t (c.many n k rest t h)
uses_have P c T (Index U k) i t h =
    let here : P k t = c.index U k t h in
    each_append (P (entry T)) (cond (same_table T U) (t ∷ []) []) (uses T k t)
    (each_here (P (entry T)) T U t (λ e. subst (λ z. P z t) (i.0 ∙ ap entry (sym e)) here))
    (uses_have P c T k i.1 t here)
uses_have P c T s i t h = tt

-- and of the values of canonical tables, if it holds of the zero values
pub tables_have : (P : Shape → Tree → Type 0) → IsHandedOn P → ((T : Table) → P (entry T) (zero_value (entry T))) → (s : Shape) → IsSound s → (m : Tree) → P s m
    → (T : Table) → Each (P (entry T)) (tables_of s m T)
tables_have P c z s i m h T = each_with_new (P (entry T)) (uses T s m) (zeros T) (z T, tt) (uses_have P c T s i m h)

-- ---- meanings

-- what a value means is a meaning of its shape
pub resolved_means : (d : Tables) → ((T : Table) → Each (IsOf (entry T)) (d T)) → (s : Shape) → IsSound s → (x : Value s) → IsMeaning s (resolve d s (tree s x))
resolved_means d a (One n k rest) i x = (resolved_means d a k i.0 x.0, resolved_means d a rest i.1 x.1)
resolved_means d a (Many n k rest) i x = (each_mean (resolved_means d a k i.0) x.0, resolved_means d a rest i.1 x.1)
  where
    each_mean : ((y : Value k) → IsMeaning k (resolve d k (tree k y))) → (ys : List (Value k)) → AreElements (IsMeaning k) (at_each (resolve d k) (listed (map (tree k) ys)))
    each_mean f [] = refl
    each_mean f (y ∷ ys) = (f y, each_mean f ys)
resolved_means d a (Index T k) i x =
    let e : Tree = entry_at (d T) k (Integer x) in
    let is : IsOf k e = entry_has (IsOf k) k (tree_is k (empty k)) (d T) (subst (λ z. Each (IsOf z) (d T)) (sym i.0) (a T)) (Integer x) in
    subst (λ z. IsMeaning k (resolve d k z)) is (resolved_means d a k i.1 (value k e))
resolved_means d a s i x = tree_is s x

-- a meaning with new indexes is the tree of a value
pub renumbered_is : (v : Tables) (s : Shape) (t : Tree) → IsMeaning s t → IsOf s (renumber v s t)
renumbered_is v (One n k rest) t h =
    by_parts (λ t. IsOf (One n k rest) (renumber v (One n k rest) t)) (IsMeaning k) (IsMeaning rest)
    (λ t ts p q.
    let e : tree k (value k (renumber v k t)) ≡ renumber v k t = renumbered_is v k t p in
    let r : tree rest (value rest (renumber v rest ts)) ≡ renumber v rest ts = renumbered_is v rest ts q in cc) t h
renumbered_is v (Many n k rest) t h =
    by_parts (λ t. IsOf (Many n k rest) (renumber v (Many n k rest) t)) (AreElements (IsMeaning k)) (IsMeaning rest)
    (λ t ts p q.
    let e : listed (map (tree k) (map (value k) (elements (at_each (renumber v k) t)))) ≡ at_each (renumber v k) t =
    by_elements (λ u. listed (map (tree k) (map (value k) (elements (at_each (renumber v k) u)))) ≡ at_each (renumber v k) u) (IsMeaning k) refl
    (λ u us m o. let f : tree k (value k (renumber v k u)) ≡ renumber v k u = renumbered_is v k u m in cc) t p in
    let r : tree rest (value rest (renumber v rest ts)) ≡ renumber v rest ts = renumbered_is v rest ts q in cc) t h
renumbered_is v (Index T k) t h = refl
renumbered_is v s t h = h

-- a zero value is a meaning
zero_means : (s : Shape) → IsMeaning s (zero_value s)
zero_means (One n k rest) = (zero_means k, zero_means rest)
zero_means (Many n k rest) = (refl, zero_means rest)
zero_means (Index T k) = zero_means k
zero_means s = tree_is s (empty s)

-- so canonical tables hold meanings of entries
pub tables_mean : (s : Shape) → IsSound s → (m : Tree) → IsMeaning s m → (T : Table) → Each (IsMeaning (entry T)) (tables_of s m T)
tables_mean s i m h T = tables_have IsMeaning handed_on (λ U. zero_means (entry U)) s i m h T
  where
    handed_on : IsHandedOn IsMeaning
    handed_on = record { one = λ n k rest t h. h; many = λ n k rest t h. h; index = λ U k t h. h }

-- and their entries are trees of values
pub entries_are : (s : Shape) → IsSound s → (m : Tree) → IsMeaning s m → (T : Table) → Each (IsOf (entry T)) (entries (tables_of s m) T)
entries_are s i m h T =
    let v : Tables = tables_of s m in
    each_map (IsOf (entry T)) (renumber v (entry T)) (v T)
    (each_all (IsMeaning (entry T)) (λ x. IsOf (entry T) (renumber v (entry T) x)) (renumbered_is v (entry T)) (v T) (tables_mean s i m h T))
