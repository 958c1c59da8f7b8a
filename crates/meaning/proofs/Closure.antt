-- Canonical tables have each value that their values name, and the indexes in them are within them.
use Rattle.std.proofs.Common.{◌≡◌, ℕ, ◌<◌, arith, List, [], ◌∷◌, map, length, true, cond, sym, ap, ◌∙◌, subst}
use Rattle.std.proofs.lemmas.List.{length-map}
use Rattle.schema.specs.Each.{Each}
use Rattle.schema.specs.Shape.{Shape, Index, One, Many, Table}
use Rattle.schema_laws.proofs.Lists.{each_append, each_left, each_right}
use Rattle.meaning.specs.Tree.{Tree, Natural, Integer, Boolean, Octets, Nil, Cons}
use Rattle.meaning.specs.Tables.{Tables, IsSound, entry, same_table, has, place, Distinct}
use Rattle.meaning.specs.Meaning.{at_parts, at_each, walk_parts, walk_each, zero_value, resolve, uses, or_blank}
use Rattle.meaning.specs.Canonical.{HoldsForParts, HoldsForEach, IsWithin, Covers, zeros, tables_of, renumber, entries}
use Rattle.meaning.proofs.Trees.{same-itself}
use Rattle.meaning.proofs.Places.{each_all, place-lt, has-with_new, each_with_new, distinct-map}
use Rattle.meaning.proofs.Soundness.{same_table-itself, each_here, entry_sound}
use Rattle.meaning.proofs.Resolution.{covering, tables-cover, tables-distinct}

-- ---- tables are closed

-- P holds of each value that the walk of an entry x of T meets
abbrev Inside : (Table → Tree → Type 0) → Table → Tree → Type 0
Inside P T x = (U : Table) → Each (P U) (uses U (entry T) x)

-- where P holds of all that a walk w of t meets, Q holds of what it meets of the table T
abbrev Brings : (Table → Tree → List Tree) → (Table → Tree → Type 0) → (Tree → Type 0) → Table → Type 0
Brings w P Q T = (t : Tree) → ((U : Table) → Each (P U) (w U t)) → Each Q (w T t)

-- so in a list
each_brings : (w : Table → Tree → List Tree) (P : Table → Tree → Type 0) (Q : Tree → Type 0) (T : Table)
    → Brings w P Q T → Brings (λ U. walk_each (w U)) P Q T
each_brings w P Q T b (Cons t ts) h =
    each_append Q (w T t) _ (b t (λ U. each_left (P U) (w U t) _ (h U))) (each_brings w P Q T b ts (λ U. each_right (P U) (w U t) _ (h U)))
each_brings w P Q T b (Natural n) h = tt
each_brings w P Q T b (Integer z) h = tt
each_brings w P Q T b (Boolean c) h = tt
each_brings w P Q T b (Octets a) h = tt
each_brings w P Q T b Nil h = tt

-- and in rows
parts_bring : (w w' : Table → Tree → List Tree) (P : Table → Tree → Type 0) (Q : Tree → Type 0) (T : Table)
    → Brings w P Q T → Brings w' P Q T → Brings (λ U. walk_parts (w U) (w' U)) P Q T
parts_bring w w' P Q T b b' (Cons t ts) h =
    each_append Q (w T t) _ (b t (λ U. each_left (P U) (w U t) _ (h U))) (b' ts (λ U. each_right (P U) (w U t) _ (h U)))
parts_bring w w' P Q T b b' (Natural n) h = tt
parts_bring w w' P Q T b b' (Integer z) h = tt
parts_bring w w' P Q T b b' (Boolean c) h = tt
parts_bring w w' P Q T b b' (Octets a) h = tt
parts_bring w w' P Q T b b' Nil h = tt

-- each value that a walk meets brings all that it names
inside : (P : Table → Tree → Type 0) (T : Table) (s : Shape) → IsSound s → Brings (λ U. uses U s) P (Inside P T) T
inside P T (One n k rest) i t h = parts_bring (λ U. uses U k) (λ U. uses U rest) P (Inside P T) T (inside P T k i.0) (inside P T rest i.1) t h
inside P T (Many n k rest) i t h =
    parts_bring (λ U. walk_each (uses U k)) (λ U. uses U rest) P (Inside P T) T
    (each_brings (λ U. uses U k) P (Inside P T) T (inside P T k i.0)) (inside P T rest i.1) t h
inside P T (Index V k) i t h =
    let below : (U : Table) → Each (P U) (uses U k t) = λ U. each_right (P U) (cond (same_table U V) (t ∷ []) []) _ (h U) in
    each_append (Inside P T) (cond (same_table T V) (t ∷ []) []) _
    (each_here (Inside P T) T V t (λ e U. subst (λ j. Each (P U) (uses U j t)) (i.0 ∙ ap entry (sym e)) (below U)))
    (inside P T k i.1 t below)
inside P T s i t h = tt

-- a zero value names zero values alone
pub zero_uses : (T : Table) (s : Shape) → IsSound s → Each (λ x. zero_value (entry T) ≡ x) (uses T s (zero_value s))
zero_uses T (One n k rest) i = each_append (λ x. zero_value (entry T) ≡ x) (uses T k (zero_value k)) _ (zero_uses T k i.0) (zero_uses T rest i.1)
zero_uses T (Many n k rest) i = zero_uses T rest i.1
zero_uses T (Index U k) i =
    each_append (λ x. zero_value (entry T) ≡ x) (cond (same_table T U) (zero_value k ∷ []) []) _
    (each_here (λ x. zero_value (entry T) ≡ x) T U (zero_value k) (λ e. ap (λ V. zero_value (entry V)) e ∙ ap zero_value (sym i.0)))
    (zero_uses T k i.1)
zero_uses T s i = tt

-- lists that begin with the zero values cover each zero value
pub zero-covered : (v : Tables) → ((T : Table) → has (v T) (zero_value (entry T)) ≡ true) → (s : Shape) → IsSound s → Covers v s (zero_value s)
zero-covered v h s i U =
    each_all (λ x. zero_value (entry U) ≡ x) (λ x. has (v U) x ≡ true)
    (λ x e. rw (← e) (h U)) (uses U s (zero_value s)) (zero_uses U s i)

-- canonical tables have the zero values
pub tables-have_zero : (s : Shape) (m : Tree) (T : Table) → has (tables_of s m T) (zero_value (entry T)) ≡ true
tables-have_zero s m T = has-with_new (uses T s m) (zeros T) (zero_value (entry T)) (rw (same-itself (zero_value (entry T))))

-- canonical tables have all that their values name
pub tables-closed : (s : Shape) → IsSound s → (m : Tree) (T : Table) → Each (Covers (tables_of s m) (entry T)) (tables_of s m T)
tables-closed s i m T =
    each_with_new (Covers (tables_of s m) (entry T)) (uses T s m) (zeros T)
    (zero-covered (tables_of s m) (tables-have_zero s m) (entry T) (entry_sound T), tt)
    (inside (λ U x. has (tables_of s m U) x ≡ true) T s i m (tables-cover s m))

-- ---- indexes

-- g makes Q hold of each t of whose walk w P holds
abbrev Makes : (Tree → Tree) → (Table → Tree → List Tree) → (Table → Tree → Type 0) → (Tree → Type 0) → Type 0
Makes g w P Q = (t : Tree) → ((U : Table) → Each (P U) (w U t)) → Q (g t)

-- so in a list
each_makes : (g : Tree → Tree) (w : Table → Tree → List Tree) (P : Table → Tree → Type 0) (Q : Tree → Type 0)
    → Makes g w P Q → Makes (at_each g) (λ U. walk_each (w U)) P (HoldsForEach Q)
each_makes g w P Q q (Cons t ts) h = (q t (λ U. each_left (P U) (w U t) _ (h U)), each_makes g w P Q q ts (λ U. each_right (P U) (w U t) _ (h U)))
each_makes g w P Q q (Natural n) h = tt
each_makes g w P Q q (Integer z) h = tt
each_makes g w P Q q (Boolean b) h = tt
each_makes g w P Q q (Octets a) h = tt
each_makes g w P Q q Nil h = tt

-- and in rows
parts_make : (g g' : Tree → Tree) (w w' : Table → Tree → List Tree) (P : Table → Tree → Type 0) (Q Q' : Tree → Type 0)
    → Makes g w P Q → Makes g' w' P Q' → Makes (at_parts g g') (λ U. walk_parts (w U) (w' U)) P (HoldsForParts Q Q')
parts_make g g' w w' P Q Q' q q' (Cons t ts) h = (q t (λ U. each_left (P U) (w U t) _ (h U)), q' ts (λ U. each_right (P U) (w U t) _ (h U)))
parts_make g g' w w' P Q Q' q q' (Natural n) h = tt
parts_make g g' w w' P Q Q' q q' (Integer z) h = tt
parts_make g g' w w' P Q Q' q q' (Boolean b) h = tt
parts_make g g' w w' P Q Q' q q' (Octets a) h = tt
parts_make g g' w w' P Q Q' q q' Nil h = tt

-- a place in a list is one where the list stands for the zero entry, too
filled_below : (n : ℕ) (es : List Tree) (k : Shape) → n < length es → n < length (or_blank es k)
filled_below n [] k h = absurd (omega arith)
filled_below n (e ∷ es) k h = h

-- the new indexes of a meaning that the lists cover are within them
within : (v : Tables) (s : Shape) → Makes (renumber v s) (λ U. uses U s) (λ U x. has (v U) x ≡ true) (IsWithin (entries v) s)
within v (One n k rest) t h =
    parts_make (renumber v k) (renumber v rest) (λ U. uses U k) (λ U. uses U rest) (λ U x. has (v U) x ≡ true) (IsWithin (entries v) k) (IsWithin (entries v) rest)
    (within v k) (within v rest) t h
within v (Many n k rest) t h =
    parts_make (at_each (renumber v k)) (renumber v rest) (λ U. walk_each (uses U k)) (λ U. uses U rest) (λ U x. has (v U) x ≡ true) (HoldsForEach (IsWithin (entries v) k)) (IsWithin (entries v) rest)
    (each_makes (renumber v k) (λ U. uses U k) (λ U x. has (v U) x ≡ true) (IsWithin (entries v) k) (within v k)) (within v rest) t h
within v (Index T k) t h =
    let here : has (v T) t ≡ true = (rw same_table-itself at (each_left (λ x. has (v T) x ≡ true) (cond (same_table T T) (t ∷ []) []) _ (h T))).0 in
    filled_below (place (v T) t) (entries v T) k (rw length-map (place-lt (v T) t here))
within v s t h = tt

-- what holds of the images holds of the mapped list
pub each_map : {X Y : Type 0} (P : Y → Type 0) (f : X → Y) (xs : List X) → Each (λ x. P (f x)) xs → Each P (map f xs)
each_map P f [] h = tt
each_map P f (x ∷ xs) h = (h.0, each_map P f xs h.1)

-- so those of the records are within the canonical tables
pub record_within : (s : Shape) (m : Tree) → IsWithin (entries (tables_of s m)) s (renumber (tables_of s m) s m)
record_within s m = within (tables_of s m) s m (tables-cover s m)

-- and so are those of each entry
pub entries_within : (s : Shape) → IsSound s → (m : Tree) (T : Table)
    → Each (IsWithin (entries (tables_of s m)) (entry T)) (entries (tables_of s m) T)
entries_within s i m T =
    each_map (IsWithin (entries (tables_of s m)) (entry T)) (renumber (tables_of s m) (entry T)) (tables_of s m T)
    (each_all (Covers (tables_of s m) (entry T)) (λ x. IsWithin (entries (tables_of s m)) (entry T) (renumber (tables_of s m) (entry T) x))
    (within (tables_of s m) (entry T)) (tables_of s m T) (tables-closed s i m T))

-- ---- entries are distinct

-- the entries of closed lists can be undone
pub undone : (v : Tables) → ((T : Table) → Each (Covers v (entry T)) (v T)) → (T : Table) → Each (λ x. resolve (entries v) (entry T) (renumber v (entry T) x) ≡ x) (v T)
undone v c T = each_all (Covers v (entry T)) (λ x. resolve (entries v) (entry T) (renumber v (entry T) x) ≡ x) (λ x h. covering v (entry T) (entry_sound T) x h) (v T) (c T)

-- so the entries of distinct values are distinct
pub entries-distinct : (s : Shape) → IsSound s → (m : Tree) (T : Table) → Distinct (entries (tables_of s m) T)
entries-distinct s i m T =
    let v : Tables = tables_of s m in
    distinct-map (renumber v (entry T)) (resolve (entries v) (entry T)) (v T) (undone v (tables-closed s i m) T) (tables-distinct s m T)
