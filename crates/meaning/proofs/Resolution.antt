-- The canonical tables of a meaning resolve to it.
use Rattle.std.proofs.Common.{◌≡◌, List, ◌++◌, get_or, Bool, true, false, cond, refl, sym, ap, ◌∙◌, subst, [], ◌∷◌}
use Rattle.std.proofs.lemmas.List.{get_or-map}
use mathlib.Core.Path.{fun_ext}
use Rattle.schema.specs.Each.{Each}
use Rattle.schema.specs.Shape.{Shape, Index, One, Many, Table}
use Rattle.schema_laws.proofs.Lists.{each_left, each_right}
use Rattle.meaning.specs.Tree.{Tree, Natural, Integer, Boolean, Octets, Nil, Cons, same}
use Rattle.meaning.specs.Tables.{Tables, IsSound, entry, same_table, has, place, Distinct}
use Rattle.meaning.specs.Meaning.{at_parts, at_each, walk_parts, walk_each, blank, resolve, uses}
use Rattle.meaning.specs.Canonical.{Covers, zeros, tables_of, renumber, entries}
use Rattle.meaning.proofs.Trees.{same-itself}
use Rattle.meaning.proofs.Places.{each_all, at_place, place-lt, all_in, each_with_new, distinct-with_new}
use Rattle.meaning.proofs.Soundness.{same_table-itself}

-- the entries d have the value x of the table T, renumbered, at its place in v
abbrev Kept : Tables → Tables → Table → Tree → Type 0
Kept d v T x = get_or (d T) (place (v T) x) (blank (entry T)) ≡ renumber v (entry T) x

-- f undoes g at each t whose walk w meets only values of which P holds
abbrev Undoes : (Tree → Tree) → (Tree → Tree) → (Table → Tree → List Tree) → (Table → Tree → Type 0) → Type 0
Undoes f g w P = (t : Tree) → ((T : Table) → Each (P T) (w T t)) → f (g t) ≡ t

-- so at lists
each_restores : (f g : Tree → Tree) (w : Table → Tree → List Tree) (P : Table → Tree → Type 0)
    → Undoes f g w P → Undoes (at_each f) (at_each g) (λ T. walk_each (w T)) P
each_restores f g w P u (Cons t ts) h =
    let e : f (g t) ≡ t = u t (λ T. each_left (P T) (w T t) _ (h T)) in
    let r : at_each f (at_each g ts) ≡ ts = each_restores f g w P u ts (λ T. each_right (P T) (w T t) _ (h T)) in
    cc
each_restores f g w P u (Natural n) h = refl
each_restores f g w P u (Integer z) h = refl
each_restores f g w P u (Boolean b) h = refl
each_restores f g w P u (Octets a) h = refl
each_restores f g w P u Nil h = refl

-- and at rows
parts_restore : (f g f' g' : Tree → Tree) (w w' : Table → Tree → List Tree) (P : Table → Tree → Type 0)
    → Undoes f g w P → Undoes f' g' w' P → Undoes (at_parts f f') (at_parts g g') (λ T. walk_parts (w T) (w' T)) P
parts_restore f g f' g' w w' P u u' (Cons t ts) h =
    let e : f (g t) ≡ t = u t (λ T. each_left (P T) (w T t) _ (h T)) in
    let r : f' (g' ts) ≡ ts = u' ts (λ T. each_right (P T) (w T t) _ (h T)) in
    cc
parts_restore f g f' g' w w' P u u' (Natural n) h = refl
parts_restore f g f' g' w w' P u u' (Integer z) h = refl
parts_restore f g f' g' w w' P u u' (Boolean b) h = refl
parts_restore f g f' g' w w' P u u' (Octets a) h = refl
parts_restore f g f' g' w w' P u u' Nil h = refl

-- entries that keep the values that a walk meets resolve to what it walked
restores : (d v : Tables) (s : Shape) → IsSound s → Undoes (resolve d s) (renumber v s) (λ T. uses T s) (Kept d v)
restores d v (One n k rest) i t h =
    parts_restore (resolve d k) (renumber v k) (resolve d rest) (renumber v rest) (λ T. uses T k) (λ T. uses T rest) (Kept d v)
    (restores d v k i.0) (restores d v rest i.1) t h
restores d v (Many n k rest) i t h =
    parts_restore (at_each (resolve d k)) (at_each (renumber v k)) (resolve d rest) (renumber v rest) (λ T. walk_each (uses T k)) (λ T. uses T rest) (Kept d v)
    (each_restores (resolve d k) (renumber v k) (λ T. uses T k) (Kept d v) (restores d v k i.0)) (restores d v rest i.1) t h
restores d v (Index U k) i t h =
    let here : Kept d v U t = (rw same_table-itself at (each_left (Kept d v U) (cond (same_table U U) (t ∷ []) []) _ (h U))).0 in
    let there : get_or (d U) (place (v U) t) (blank k) ≡ renumber v k t =
    subst (λ e. get_or (d U) (place (v U) t) (blank e) ≡ renumber v e t) (sym i.0) here in
    ap (resolve d k) there ∙ restores d v k i.1 t (λ T. each_right (Kept d v T) (cond (same_table T U) (t ∷ []) []) _ (h T))
restores d v s i t h = refl

-- the entries of lists keep each value that these have
kept : (v : Tables) (T : Table) (x : Tree) → has (v T) x ≡ true → Kept (entries v) v T x
kept v T x h = get_or-map (renumber v (entry T)) (v T) (place (v T) x) x (blank (entry T)) (place-lt (v T) x h) ∙ ap (renumber v (entry T)) (at_place (v T) x x h)

-- a meaning whose values the lists have is restored from them
pub covering : (v : Tables) (s : Shape) → IsSound s → (t : Tree) → Covers v s t → resolve (entries v) s (renumber v s t) ≡ t
covering v s i t h = restores (entries v) v s i t (λ T. each_all (λ x. has (v T) x ≡ true) (Kept (entries v) v T) (kept v T) (uses T s t) (h T))

-- the canonical tables of a meaning cover it
pub tables-cover : (s : Shape) (m : Tree) → Covers (tables_of s m) s m
tables-cover s m T = all_in (uses T s m) (zeros T)

-- so it is restored from them
pub canonical : (s : Shape) → IsSound s → (m : Tree) → resolve (entries (tables_of s m)) s (renumber (tables_of s m) s m) ≡ m
canonical s i m = covering (tables_of s m) s i m (tables-cover s m)

-- so nothing else has the same canonical tables and records
pub unique : (s : Shape) → IsSound s → (m n : Tree) → ((T : Table) → entries (tables_of s m) T ≡ entries (tables_of s n) T)
    → renumber (tables_of s m) s m ≡ renumber (tables_of s n) s n → m ≡ n
unique s i m n h e =
    sym (canonical s i m) ∙ ap (resolve (entries (tables_of s m)) s) e
    ∙ ap (λ d. resolve d s (renumber (tables_of s n) s n)) (fun_ext h) ∙ canonical s i n

-- ---- each value once

-- a list has each of its values
has-each : (ts : List Tree) → Each (λ x. has ts x ≡ true) ts
has-each [] = tt
has-each (t ∷ ts) =
    (rw (same-itself t) refl, each_all (λ x. has ts x ≡ true) (λ x. has (t ∷ ts) x ≡ true) (behind t ts) ts (has-each ts))
  where
    behind : (t : Tree) (ts : List Tree) (x : Tree) → has ts x ≡ true → has (t ∷ ts) x ≡ true
    behind t ts x h = by_test (same t x)
      where
        by_test : (b : Bool) → cond b true (has ts x) ≡ true
        by_test true = refl
        by_test false = h

-- canonical tables have no value twice
pub tables-distinct : (s : Shape) (m : Tree) (T : Table) → Distinct (tables_of s m T)
tables-distinct s m T = distinct-with_new (uses T s m) (zeros T) (refl, tt)

-- and none but the zero value and what the walk meets
pub tables-only : (s : Shape) (m : Tree) (T : Table) → Each (λ x. has (zeros T ++ uses T s m) x ≡ true) (tables_of s m T)
tables-only s m T =
    let h : Each (λ x. has (zeros T ++ uses T s m) x ≡ true) (zeros T ++ uses T s m) = has-each (zeros T ++ uses T s m) in
    each_with_new (λ x. has (zeros T ++ uses T s m) x ≡ true) (uses T s m) (zeros T) (each_left (λ x. has (zeros T ++ uses T s m) x ≡ true) (zeros T) (uses T s m) h) (each_right (λ x. has (zeros T ++ uses T s m) x ≡ true) (zeros T) (uses T s m) h)
