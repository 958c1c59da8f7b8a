-- Lists of values that grow: what was written stays written.
use Rattle.std.proofs.Common.{◌≡◌, ℕ, List, [], ◌∷◌, ◌++◌, map, true, cond, refl, sym, ap, ◌∙◌, pos}
use Rattle.std.proofs.lemmas.Bool.{and_parts}
use Rattle.std.proofs.lemmas.Grind.{flat_map-append}
use Rattle.std.proofs.lemmas.List.{map-append, append-nil}
use Rattle.std.specs.List.{flat_map}
use Rattle.schema.specs.Each.{Each}
use Rattle.schema.specs.Shape.{Shape, Index, One, Many, Table}
use Rattle.schema_laws.proofs.Lists.{each_left, each_right}
use Rattle.meaning.specs.Tree.{Tree, Natural, Integer, Boolean, Octets, Nil, Cons, listed}
use Rattle.meaning.specs.Tables.{Tables, same_table, has, place, with_new}
use Rattle.meaning.specs.Meaning.{at_parts, at_each, walk_parts, walk_each, uses}
use Rattle.meaning.specs.Canonical.{Covers, renumber}
use Rattle.meaning.specs.Renumbering.{Written, WrittenEach, is_plain}
use Rattle.meaning.proofs.Places.{each_all, has-with_new, place-with_new, all_in, with_new-append, with_new-all}
use Rattle.meaning.proofs.Soundness.{same_table-itself}

-- lists that have grown keep what they have, in its place
pub record Grown (v w : Tables) : Type 0 where
  pub keeps : (T : Table) (x : Tree) → has (v T) x ≡ true → has (w T) x ≡ true
  pub places : (T : Table) (x : Tree) → has (v T) x ≡ true → place (w T) x ≡ place (v T) x

-- lists that stay as they are
pub same_grown : (v : Tables) → Grown v v
same_grown v = record { keeps = λ T x h. h; places = λ T x h. refl }

-- lists that gain values
pub grown_by : (v w : Tables) (us : Table → List Tree) → ((T : Table) → w T ≡ with_new (v T) (us T)) → Grown v w
grown_by v w us h = record {
  keeps = λ T x i. rw (h T) (has-with_new (us T) (v T) x i);
  places = λ T x i. rw (h T) (place-with_new (us T) (v T) x i);
}

-- what was covered stays so
pub covers_grown : {v w : Tables} → Grown v w → (s : Shape) (t : Tree) → Covers v s t → Covers w s t
covers_grown {v} {w} g s t h T = each_all (λ x. has (v T) x ≡ true) (λ x. has (w T) x ≡ true) (g.keeps T) (uses T s t) (h T)

-- ---- indexes do not change

-- f and g are the same at each t of whose walk w P holds
abbrev Agrees : (Tree → Tree) → (Tree → Tree) → (Table → Tree → List Tree) → (Table → Tree → Type 0) → Type 0
Agrees f g w P = (t : Tree) → ((T : Table) → Each (P T) (w T t)) → f t ≡ g t

-- so at lists
each_agrees : (f g : Tree → Tree) (w : Table → Tree → List Tree) (P : Table → Tree → Type 0)
    → Agrees f g w P → Agrees (at_each f) (at_each g) (λ T. walk_each (w T)) P
each_agrees f g w P a (Cons t ts) h =
    let e : f t ≡ g t = a t (λ T. each_left (P T) (w T t) _ (h T)) in
    let r : at_each f ts ≡ at_each g ts = each_agrees f g w P a ts (λ T. each_right (P T) (w T t) _ (h T)) in
    cc
each_agrees f g w P a (Natural n) h = refl
each_agrees f g w P a (Integer z) h = refl
each_agrees f g w P a (Boolean b) h = refl
each_agrees f g w P a (Octets o) h = refl
each_agrees f g w P a Nil h = refl

-- and at rows
parts_agree : (f g f' g' : Tree → Tree) (w w' : Table → Tree → List Tree) (P : Table → Tree → Type 0)
    → Agrees f g w P → Agrees f' g' w' P → Agrees (at_parts f f') (at_parts g g') (λ T. walk_parts (w T) (w' T)) P
parts_agree f g f' g' w w' P a a' (Cons t ts) h =
    let e : f t ≡ g t = a t (λ T. each_left (P T) (w T t) _ (h T)) in
    let r : f' ts ≡ g' ts = a' ts (λ T. each_right (P T) (w T t) _ (h T)) in
    cc
parts_agree f g f' g' w w' P a a' (Natural n) h = refl
parts_agree f g f' g' w w' P a a' (Integer z) h = refl
parts_agree f g f' g' w w' P a a' (Boolean b) h = refl
parts_agree f g f' g' w w' P a a' (Octets o) h = refl
parts_agree f g f' g' w w' P a a' Nil h = refl

-- a meaning that the lists cover has the same indexes in lists that have grown
pub renumber-grown : (v w : Tables) → Grown v w → (s : Shape) → Agrees (renumber w s) (renumber v s) (λ T. uses T s) (λ T x. has (v T) x ≡ true)
renumber-grown v w g (One n k rest) t h =
    parts_agree (renumber w k) (renumber v k) (renumber w rest) (renumber v rest) (λ T. uses T k) (λ T. uses T rest) (λ T x. has (v T) x ≡ true)
    (renumber-grown v w g k) (renumber-grown v w g rest) t h
renumber-grown v w g (Many n k rest) t h =
    parts_agree (at_each (renumber w k)) (at_each (renumber v k)) (renumber w rest) (renumber v rest) (λ T. walk_each (uses T k)) (λ T. uses T rest) (λ T x. has (v T) x ≡ true)
    (each_agrees (renumber w k) (renumber v k) (λ T. uses T k) (λ T x. has (v T) x ≡ true) (renumber-grown v w g k)) (renumber-grown v w g rest) t h
renumber-grown v w g (Index T k) t h =
    let here : has (v T) t ≡ true = (rw same_table-itself at (each_left (λ x. has (v T) x ≡ true) (cond (same_table T T) (t ∷ []) []) _ (h T))).0 in
    ap (λ j. Integer (pos j)) (g.places T t here)
renumber-grown v w g s t h = refl

-- ---- steps

-- the lists after a step cover its meaning, and have grown
pub written_covers : {s : Shape} {v w : Tables} {m x : Tree} → Written s v w m x → Covers w s m
written_covers {s} {v} {w} {m} r T = rw (r.walked T) (all_in (uses T s m) (v T))

pub written_grown : {s : Shape} {v w : Tables} {m x : Tree} → Written s v w m x → Grown v w
written_grown {s} {v} {w} {m} r = grown_by v w (λ T. uses T s m) r.walked

-- what was written once keeps its new form, and adds nothing
pub written_again : {s : Shape} {v w u : Tables} {m x : Tree} → Written s v w m x → Grown w u → Written s u u m x
written_again {s} {v} {w} {u} {m} r g = record {
  walked = λ T. sym (with_new-all (uses T s m) (u T) (covers_grown g s m (written_covers r) T));
  renumbered = r.renumbered ∙ sym (renumber-grown w u g s m (written_covers r));
}

-- a row, then the others
pub written_row : {n : ℕ} {k rest : Shape} {v w u : Tables} {m ms x xs : Tree}
    → Written k v w m x → Written rest w u ms xs → Written (One n k rest) v u (Cons m ms) (Cons x xs)
written_row {n} {k} {rest} {v} {w} {u} {m} {ms} {x} {xs} r s = record {
  walked = λ T. s.walked T ∙ ap (λ l. with_new l (uses T rest ms)) (r.walked T) ∙ sym (with_new-append (uses T k m) (uses T rest ms) (v T));
  renumbered =
      let e : x ≡ renumber u k m = r.renumbered ∙ sym (renumber-grown w u (written_grown s) k m (written_covers r)) in
      let f : xs ≡ renumber u rest ms = s.renumbered in
      cc;
}

-- ---- lists

-- a walk of the tree of a list
pub walk-listed : (w : Tree → List Tree) (ts : List Tree) → walk_each w (listed ts) ≡ flat_map w ts
walk-listed w [] = refl
walk-listed w (t ∷ ts) = ap (λ l. w t ++ l) (walk-listed w ts)

-- and a function at its elements
pub each-listed : (f : Tree → Tree) (ts : List Tree) → at_each f (listed ts) ≡ listed (map f ts)
each-listed f [] = refl
each-listed f (t ∷ ts) = ap (Cons (f t)) (each-listed f ts)

-- what was written of a list stays written
pub kept-each : (s : Shape) (v w : Tables) → Grown v w → (ms : List Tree)
    → ((T : Table) → Each (λ x. has (v T) x ≡ true) (flat_map (uses T s) ms)) → map (renumber w s) ms ≡ map (renumber v s) ms
kept-each s v w g [] h = refl
kept-each s v w g (m ∷ ms) h =
    let e : renumber w s m ≡ renumber v s m = renumber-grown v w g s m (λ T. each_left (λ x. has (v T) x ≡ true) (uses T s m) _ (h T)) in
    let r : map (renumber w s) ms ≡ map (renumber v s) ms = kept-each s v w g ms (λ T. each_right (λ x. has (v T) x ≡ true) (uses T s m) _ (h T)) in
    cc

-- the lists after them cover each element, and have grown
pub each_covers : {s : Shape} {v w : Tables} {ms xs : List Tree} → WrittenEach s v w ms xs → (T : Table) → Each (λ x. has (w T) x ≡ true) (flat_map (uses T s) ms)
each_covers {s} {v} {w} {ms} r T = rw (r.walked T) (all_in (flat_map (uses T s) ms) (v T))

pub each_grown : {s : Shape} {v w : Tables} {ms xs : List Tree} → WrittenEach s v w ms xs → Grown v w
each_grown {s} {v} {w} {ms} r = grown_by v w (λ T. flat_map (uses T s) ms) r.walked

-- no elements; one; and one list after the other
pub written_none : (s : Shape) (v : Tables) → WrittenEach s v v [] []
written_none s v = record { walked = λ T. refl; renumbered = refl }

pub written_single : {s : Shape} {v w : Tables} {m x : Tree} → Written s v w m x → WrittenEach s v w (m ∷ []) (x ∷ [])
written_single {s} {v} {w} {m} {x} r = record {
  walked = λ T. r.walked T ∙ sym (ap (with_new (v T)) (append-nil (uses T s m)));
  renumbered = ap (λ y. y ∷ []) r.renumbered;
}

pub written_append : {s : Shape} {v w u : Tables} {ms ns xs ys : List Tree}
    → WrittenEach s v w ms xs → WrittenEach s w u ns ys → WrittenEach s v u (ms ++ ns) (xs ++ ys)
written_append {s} {v} {w} {u} {ms} {ns} {xs} {ys} r q = record {
  walked = λ T.
      q.walked T ∙ ap (λ l. with_new l (flat_map (uses T s) ns)) (r.walked T)
      ∙ sym (ap (with_new (v T)) (flat_map-append (uses T s) ms ns) ∙ with_new-append (flat_map (uses T s) ms) (flat_map (uses T s) ns) (v T));
  renumbered =
      let e : xs ≡ map (renumber u s) ms = r.renumbered ∙ sym (kept-each s w u (each_grown q) ms (each_covers r)) in
      let f : ys ≡ map (renumber u s) ns = q.renumbered in
      ap (λ l. l ++ ys) e ∙ ap (λ l. map (renumber u s) ms ++ l) f ∙ sym (map-append (renumber u s) ms ns);
}

-- one more element at the end, as a loop goes
pub written_push : {s : Shape} {v w u : Tables} {ms xs : List Tree} {m x : Tree}
    → WrittenEach s v w ms xs → Written s w u m x → WrittenEach s v u (ms ++ m ∷ []) (xs ++ x ∷ [])
written_push r q = written_append r (written_single q)

-- a repeated row, then the others
pub written_rows : {n : ℕ} {k rest : Shape} {v w u : Tables} {ms xs : List Tree} {m x : Tree}
    → WrittenEach k v w ms xs → Written rest w u m x → Written (Many n k rest) v u (Cons (listed ms) m) (Cons (listed xs) x)
written_rows {n} {k} {rest} {v} {w} {u} {ms} {xs} {m} {x} r s = record {
  walked = λ T.
      s.walked T ∙ ap (λ l. with_new l (uses T rest m)) (r.walked T) ∙ sym (with_new-append (flat_map (uses T k) ms) (uses T rest m) (v T))
      ∙ sym (ap (λ l. with_new (v T) (l ++ uses T rest m)) (walk-listed (uses T k) ms));
  renumbered =
      let e : listed xs ≡ at_each (renumber u k) (listed ms) =
      ap listed (r.renumbered ∙ sym (kept-each k w u (written_grown s) ms (each_covers r))) ∙ sym (each-listed (renumber u k) ms) in
      let f : x ≡ renumber u rest m = s.renumbered in
      cc;
}

-- ---- values without indexes

-- a function that changes no element
pub plain_each : (f : Tree → Tree) → ((t : Tree) → f t ≡ t) → (t : Tree) → at_each f t ≡ t
plain_each f h (Cons t ts) = let e : f t ≡ t = h t in let r : at_each f ts ≡ ts = plain_each f h ts in cc
plain_each f h (Natural n) = refl
plain_each f h (Integer z) = refl
plain_each f h (Boolean b) = refl
plain_each f h (Octets o) = refl
plain_each f h Nil = refl

-- and functions that change no row
pub plain_parts : (f g : Tree → Tree) → ((t : Tree) → f t ≡ t) → ((t : Tree) → g t ≡ t) → (t : Tree) → at_parts f g t ≡ t
plain_parts f g h i (Cons t ts) = let e : f t ≡ t = h t in let r : g ts ≡ ts = i ts in cc
plain_parts f g h i (Natural n) = refl
plain_parts f g h i (Integer z) = refl
plain_parts f g h i (Boolean b) = refl
plain_parts f g h i (Octets o) = refl
plain_parts f g h i Nil = refl

-- renumbering changes nothing where there is no index
pub renumber-plain : (v : Tables) (s : Shape) → is_plain s ≡ true → (t : Tree) → renumber v s t ≡ t
renumber-plain v (One n k rest) h t =
    let p = and_parts (is_plain k) (is_plain rest) h in
    plain_parts (renumber v k) (renumber v rest) (renumber-plain v k p.0) (renumber-plain v rest p.1) t
renumber-plain v (Many n k rest) h t =
    let p = and_parts (is_plain k) (is_plain rest) h in
    plain_parts (at_each (renumber v k)) (renumber v rest) (plain_each (renumber v k) (renumber-plain v k p.0)) (renumber-plain v rest p.1) t
renumber-plain v (Index T k) h t = cc
renumber-plain v s h t = refl
