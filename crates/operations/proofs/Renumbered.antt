-- The parts of records that were renumbered, by their outline.
use Rattle.std.proofs.Common.{◌≡◌, List, [], ◌∷◌, ◌++◌, map, refl, sym, ap, ◌∙◌, true}
use Rattle.std.proofs.lemmas.List.{map-append}
use Rattle.std.specs.List.{flat_map}
use Rattle.schema.specs.Shape.{Shape, Text, End, One, Many}
use Rattle.schema.specs.Texts.{bytes_field}
use Rattle.meaning.specs.Tree.{Tree, Natural, Integer, Boolean, Octets, Nil, Cons, octets_of, head_of, tail_of, elements}
use Rattle.meaning.specs.Tables.{Tables}
use Rattle.meaning.specs.Meaning.{at_parts, at_each}
use Rattle.meaning.specs.Canonical.{renumber}
use Rattle.meaning.specs.Message.{record_text}
use Rattle.meaning.specs.Renumbering.{is_plain}
use Rattle.meaning.proofs.Growth.{renumber-plain}
use Rattle.meaning.proofs.Places.{map-map}
use Rattle.parts.specs.Parts.{ResourceBegins, ScopeBegins}
use Rattle.parts.specs.Records.{holder, held, front, back, profile_part, scope_parts, resource_parts, parts_in}
use Rattle.operations.specs.Outlines.{profile_item, scope_outline, resource_outline, outline, item_part}

-- the elements of a list that a function went over
pub elements-each : (f : Tree → Tree) (t : Tree) → elements (at_each f t) ≡ map f (elements t)
elements-each f (Cons t ts) = ap (λ l. f t ∷ l) (elements-each f ts)
elements-each f (Natural n) = refl
elements-each f (Integer z) = refl
elements-each f (Boolean b) = refl
elements-each f (Octets o) = refl
elements-each f Nil = refl

-- the first row
head-parts : (f g : Tree → Tree) → ((t : Tree) → f t ≡ t) → (t : Tree) → head_of (at_parts f g t) ≡ head_of t
head-parts f g h (Cons t ts) = h t
head-parts f g h (Natural n) = refl
head-parts f g h (Integer z) = refl
head-parts f g h (Boolean b) = refl
head-parts f g h (Octets o) = refl
head-parts f g h Nil = refl

-- what is in the second
second-parts : (e f g : Tree → Tree) (t : Tree) → elements (head_of (tail_of (at_parts e (at_parts (at_each f) g) t))) ≡ map f (held t)
second-parts e f g (Cons t (Cons u us)) = elements-each f u
second-parts e f g (Cons t (Natural n)) = refl
second-parts e f g (Cons t (Integer z)) = refl
second-parts e f g (Cons t (Boolean b)) = refl
second-parts e f g (Cons t (Octets o)) = refl
second-parts e f g (Cons t Nil) = refl
second-parts e f g (Natural n) = refl
second-parts e f g (Integer z) = refl
second-parts e f g (Boolean b) = refl
second-parts e f g (Octets o) = refl
second-parts e f g Nil = refl

-- and the rows from the third on
rest-parts : (e f g : Tree → Tree) → ((t : Tree) → g t ≡ t) → (t : Tree) → tail_of (tail_of (at_parts e (at_parts f g) t)) ≡ tail_of (tail_of t)
rest-parts e f g h (Cons t (Cons u us)) = h us
rest-parts e f g h (Cons t (Natural n)) = refl
rest-parts e f g h (Cons t (Integer z)) = refl
rest-parts e f g h (Cons t (Boolean b)) = refl
rest-parts e f g h (Cons t (Octets o)) = refl
rest-parts e f g h (Cons t Nil) = refl
rest-parts e f g h (Natural n) = refl
rest-parts e f g h (Integer z) = refl
rest-parts e f g h (Boolean b) = refl
rest-parts e f g h (Octets o) = refl
rest-parts e f g h Nil = refl

-- a record's front, what it holds, and its back
front-renumbered : (v : Tables) (h k : Shape) → is_plain h ≡ true → (t : Tree) → front h (renumber v (holder h k) t) ≡ front h t
front-renumbered v h k p t =
    ap (λ x. bytes_field 1 (record_text h x)) (head-parts (renumber v h) (renumber v (Many 2 k (One 3 Text End))) (renumber-plain v h p) t)

pub held-renumbered : (v : Tables) (h k : Shape) (t : Tree) → held (renumber v (holder h k) t) ≡ map (renumber v k) (held t)
held-renumbered v h k t = second-parts (renumber v h) (renumber v k) (renumber v (One 3 Text End)) t

back-renumbered : (v : Tables) (h k : Shape) (t : Tree) → back (renumber v (holder h k) t) ≡ back t
back-renumbered v h k t =
    ap (λ x. bytes_field 3 (octets_of (head_of x)))
    (rest-parts (renumber v h) (at_each (renumber v k)) (renumber v (One 3 Text End)) (renumber-plain v (One 3 Text End) refl) t)

-- parts of a list by parts of its elements
pub map-flat : {A B C : Type 0} (f : B → C) (g : A → List B) (xs : List A) → map f (flat_map g xs) ≡ flat_map (λ x. map f (g x)) xs
map-flat f g [] = refl
map-flat f g (x ∷ xs) = map-append f (g x) (flat_map g xs) ∙ ap (λ l. map f (g x) ++ l) (map-flat f g xs)

pub flat-map : {A B C : Type 0} (f : A → B) (g : B → List C) (h : A → List C) → ((x : A) → g (f x) ≡ h x) → (xs : List A) → flat_map g (map f xs) ≡ flat_map h xs
flat-map f g h e [] = refl
flat-map f g h e (x ∷ xs) = ap (λ l. l ++ flat_map g (map f xs)) (e x) ∙ ap (λ l. h x ++ l) (flat-map f g h e xs)

of_scope : (v : Tables) (g h k : Shape) → is_plain h ≡ true → (t : Tree)
    → scope_parts h k (renumber v (holder h k) t) ≡ map (item_part g h k v) (scope_outline t)
of_scope v g h k p t =
    let a = front-renumbered v h k p t in
    let b = back-renumbered v h k t in
    ap (λ x. ScopeBegins x (back (renumber v (holder h k) t)) ∷ map (profile_part k) (held (renumber v (holder h k) t))) a
    ∙ ap (λ x. ScopeBegins (front h t) x ∷ map (profile_part k) (held (renumber v (holder h k) t))) b
    ∙ ap (λ l. ScopeBegins (front h t) (back t) ∷ l)
    (ap (map (profile_part k)) (held-renumbered v h k t) ∙ map-map (renumber v k) (profile_part k) (held t) ∙ sym (map-map profile_item (item_part g h k v) (held t)))

of_resource : (v : Tables) (g h k : Shape) → is_plain g ≡ true → is_plain h ≡ true → (t : Tree)
    → resource_parts g h k (renumber v (holder g (holder h k)) t) ≡ map (item_part g h k v) (resource_outline t)
of_resource v g h k q p t =
    let u : Tree = renumber v (holder g (holder h k)) t in
    let a : front g u ≡ front g t = front-renumbered v g (holder h k) q t in
    let b : back u ≡ back t = back-renumbered v g (holder h k) t in
    ap (λ x. ResourceBegins x (back u) ∷ flat_map (scope_parts h k) (held u)) a
    ∙ ap (λ x. ResourceBegins (front g t) x ∷ flat_map (scope_parts h k) (held u)) b
    ∙ ap (λ l. ResourceBegins (front g t) (back t) ∷ l)
    (ap (flat_map (scope_parts h k)) (held-renumbered v g (holder h k) t)
    ∙ flat-map (renumber v (holder h k)) (scope_parts h k) (λ x. map (item_part g h k v) (scope_outline x)) (of_scope v g h k p) (held t)
    ∙ sym (map-flat (item_part g h k v) scope_outline (held t)))

pub parts-outline : (v : Tables) (g h k : Shape) → is_plain g ≡ true → is_plain h ≡ true → (ms : List Tree)
    → parts_in g h k (map (renumber v (holder g (holder h k))) ms) ≡ map (item_part g h k v) (outline ms)
parts-outline v g h k q p ms =
    flat-map (renumber v (holder g (holder h k))) (resource_parts g h k) (λ x. map (item_part g h k v) (resource_outline x)) (of_resource v g h k q p) ms
    ∙ sym (map-flat (item_part g h k v) resource_outline ms)
