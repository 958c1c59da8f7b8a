-- What the walk of records meets, by their outline.
use Rattle.std.proofs.Common.{◌≡◌, List, [], ◌∷◌, ◌++◌, refl, sym, ap, ◌∙◌, true}
use Rattle.std.proofs.lemmas.Bool.{and_parts, and_from}
use Rattle.std.proofs.lemmas.Grind.{flat_map-append}
use Rattle.std.proofs.lemmas.List.{append-nil}
use Rattle.std.specs.List.{flat_map}
use Rattle.schema.specs.Shape.{Shape, Text, Index, End, One, Many, Table}
use Rattle.meaning.specs.Tree.{Tree, Natural, Integer, Boolean, Octets, Nil, Cons, elements, listed}
use Rattle.meaning.specs.Meaning.{walk_parts, walk_each, uses}
use Rattle.meaning.specs.Canonical.{records, record_list}
use Rattle.meaning.specs.Renumbering.{is_plain}
use Rattle.meaning.proofs.Growth.{walk-listed}
use Rattle.meaning.proofs.Orders.{avoids, uses_none}
use Rattle.parts.specs.Records.{holder, held}
use Rattle.operations.specs.Outlines.{profile_item, scope_outline, resource_outline, outline, item_uses}
use Rattle.operations.proofs.Renumbered.{flat-map}

-- a shape without indexes names no table
avoids-plain : (T : Table) (s : Shape) → is_plain s ≡ true → avoids T s ≡ true
avoids-plain T (One n k rest) h = let p = and_parts (is_plain k) (is_plain rest) h in and_from _ _ (avoids-plain T k p.0) (avoids-plain T rest p.1)
avoids-plain T (Many n k rest) h = let p = and_parts (is_plain k) (is_plain rest) h in and_from _ _ (avoids-plain T k p.0) (avoids-plain T rest p.1)
avoids-plain T (Index U k) h = cc
avoids-plain T s h = refl

-- so its walk meets nothing
plain-walk : (T : Table) (s : Shape) → is_plain s ≡ true → (t : Tree) → uses T s t ≡ []
plain-walk T s h t = uses_none T s (avoids-plain T s h) t

-- the walk of elements
each-elements : (f : Tree → List Tree) (t : Tree) → walk_each f t ≡ flat_map f (elements t)
each-elements f (Cons t ts) = ap (λ l. f t ++ l) (each-elements f ts)
each-elements f (Natural n) = refl
each-elements f (Integer z) = refl
each-elements f (Boolean b) = refl
each-elements f (Octets o) = refl
each-elements f Nil = refl

-- where the first row and those from the third on meet nothing, the walk is that of what is held
second-walk : (e f g : Tree → List Tree) → ((t : Tree) → e t ≡ []) → ((t : Tree) → g t ≡ [])
    → (t : Tree) → walk_parts e (walk_parts (walk_each f) g) t ≡ flat_map f (held t)
second-walk e f g h i (Cons t (Cons u us)) = rw (h t, i us, append-nil (walk_each f u)) (each-elements f u)
second-walk e f g h i (Cons t (Natural n)) = rw (h t) refl
second-walk e f g h i (Cons t (Integer z)) = rw (h t) refl
second-walk e f g h i (Cons t (Boolean b)) = rw (h t) refl
second-walk e f g h i (Cons t (Octets o)) = rw (h t) refl
second-walk e f g h i (Cons t Nil) = rw (h t) refl
second-walk e f g h i (Natural n) = refl
second-walk e f g h i (Integer z) = refl
second-walk e f g h i (Boolean b) = refl
second-walk e f g h i (Octets o) = refl
second-walk e f g h i Nil = refl

holder-walk : (T : Table) (h k : Shape) → is_plain h ≡ true → (t : Tree) → uses T (holder h k) t ≡ flat_map (uses T k) (held t)
holder-walk T h k p t = second-walk (uses T h) (uses T k) (uses T (One 3 Text End)) (plain-walk T h p) (plain-walk T (One 3 Text End) refl) t

-- lists of lists
pub flat-flat : {A B C : Type 0} (f : A → List B) (g : B → List C) (xs : List A) → flat_map g (flat_map f xs) ≡ flat_map (λ x. flat_map g (f x)) xs
flat-flat f g [] = refl
flat-flat f g (x ∷ xs) = flat_map-append g (f x) (flat_map f xs) ∙ ap (λ l. flat_map g (f x) ++ l) (flat-flat f g xs)

flat-same : {A B : Type 0} (f g : A → List B) → ((x : A) → f x ≡ g x) → (xs : List A) → flat_map f xs ≡ flat_map g xs
flat-same f g h [] = refl
flat-same f g h (x ∷ xs) = ap (λ l. l ++ flat_map f xs) (h x) ∙ ap (λ l. g x ++ l) (flat-same f g h xs)

scope-walk : (T : Table) (h k : Shape) → is_plain h ≡ true → (t : Tree) → uses T (holder h k) t ≡ flat_map (item_uses k T) (scope_outline t)
scope-walk T h k p t = holder-walk T h k p t ∙ sym (flat-map profile_item (item_uses k T) (uses T k) (λ x. refl) (held t))

resource-walk : (T : Table) (g h k : Shape) → is_plain g ≡ true → is_plain h ≡ true → (t : Tree)
    → uses T (holder g (holder h k)) t ≡ flat_map (item_uses k T) (resource_outline t)
resource-walk T g h k q p t =
    holder-walk T g (holder h k) q t
    ∙ flat-same (uses T (holder h k)) (λ x. flat_map (item_uses k T) (scope_outline x)) (scope-walk T h k p) (held t)
    ∙ sym (flat-flat scope_outline (item_uses k T) (held t))

-- the walk of several
pub records-walk : (T : Table) (g h k : Shape) → is_plain g ≡ true → is_plain h ≡ true → (ms : List Tree)
    → flat_map (uses T (holder g (holder h k))) ms ≡ flat_map (item_uses k T) (outline ms)
records-walk T g h k q p ms =
    flat-same (uses T (holder g (holder h k))) (λ x. flat_map (item_uses k T) (resource_outline x)) (resource-walk T g h k q p) ms
    ∙ sym (flat-flat resource_outline (item_uses k T) ms)

-- and of a meaning
pub meaning-walk : (T : Table) (g h k : Shape) → is_plain g ≡ true → is_plain h ≡ true → (ms : List Tree)
    → uses T (records (holder g (holder h k))) (record_list ms) ≡ flat_map (item_uses k T) (outline ms)
meaning-walk T g h k q p ms =
    let r : Shape = holder g (holder h k) in
    append-nil (walk_each (uses T r) (listed ms)) ∙ walk-listed (uses T r) ms ∙ records-walk T g h k q p ms
