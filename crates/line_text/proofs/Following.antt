-- Texts that are put one after the other.
use Rattle.std.proofs.Common.{◌≡◌, ◌+◌, ◌<◌, ◌≤◌, ℕ, List, [], ◌∷◌, ◌++◌, length, take, get_or, subst, sym, ap, ◌∙◌, add-one}
use Rattle.std.specs.List.{flat_map}
use Rattle.std.proofs.Math.Seq.{take-suc}
use Rattle.std.proofs.lemmas.Grind.{flat_map-append}
use Rattle.std.proofs.lemmas.List.{take_all, append-nil}
use Rattle.line_text.specs.Putting.{ArePuts}

-- a text that is another one
pub put_as : {A : Type 0} (puts : A → List ℕ → A → Type 0) (a b : A) (x y : List ℕ) → x ≡ y → puts a x b → puts a y b
put_as puts a b x y e p = subst (λ t. puts a t b) e p

-- a text after another
pub then_put : {A : Type 0} {a b c : A} {y : List ℕ} (puts : A → List ℕ → A → Type 0) → ArePuts puts → (x : List ℕ) → puts a x b → puts b y c → puts a (x ++ y) c
then_put {A} {a} {b} {c} {y} puts laws x p q = laws.both a b c x y p q

-- the text of one more element, which is the one at this index
pub put_next : {A X : Type 0} {a b c : A} (puts : A → List ℕ → A → Type 0) → ArePuts puts → (f : X → List ℕ) (xs : List X) (i : ℕ) (x d : X)
    → i < length xs → x ≡ get_or xs i d → puts a (flat_map f (take i xs)) b → puts b (f x) c → puts a (flat_map f (take (i + 1) xs)) c
put_next {A} {X} {a} {b} {c} puts laws f xs i x d below is p q =
    put_as puts a c (flat_map f (take i xs) ++ f x) (flat_map f (take (i + 1) xs))
    (sym (ap (λ (n : ℕ). flat_map f (take n xs)) (add-one i) ∙ ap (flat_map f) (take-suc xs i d below) ∙ flat_map-append f (take i xs) (get_or xs i d ∷ []) ∙ ap (λ (l : List ℕ). flat_map f (take i xs) ++ l) (append-nil (f (get_or xs i d)) ∙ ap f (sym is))))
    (laws.both a b c (flat_map f (take i xs)) (f x) p q)

-- the text of all elements
pub put_all_of : {A X : Type 0} {a b : A} (puts : A → List ℕ → A → Type 0) (f : X → List ℕ) (xs : List X) (i : ℕ)
    → length xs ≤ i → puts a (flat_map f (take i xs)) b → puts a (flat_map f xs) b
put_all_of {A} {X} {a} {b} puts f xs i above p = put_as puts a b _ _ (ap (flat_map f) (take_all i xs above)) p
