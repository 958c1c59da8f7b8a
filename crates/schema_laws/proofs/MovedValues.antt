-- Values whose indexes stay, and the elements of a repeated row.
use Rattle.std.proofs.Common.{◌≡◌, ℤ, List, [], ◌∷◌, map, refl, sym, ap, ◌∙◌}
use Rattle.schema.specs.Shape.{Shape, Index, One, Many, Table, Value}
use Rattle.schema.specs.Moved.{moved, moved_each}

-- a function that changes no element
map_nothing : {A : Type 0} (f : A → A) → ((x : A) → f x ≡ x) → (xs : List A) → map f xs ≡ xs
map_nothing f h [] = refl
map_nothing f h (x ∷ xs) = ap (λ y. y ∷ map f xs) (h x) ∙ ap (λ ys. x ∷ ys) (map_nothing f h xs)

-- the elements of a row
pub each_is_map : (to : Table → ℤ → ℤ) (k : Shape) (xs : List (Value k)) → moved_each k (moved to k) xs ≡ map (moved to k) xs
each_is_map to (Index T k) xs = refl
each_is_map to (One n k rest) xs = refl
each_is_map to (Many n k rest) xs = refl
each_is_map to k xs = sym (map_nothing (moved to k) (λ x. refl) xs)

-- a value whose indexes stay is the same
pub moved_same : (s : Shape) (v : Value s) → moved (λ T i. i) s v ≡ v
moved_same (Index T k) v = refl
moved_same (One n k rest) v =
    ap (λ (x : Value k). (x, moved (λ T i. i) rest v.1)) (moved_same k v.0) ∙ ap (λ (y : Value rest). (v.0, y)) (moved_same rest v.1)
moved_same (Many n k rest) v =
    ap (λ (xs : List (Value k)). (xs, moved (λ T i. i) rest v.1)) (each_is_map (λ T i. i) k v.0 ∙ map_nothing (moved (λ T i. i) k) (moved_same k) v.0) ∙ ap (λ (y : Value rest). (v.0, y)) (moved_same rest v.1)
moved_same s v = refl
