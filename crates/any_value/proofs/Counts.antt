-- Lists of other lengths are other lists.
use Rattle.std.proofs.Common.{◌≡◌, suc, Bool, true, false, List, [], ◌∷◌, length, map, refl, sym, ap, ◌∙◌}
use Rattle.std.specs.Prelude.{◌&&◌}
use Rattle.schema.specs.AnyValue.{AnyValue, KeyValue, pairs_of, values_of}
use Rattle.any_value.specs.Equal.{any_eq, pair_eq, pairs_eq, values_eq}

map_len : {X Y : Type 0} (f : X → Y) (xs : List X) → length (map f xs) ≡ length xs
map_len f [] = refl
map_len f (x ∷ xs) = ap suc (map_len f xs)

-- a list that is seen by a view has as many elements
pub view_len : {X Y : Type 0} (f : X → Y) (xs : List X) (ys : List Y) → map f xs ≡ ys → length ys ≡ length xs
view_len f xs ys e = ap length (sym e) ∙ map_len f xs

and_false : (s t : Bool) → false ≡ t → false ≡ (s && t)
and_false true t e = e
and_false false t e = refl

pub other_items : (vs ws : List AnyValue) → (length vs ≡ length ws → ⊥) → false ≡ values_eq (values_of vs) (values_of ws)
other_items [] [] n = absurd (n refl)
other_items [] (w ∷ ws) n = refl
other_items (v ∷ vs) [] n = refl
other_items (v ∷ vs) (w ∷ ws) n = and_false (any_eq v w) (values_eq (values_of vs) (values_of ws)) (other_items vs ws (λ e. n (ap suc e)))

pub other_pairs : (vs ws : List KeyValue) → (length vs ≡ length ws → ⊥) → false ≡ pairs_eq (pairs_of vs) (pairs_of ws)
other_pairs [] [] n = absurd (n refl)
other_pairs [] (w ∷ ws) n = refl
other_pairs (v ∷ vs) [] n = refl
other_pairs (v ∷ vs) (w ∷ ws) n = and_false (pair_eq v w) (pairs_eq (pairs_of vs) (pairs_of ws)) (other_pairs vs ws (λ e. n (ap suc e)))
