-- The lengths that lists keep.
use Rattle.std.proofs.Common.{◌≡◌, ℕ, ◌+◌, ◌^◌, ◌<◌, List, [], ◌∷◌, ◌++◌, length, ap, ◌∙◌, arith, length-append}
use Rattle.std.specs.List.{flat_map}
use Rattle.std.proofs.lemmas.Grind.{flat_map-append}
use Rattle.std.proofs.lemmas.List.{append-nil}
use Rattle.schema.specs.AnySpell.{pair_text}
use Rattle.schema_laws.proofs.Lengths.{bytes_field_len}
use Rattle.any_value.specs.ListLengths.{KeepsLength}
use Rattle.any_value.proofs.Appends.{pair_text_len}

-- with an element more, the length is that of the elements so far and of this one
pub keeps_one_more : {X : Type 0} (f : X → List ℕ) (xs ys : List X) (x : X) (text more : List ℕ) (n m sum : ℕ) → text ≡ flat_map f xs → more ≡ flat_map f ys → ys ≡ xs ++ x ∷ []
    → KeepsLength n text → KeepsLength m (f x) → (sum ≡ n + m) × (sum < 2 ^ 60) → KeepsLength sum more
keeps_one_more f xs ys x text more n m sum old new grown kept one sums =
    let all : more ≡ flat_map f xs ++ f x = new ∙ ap (flat_map f) grown ∙ flat_map-append f xs (x ∷ []) ∙ ap (λ (t : List ℕ). flat_map f xs ++ t) (append-nil (f x)) in
    (omega (arith, ap length all, length-append (flat_map f xs) (f x), ap length old, kept.0, one.0, sums.0), sums.1)

-- a short key and a short value are short together
pub pair_short : (k b : List ℕ) → length k < 2 ^ 60 → length b < 2 ^ 60 → length (pair_text k b) < 2 ^ 62
pair_short k b key value = omega (arith, pair_text_len k b, bytes_field_len 1 k (omega arith) (omega (arith, key)), bytes_field_len 2 b (omega arith) (omega (arith, value)))
