-- Lists of words: the first one, and the others behind a separator.
use Rattle.std.proofs.Common.{◌≡◌, ◌-◌, ◌≤◌, ℕ, List, [], ◌∷◌, ◌++◌, length, map, get_or, take, drop, refl, ap, ◌∙◌, codes, arith, append_assoc}
use Rattle.std.specs.List.{flat_map, join_by}
use Rattle.std.proofs.lemmas.List.{take_all}
use Rattle.std.proofs.lemmas.List.Folds.{flat_map-map}
use Rattle.schema.specs.AnyValue as any
use Rattle.schema.specs.AnyValue.{AnyValue, values_of, pairs_of}
use Rattle.any_value.specs.declared.value.Value.{Value}
use Rattle.any_value.specs.declared.value.KeyValue.{KeyValue}
use Rattle.any_value.specs.Sizes.{list_size, pair_list_size}
use Rattle.any_value.specs.Views.{any_view, pair_view}
use Rattle.shown.specs.Quoted.{quoted}
use Rattle.shown.specs.AnyText.{any_shown, values_shown, more_values_shown, pairs_shown, more_pairs_shown}
use Rattle.line_text.specs.Pairs.{pair_shown}

-- all elements but the first one
abbrev pub others : {X : Type 0} → List X → List X
others xs = take (length xs - 1) (drop 1 xs)

others_of : {X : Type 0} (y : X) (ys : List X) → others (y ∷ ys) ≡ ys
others_of y ys = take_all (length (y ∷ ys) - 1) ys (omega arith)

-- words that are joined are the first and the others
pub first_and_rest : {X : Type 0} (f : X → List ℕ) (sep : List ℕ) (xs : List X) (x d : X) → 1 ≤ length xs → x ≡ get_or xs 0 d
    → f x ++ flat_map (λ y. sep ++ f y) (others xs) ≡ join_by f sep xs
first_and_rest f sep [] x d some is = absurd (omega (arith, some))
first_and_rest f sep (y ∷ ys) x d some is =
    ap (λ z. f z ++ flat_map (λ y. sep ++ f y) (others (y ∷ ys))) is
    ∙ ap (λ l. f y ++ flat_map (λ y. sep ++ f y) l) (others_of y ys)

-- words of a list are joined as those that stand for its elements
pub joined_words : {X : Type 0} (f : X → List ℕ) (sep : List ℕ) (xs : List X) → join_by (λ word. word) sep (map f xs) ≡ join_by f sep xs
joined_words f sep [] = refl
joined_words f sep (x ∷ xs) = ap (λ (l : List ℕ). f x ++ l) (flat_map-map (λ (y : List ℕ). sep ++ y) f xs)

-- ---- elements of an AnyValue

abbrev pub item_shown : Value → List ℕ
item_shown v = any_shown (any_view v)

more_items : (xs : List Value) → flat_map (λ v. codes ", " ++ item_shown v) xs ≡ more_values_shown (values_of (map any_view xs))
more_items [] = refl
more_items (x ∷ xs) = ap (λ (l : List ℕ). (codes ", " ++ item_shown x) ++ l) (more_items xs) ∙ append_assoc (codes ", ") (item_shown x) (more_values_shown (values_of (map any_view xs)))

pub items_shown : (xs : List Value) (vs : List AnyValue) (x d : Value) → map any_view xs ≡ vs → 1 ≤ length xs → x ≡ get_or xs 0 d
    → item_shown x ++ flat_map (λ v. codes ", " ++ item_shown v) (others xs) ≡ values_shown (values_of vs)
items_shown [] vs x d e some is = absurd (omega (arith, some))
items_shown (y ∷ ys) vs x d e some is =
    ap (λ (z : Value). item_shown z ++ flat_map (λ v. codes ", " ++ item_shown v) (others (y ∷ ys))) is
    ∙ ap (λ (l : List Value). item_shown y ++ flat_map (λ v. codes ", " ++ item_shown v) l) (others_of y ys)
    ∙ ap (λ (l : List ℕ). item_shown y ++ l) (more_items ys)
    ∙ ap (λ (l : List AnyValue). values_shown (values_of l)) e

more_keyed : (xs : List KeyValue) → flat_map (λ p. codes ", " ++ pair_shown p) xs ≡ more_pairs_shown (pairs_of (map pair_view xs))
more_keyed [] = refl
more_keyed (x ∷ xs) =
    ap (λ (l : List ℕ). (codes ", " ++ pair_shown x) ++ l) (more_keyed xs)
    ∙ append_assoc (codes ", ") (pair_shown x) rest
    ∙ ap (λ (l : List ℕ). codes ", " ++ l) (append_assoc (quoted x.key) (codes ": " ++ any_shown (any_view x.value)) rest)
  where
    rest : List ℕ
    rest = more_pairs_shown (pairs_of (map pair_view xs))

pub keyed_shown : (xs : List KeyValue) (kvs : List any.KeyValue) (x d : KeyValue) → map pair_view xs ≡ kvs → 1 ≤ length xs → x ≡ get_or xs 0 d
    → pair_shown x ++ flat_map (λ p. codes ", " ++ pair_shown p) (others xs) ≡ pairs_shown (pairs_of kvs)
keyed_shown [] kvs x d e some is = absurd (omega (arith, some))
keyed_shown (y ∷ ys) kvs x d e some is =
    ap (λ (z : KeyValue). pair_shown z ++ flat_map (λ p. codes ", " ++ pair_shown p) (others (y ∷ ys))) is
    ∙ ap (λ (l : List KeyValue). pair_shown y ++ flat_map (λ p. codes ", " ++ pair_shown p) l) (others_of y ys)
    ∙ ap (λ (l : List ℕ). pair_shown y ++ l) (more_keyed ys)
    ∙ append_assoc (quoted y.key) (codes ": " ++ any_shown (any_view y.value)) (more_pairs_shown (pairs_of (map pair_view ys)))
    ∙ ap (λ (l : List any.KeyValue). pairs_shown (pairs_of l)) e

-- ---- sizes

-- the others are not larger than all
pub other_items_fall : (xs : List Value) (vs : List AnyValue) → map any_view xs ≡ vs → list_size (map any_view (others xs)) ≤ list_size vs
other_items_fall [] vs e = omega (arith, ap list_size e)
other_items_fall (y ∷ ys) vs e = omega (arith, ap list_size e, ap (λ (l : List Value). list_size (map any_view l)) (others_of y ys))

pub other_pairs_fall : (xs : List KeyValue) (kvs : List any.KeyValue) → map pair_view xs ≡ kvs → pair_list_size (map pair_view (others xs)) ≤ pair_list_size kvs
other_pairs_fall [] kvs e = omega (arith, ap pair_list_size e)
other_pairs_fall (y ∷ ys) kvs e = omega (arith, ap pair_list_size e, ap (λ (l : List KeyValue). pair_list_size (map pair_view l)) (others_of y ys))
