-- The lists in a value, element by element.
use Rattle.std.proofs.Common.{◌≡◌, ℕ, zero, suc, ◌+◌, ◌<◌, ◌≤◌, List, [], ◌∷◌, ◌++◌, length, map, get_or, refl, sym, ap, ◌∙◌, arith}
use Rattle.std.specs.List.{flat_map}
use Rattle.schema.specs.AnySpell.{any_text, pair_text, pairs_text, values_text}
use Rattle.schema.specs.AnyValue as any
use Rattle.schema.specs.AnyValue.{AnyValue, pairs_of, values_of}
use Rattle.schema.specs.Texts.{long_field}
use Rattle.any_value.specs.declared.value.Value.{Value}
use Rattle.any_value.specs.declared.value.KeyValue.{KeyValue}
use Rattle.any_value.specs.Sizes.{any_size, list_size, pair_list_size}
use Rattle.any_value.specs.Views.{any_view, pair_view}

-- ---- spellings

-- an element of a list of values, and of a list of keys and values
abbrev pub item_text : Value → List ℕ
item_text v = long_field 1 (any_text (any_view v))

abbrev pub keyed_text : KeyValue → List ℕ
keyed_text kv = long_field 1 (pair_text kv.key (any_text (any_view kv.value)))

-- the list is its elements, one after the other
pub items_text_is : (xs : List Value) (vs : List AnyValue) → map any_view xs ≡ vs → values_text (values_of vs) ≡ flat_map item_text xs
items_text_is xs vs e = ap (λ (l : List AnyValue). values_text (values_of l)) (sym e) ∙ spelled xs
  where
    spelled : (xs : List Value) → values_text (values_of (map any_view xs)) ≡ flat_map item_text xs
    spelled [] = refl
    spelled (x ∷ xs) = ap (λ (t : List ℕ). item_text x ++ t) (spelled xs)

pub pairs_text_is : (xs : List KeyValue) (kvs : List any.KeyValue) → map pair_view xs ≡ kvs → pairs_text (pairs_of kvs) ≡ flat_map keyed_text xs
pairs_text_is xs kvs e = ap (λ (l : List any.KeyValue). pairs_text (pairs_of l)) (sym e) ∙ spelled xs
  where
    spelled : (xs : List KeyValue) → pairs_text (pairs_of (map pair_view xs)) ≡ flat_map keyed_text xs
    spelled [] = refl
    spelled (x ∷ xs) = ap (λ (t : List ℕ). keyed_text x ++ t) (spelled xs)

-- ---- sizes

-- an element is smaller than its list
pub item_falls : (xs : List Value) (vs : List AnyValue) (i : ℕ) (x : Value) → map any_view xs ≡ vs → i < length xs → x ≡ get_or xs i x → any_size (any_view x) + 2 ≤ list_size vs
item_falls xs vs i x e lt is = omega (arith, ap list_size e, falls xs i x lt, ap (λ y. any_size (any_view y)) is)
  where
    falls : (xs : List Value) (i : ℕ) (d : Value) → i < length xs → any_size (any_view (get_or xs i d)) + 2 ≤ list_size (map any_view xs)
    falls [] i d lt = absurd (omega arith)
    falls (x ∷ xs) zero d lt = omega arith
    falls (x ∷ xs) (suc i) d lt = omega (arith, falls xs i d (omega arith))

pub keyed_falls : (xs : List KeyValue) (kvs : List any.KeyValue) (i : ℕ) (x : KeyValue) → map pair_view xs ≡ kvs → i < length xs → x ≡ get_or xs i x → any_size (any_view x.value) + 3 ≤ pair_list_size kvs
keyed_falls xs kvs i x e lt is = omega (arith, ap pair_list_size e, falls xs i x lt, ap (λ (y : KeyValue). any_size (any_view y.value)) is)
  where
    falls : (xs : List KeyValue) (i : ℕ) (d : KeyValue) → i < length xs → any_size (any_view (get_or xs i d).value) + 3 ≤ pair_list_size (map pair_view xs)
    falls [] i d lt = absurd (omega arith)
    falls (x ∷ xs) zero d lt = omega arith
    falls (x ∷ xs) (suc i) d lt = omega (arith, falls xs i d (omega arith))
