-- What the lists in a value feed a hasher, element by element.
use Rattle.std.proofs.Common.{◌≡◌, List, [], ◌∷◌, ◌++◌, map, refl, ap, ◌∙◌, append_assoc}
use Rattle.std.specs.Hash as fed
use Rattle.std.specs.Hash.{HashWrites}
use Rattle.std.specs.List.{flat_map}
use Rattle.schema.specs.AnyValue as any
use Rattle.schema.specs.AnyValue.{AnyValue, pairs_of, values_of}
use Rattle.any_value.specs.declared.value.Value.{Value}
use Rattle.any_value.specs.declared.value.KeyValue.{KeyValue}
use Rattle.any_value.specs.Hashing.{any_writes, bytes_writes, pairs_writes, values_writes}
use Rattle.any_value.specs.Views.{any_view, pair_view}

abbrev pub item_writes : Value → HashWrites
item_writes v = fed.u8 1 ++ any_writes (any_view v)

abbrev pub keyed_writes : KeyValue → HashWrites
keyed_writes kv = (fed.u8 1 ++ bytes_writes kv.key) ++ any_writes (any_view kv.value)

-- the elements, and a 0 after them
pub items_writes_are : (xs : List Value) (vs : List AnyValue) → map any_view xs ≡ vs → flat_map item_writes xs ++ fed.u8 0 ≡ values_writes (values_of vs)
items_writes_are xs vs e = all xs ∙ ap (λ (l : List AnyValue). values_writes (values_of l)) e
  where
    all : (xs : List Value) → flat_map item_writes xs ++ fed.u8 0 ≡ values_writes (values_of (map any_view xs))
    all [] = refl
    all (x ∷ xs) = append_assoc (item_writes x) (flat_map item_writes xs) (fed.u8 0) ∙ ap (λ (t : HashWrites). item_writes x ++ t) (all xs)

pub pairs_writes_are : (xs : List KeyValue) (kvs : List any.KeyValue) → map pair_view xs ≡ kvs → flat_map keyed_writes xs ++ fed.u8 0 ≡ pairs_writes (pairs_of kvs)
pairs_writes_are xs kvs e = all xs ∙ ap (λ (l : List any.KeyValue). pairs_writes (pairs_of l)) e
  where
    all : (xs : List KeyValue) → flat_map keyed_writes xs ++ fed.u8 0 ≡ pairs_writes (pairs_of (map pair_view xs))
    all [] = refl
    all (x ∷ xs) = append_assoc (keyed_writes x) (flat_map keyed_writes xs) (fed.u8 0) ∙ ap (λ (t : HashWrites). keyed_writes x ++ t) (all xs)
