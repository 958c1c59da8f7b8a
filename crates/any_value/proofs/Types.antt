-- What a program's types say of values.
use Rattle.std.proofs.Common.{◌≡◌, ℕ, ◌+◌, ◌*◌, List, [], ◌∷◌, ◌++◌, length, map, arith, subst, length-append}
use Rattle.schema.specs.AnySpell.{any_text, pairs_text, values_text}
use Rattle.schema.specs.AnyValue as any
use Rattle.schema.specs.AnyValue.{AnyValue, pairs_of, values_of}
use Rattle.schema.specs.Each.{Each}
use Rattle.schema.specs.Shape.{I64}
use Rattle.schema.specs.Texts.{long_field, number_to, varint}
use Rattle.schema.specs.Typed.{ArePairsTyped, AreTyped, IsTypedAny}
use Rattle.schema_laws.proofs.Onto.{long_len, varint_some}
use Rattle.any_value.specs.declared.value.Value.{Value}
use Rattle.any_value.specs.declared.value.KeyValue.{KeyValue}
use Rattle.any_value.specs.Views.{IsPairTyped, any_view, pair_view}

-- a list of values that are typed
pub items_typed : (xs : List Value) (vs : List AnyValue) → map any_view xs ≡ vs → Each (λ x. IsTypedAny (any_view x)) xs → AreTyped (values_of vs)
items_typed xs vs e h = subst (λ (l : List AnyValue). AreTyped (values_of l)) e (all xs h)
  where
    all : (xs : List Value) → Each (λ x. IsTypedAny (any_view x)) xs → AreTyped (values_of (map any_view xs))
    all [] h = tt
    all (x ∷ xs) h = (h.0, all xs h.1)

-- a list of keys and values that are typed
pub pairs_typed : (xs : List KeyValue) (kvs : List any.KeyValue) → map pair_view xs ≡ kvs → Each IsPairTyped xs → ArePairsTyped (pairs_of kvs)
pairs_typed xs kvs e h = subst (λ (l : List any.KeyValue). ArePairsTyped (pairs_of l)) e (all xs h)
  where
    all : (xs : List KeyValue) → Each IsPairTyped xs → ArePairsTyped (pairs_of (map pair_view xs))
    all [] h = tt
    all (x ∷ xs) h = (h.0.0, h.0.1, all xs h.1)

-- a field has a byte at least
long_none : (n : ℕ) (b : List ℕ) → length (long_field n b) ≡ 0 → ⊥
long_none n b e = omega (arith, e, long_len n b, varint_some (n * 8 + 2))

first_none : (n : ℕ) (b : List ℕ) → length (varint n ++ b) ≡ 0 → ⊥
first_none n b e = omega (arith, e, length-append (varint n) b, varint_some n)

-- so a value that is written with no bytes is `Empty`
pub none_typed : (v : AnyValue) → length (any_text v) ≡ 0 → IsTypedAny v
none_typed AnyValue.Empty e = tt
none_typed (AnyValue.Text b) e = absurd (long_none 1 b e)
none_typed (AnyValue.Flag x) e = tt
none_typed (AnyValue.Int z) e = absurd (first_none (3 * 8) (varint (number_to I64 z)) e)
none_typed (AnyValue.Double b) e = absurd (first_none (4 * 8 + 1) b e)
none_typed (AnyValue.Items vs) e = absurd (long_none 5 (values_text vs) e)
none_typed (AnyValue.Pairs kvs) e = absurd (long_none 6 (pairs_text kvs) e)
none_typed (AnyValue.Raw b) e = tt
