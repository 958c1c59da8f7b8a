-- The elements of an ArrayValue and of a KeyValueList, as lists.
use Rattle.std.proofs.Common.{◌≡◌, ℕ, ◌+◌, ◌*◌, Bool, true, false, cond, List, [], ◌∷◌, ◌++◌, length, refl, sym, ap, ◌∙◌, arith, length-append}
use Rattle.std.specs.Prelude.{◌==◌}
use Rattle.std.specs.List.{flat_map}
use Rattle.schema.specs.Texts.{bytes_field, long_field, number_to, varint}
use Rattle.schema.specs.Shape.{I64, Flag}
use Rattle.schema.specs.AnyValue.{AnyValue, AddPair, AddValue, KeyValue, KeyValues, NoPairs, NoValues, Values, list_of, pair_list, pairs_of, values_of}
use Rattle.schema.specs.AnySpell.{any_length, any_text, bytes_length, long_length, pair_length, pair_text, pairs_length, pairs_text, values_length, values_text}
use Rattle.schema_laws.proofs.Onto.{long_len, long_some, varint_some}

-- ---- lists and back

-- elements are those of their list
pub values_back : (vs : Values) → values_of (list_of vs) ≡ vs
values_back NoValues = refl
values_back (AddValue v vs) = ap (AddValue v) (values_back vs)

-- and a list is that of its elements
pub list_back : (xs : List AnyValue) → list_of (values_of xs) ≡ xs
list_back [] = refl
list_back (x ∷ xs) = ap (λ (l : List AnyValue). x ∷ l) (list_back xs)

-- so are keys and values
pub pairs_back : (kvs : KeyValues) → pairs_of (pair_list kvs) ≡ kvs
pairs_back NoPairs = refl
pairs_back (AddPair k v kvs) = ap (AddPair k v) (pairs_back kvs)

-- and their lists
pub pair_list_back : (xs : List KeyValue) → pair_list (pairs_of xs) ≡ xs
pair_list_back [] = refl
pair_list_back (x ∷ xs) = ap (λ (l : List KeyValue). x ∷ l) (pair_list_back xs)

-- ---- spellings

-- a key and its value, as an element is spelled
abbrev pub element_text : KeyValue → List ℕ
element_text kv = pair_text kv.0 (any_text kv.1)

-- each element is after its own tag and length
pub values_spelled : (vs : Values) → values_text vs ≡ flat_map (λ v. long_field 1 (any_text v)) (list_of vs)
values_spelled NoValues = refl
values_spelled (AddValue v vs) = ap (λ (t : List ℕ). long_field 1 (any_text v) ++ t) (values_spelled vs)

-- and so is each key with its value
pub pairs_spelled : (kvs : KeyValues) → pairs_text kvs ≡ flat_map (λ kv. long_field 1 (element_text kv)) (pair_list kvs)
pairs_spelled NoPairs = refl
pairs_spelled (AddPair k v kvs) = ap (λ (t : List ℕ). long_field 1 (pair_text k (any_text v)) ++ t) (pairs_spelled kvs)

-- ---- lengths

-- the length of what may be left out
cond_len : (t : Bool) (n : ℕ) (b : List ℕ) → n ≡ length b → cond t 0 n ≡ length (cond t [] b)
cond_len true n b e = refl
cond_len false n b e = e

-- the length of bytes that are left out where they are empty
bytes_len : (n : ℕ) (b : List ℕ) → bytes_length n (length b) ≡ length (bytes_field n b)
unfolding bytes_field
bytes_len n b = cond_len (length b == 0) (long_length n (length b)) (long_field n b) (sym (long_len n b))

-- the length of a key and its value
pair_len : (k b : List ℕ) → pair_length (length k) (length b) ≡ length (pair_text k b)
pair_len k b = omega (arith, bytes_len 1 k, bytes_len 2 b, length-append (bytes_field 1 k) (bytes_field 2 b))

mutual
  -- the length of a payload
  pub any_len : (v : AnyValue) → any_length v ≡ length (any_text v)
  any_len AnyValue.Empty = refl
  any_len (AnyValue.Text b) = sym (long_len 1 b)
  any_len (AnyValue.Flag x) = sym (length-append (varint (2 * 8)) (varint (number_to Flag x)))
  any_len (AnyValue.Int z) = sym (length-append (varint (3 * 8)) (varint (number_to I64 z)))
  any_len (AnyValue.Double b) = sym (length-append (varint (4 * 8 + 1)) b)
  any_len (AnyValue.Items vs) = ap (long_length 5) (values_len vs) ∙ sym (long_len 5 (values_text vs))
  any_len (AnyValue.Pairs kvs) = ap (long_length 6) (pairs_len kvs) ∙ sym (long_len 6 (pairs_text kvs))
  any_len (AnyValue.Raw b) = sym (long_len 7 b)

  -- of elements
  pub values_len : (vs : Values) → values_length vs ≡ length (values_text vs)
  values_len NoValues = refl
  values_len (AddValue v vs) =
      let e : long_length 1 (any_length v) ≡ length (long_field 1 (any_text v)) = ap (long_length 1) (any_len v) ∙ sym (long_len 1 (any_text v)) in
      omega (arith, values_len vs, length-append (long_field 1 (any_text v)) (values_text vs))

  -- and of keys and values
  pub pairs_len : (kvs : KeyValues) → pairs_length kvs ≡ length (pairs_text kvs)
  pairs_len NoPairs = refl
  pairs_len (AddPair k v kvs) =
      let p : pair_length (length k) (any_length v) ≡ length (pair_text k (any_text v)) = ap (pair_length (length k)) (any_len v) ∙ pair_len k (any_text v) in
      let e : long_length 1 (pair_length (length k) (any_length v)) ≡ length (long_field 1 (pair_text k (any_text v))) = ap (long_length 1) p ∙ sym (long_len 1 (pair_text k (any_text v))) in
      omega (arith, pairs_len kvs, length-append (long_field 1 (pair_text k (any_text v))) (pairs_text kvs))

-- a payload of a member is a byte at least, so only that of `Empty` is empty
pub empty_text : (v : AnyValue) → length (any_text v) ≡ 0 → v ≡ AnyValue.Empty
empty_text AnyValue.Empty e = refl
empty_text (AnyValue.Text b) e = absurd (omega (arith, long_some 1 b))
empty_text (AnyValue.Flag x) e = absurd (omega (arith, length-append (varint (2 * 8)) (varint (number_to Flag x)), varint_some (2 * 8)))
empty_text (AnyValue.Int z) e = absurd (omega (arith, length-append (varint (3 * 8)) (varint (number_to I64 z)), varint_some (3 * 8)))
empty_text (AnyValue.Double b) e = absurd (omega (arith, length-append (varint (4 * 8 + 1)) b, varint_some (4 * 8 + 1)))
empty_text (AnyValue.Items vs) e = absurd (omega (arith, long_some 5 (values_text vs)))
empty_text (AnyValue.Pairs kvs) e = absurd (omega (arith, long_some 6 (pairs_text kvs)))
empty_text (AnyValue.Raw b) e = absurd (omega (arith, long_some 7 b))
