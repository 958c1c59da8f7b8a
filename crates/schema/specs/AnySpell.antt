-- The one canonical payload of an AnyValue: that of `Empty` is empty, a member that is set is written even where it holds a
-- default, and each element of an ArrayValue or a KeyValueList is written. In a KeyValue an empty key is left out, and so is a
-- value whose payload is empty.
use Rattle.std.specs.Prelude.{◌≡◌, ℕ, zero, suc, ◌+◌, ◌*◌, ◌^◌, ◌<◌, List, [], ◌++◌, length, true, ◌==◌, if◌then◌else◌, ◌⊎◌}
use Rattle.std.specs.Str.{is_utf8}
use Rattle.schema.specs.Field.{Varint, Eight, Long}
use Rattle.schema.specs.Each.{Each}
use Rattle.schema.specs.Texts.{FitsNumber, varint, number_to, field_text, long_field, bytes_field}
use Rattle.schema.specs.Shape.{I64, Flag}
use Rattle.schema.specs.AnyValue.{AnyValue, Values, NoValues, AddValue, KeyValues, NoPairs, AddPair, KeyValue, list_of, pair_list}

-- a KeyValue, whose value has this payload
abbrev pub pair_text : List ℕ → List ℕ → List ℕ
pair_text key value = bytes_field 1 key ++ bytes_field 2 value

abbrev mutual
  pub any_text : AnyValue → List ℕ
  any_text AnyValue.Empty = []
  any_text (AnyValue.Text b) = field_text 1 (Long b)
  any_text (AnyValue.Flag x) = field_text 2 (Varint (number_to Flag x))
  any_text (AnyValue.Int z) = field_text 3 (Varint (number_to I64 z))
  any_text (AnyValue.Double b) = field_text 4 (Eight b)
  any_text (AnyValue.Items vs) = field_text 5 (Long (values_text vs))
  any_text (AnyValue.Pairs kvs) = field_text 6 (Long (pairs_text kvs))
  any_text (AnyValue.Raw b) = field_text 7 (Long b)

  pub values_text : Values → List ℕ
  values_text NoValues = []
  values_text (AddValue v vs) = long_field 1 (any_text v) ++ values_text vs

  pub pairs_text : KeyValues → List ℕ
  pairs_text NoPairs = []
  pairs_text (AddPair k v kvs) = long_field 1 (pair_text k (any_text v)) ++ pairs_text kvs

-- ---- its length, as a program computes it

-- the length of a field of so many bytes, and of one that is left out where there are none
abbrev pub long_length : ℕ → ℕ → ℕ
long_length n len = length (varint (n * 8 + 2)) + length (varint len) + len

abbrev pub bytes_length : ℕ → ℕ → ℕ
bytes_length n len = if len == 0 then 0 else long_length n len

abbrev pub pair_length : ℕ → ℕ → ℕ
pair_length key value = bytes_length 1 key + bytes_length 2 value

abbrev mutual
  pub any_length : AnyValue → ℕ
  any_length AnyValue.Empty = 0
  any_length (AnyValue.Text b) = long_length 1 (length b)
  any_length (AnyValue.Flag x) = length (varint (2 * 8)) + length (varint (number_to Flag x))
  any_length (AnyValue.Int z) = length (varint (3 * 8)) + length (varint (number_to I64 z))
  any_length (AnyValue.Double b) = length (varint (4 * 8 + 1)) + length b
  any_length (AnyValue.Items vs) = long_length 5 (values_length vs)
  any_length (AnyValue.Pairs kvs) = long_length 6 (pairs_length kvs)
  any_length (AnyValue.Raw b) = long_length 7 (length b)

  pub values_length : Values → ℕ
  values_length NoValues = 0
  values_length (AddValue v vs) = long_length 1 (any_length v) + values_length vs

  pub pairs_length : KeyValues → ℕ
  pairs_length NoPairs = 0
  pairs_length (AddPair k v kvs) = long_length 1 (pair_length (length k) (any_length v)) + pairs_length kvs

-- ---- values that can be written and read again

-- a key and its value, which may be left out where it is `Empty`; `Inner` is asked of a value that is written
abbrev pub PairInRange : (AnyValue → Type 0) → KeyValue → Type 0
PairInRange Inner kv = (is_utf8 kv.0 ≡ true) × ((kv.1 ≡ AnyValue.Empty) ⊎ Inner kv.1)

abbrev pub MemberInRange : (AnyValue → Type 0) → AnyValue → Type 0
MemberInRange Inner AnyValue.Empty = Unit {0}
MemberInRange Inner (AnyValue.Text b) = is_utf8 b ≡ true
MemberInRange Inner (AnyValue.Flag x) = Unit {0}
MemberInRange Inner (AnyValue.Int z) = FitsNumber I64 z
MemberInRange Inner (AnyValue.Double b) = length b ≡ 8
MemberInRange Inner (AnyValue.Items vs) = Each Inner (list_of vs)
MemberInRange Inner (AnyValue.Pairs kvs) = Each (PairInRange Inner) (pair_list kvs)
MemberInRange Inner (AnyValue.Raw b) = Unit {0}

-- texts and keys are UTF-8, integers have 64 bits, a double has eight bytes, and the values are no deeper than so many levels
abbrev pub AnyInRange : ℕ → AnyValue → Type 0
AnyInRange zero v = ⊥
AnyInRange (suc left) v = MemberInRange (AnyInRange left) v

-- and the length of the payload can be written
abbrev pub FitsAny : ℕ → AnyValue → Type 0
FitsAny left v = AnyInRange left v × (length (any_text v) < 2 ^ 64)

-- the same of a value that is left out where it is `Empty`
abbrev pub FitsIfWritten : ℕ → AnyValue → Type 0
FitsIfWritten left v = ((v ≡ AnyValue.Empty) ⊎ AnyInRange left v) × (length (any_text v) < 2 ^ 64)
