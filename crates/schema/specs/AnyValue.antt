-- AnyValue, the one value that holds values of its own kind (opentelemetry-proto, common/v1/common.proto: AnyValue, and the
-- ArrayValue, KeyValueList and KeyValue in it).
use Rattle.std.specs.Prelude.{ℕ, ℤ, Bool, List, [], ◌∷◌}

-- the bytes of a key
abbrev pub Key : Type 0
Key = List ℕ

mutual
  -- At most one member is set; `Empty` is the value where none is. A text and bytes are their bytes, and a double is its eight
  -- bytes as they are stored.
  pub data AnyValue : Type 0 where
    Empty : AnyValue
    Text : List ℕ → AnyValue
    Flag : Bool → AnyValue
    Int : ℤ → AnyValue
    Double : List ℕ → AnyValue
    Items : Values → AnyValue
    Pairs : KeyValues → AnyValue
    Raw : List ℕ → AnyValue

  -- the elements of an ArrayValue
  pub data Values : Type 0 where
    NoValues : Values
    AddValue : AnyValue → Values → Values

  -- the elements of a KeyValueList, each with its key
  pub data KeyValues : Type 0 where
    NoPairs : KeyValues
    AddPair : Key → AnyValue → KeyValues → KeyValues

-- a key and its value
abbrev pub KeyValue : Type 0
KeyValue = Key × AnyValue

-- ---- the same as lists

abbrev pub list_of : Values → List AnyValue
list_of NoValues = []
list_of (AddValue v vs) = v ∷ list_of vs

abbrev pub values_of : List AnyValue → Values
values_of [] = NoValues
values_of (v ∷ vs) = AddValue v (values_of vs)

abbrev pub pair_list : KeyValues → List KeyValue
pair_list NoPairs = []
pair_list (AddPair k v kvs) = (k, v) ∷ pair_list kvs

abbrev pub pairs_of : List KeyValue → KeyValues
pairs_of [] = NoPairs
pairs_of (kv ∷ kvs) = AddPair kv.0 kv.1 (pairs_of kvs)

-- a value of elements, and the elements of a value, which are none where it is another member
abbrev pub items : List AnyValue → AnyValue
items vs = AnyValue.Items (values_of vs)

abbrev pub items_in : AnyValue → List AnyValue
items_in (AnyValue.Items vs) = list_of vs
items_in v = []

abbrev pub pairs : List KeyValue → AnyValue
pairs kvs = AnyValue.Pairs (pairs_of kvs)

abbrev pub pairs_in : AnyValue → List KeyValue
pairs_in (AnyValue.Pairs kvs) = pair_list kvs
pairs_in v = []
