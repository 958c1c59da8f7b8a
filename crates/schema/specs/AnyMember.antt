-- The members of an AnyValue: the fields of its payload that fit (opentelemetry-proto, common/v1/common.proto, AnyValue: 1
-- string_value, 2 bool_value, 3 int_value, 4 double_value, 5 array_value, 6 kvlist_value, 7 bytes_value).
use Rattle.std.specs.Prelude.{ℕ, List, [], ◌∷◌, Option, Some, None, ◌==◌, if◌then◌else◌}
use Rattle.schema.specs.Field.{Payload, Varint, Eight, Long, Field}

-- a member, with the payload that it holds
pub data Member : Type 0 where
  TextIn : List ℕ → Member
  FlagIn : ℕ → Member
  IntIn : ℕ → Member
  DoubleIn : List ℕ → Member
  ItemsIn : List ℕ → Member
  PairsIn : List ℕ → Member
  RawIn : List ℕ → Member

-- its field number
abbrev pub number_of : Member → ℕ
number_of (TextIn b) = 1
number_of (FlagIn n) = 2
number_of (IntIn n) = 3
number_of (DoubleIn b) = 4
number_of (ItemsIn b) = 5
number_of (PairsIn b) = 6
number_of (RawIn b) = 7

-- the payload of one that is a message
abbrev pub message_of : Member → List ℕ
message_of (ItemsIn b) = b
message_of (PairsIn b) = b
message_of m = []

-- a member of each wire type, where the payload is of that type
abbrev pub if_varint : (ℕ → Member) → Payload → Option Member
if_varint member (Varint n) = Some (member n)
if_varint member payload = None

abbrev pub if_eight : (List ℕ → Member) → Payload → Option Member
if_eight member (Eight b) = Some (member b)
if_eight member payload = None

abbrev pub if_long : (List ℕ → Member) → Payload → Option Member
if_long member (Long b) = Some (member b)
if_long member payload = None

-- the member that a field is, if it is one
abbrev pub member_in : Field → Option Member
member_in f =
    if f.number == 1 then if_long TextIn f.payload
    else (if f.number == 2 then if_varint FlagIn f.payload
    else (if f.number == 3 then if_varint IntIn f.payload
    else (if f.number == 4 then if_eight DoubleIn f.payload
    else (if f.number == 5 then if_long ItemsIn f.payload
    else (if f.number == 6 then if_long PairsIn f.payload
    else (if f.number == 7 then if_long RawIn f.payload
    else None))))))

-- the members among the fields, in order; all others are dropped
abbrev pub and_member : Option Member → List Member → List Member
and_member (Some m) ms = m ∷ ms
and_member None ms = ms

abbrev pub members : List Field → List Member
members [] = []
members (f ∷ fs) = and_member (member_in f) (members fs)
