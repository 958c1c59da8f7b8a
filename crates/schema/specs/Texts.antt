-- The texts of single fields (Protocol Buffers, "Encoding": "Base 128 Varints", "Message Structure", "Packed Repeated
-- Fields").
use Rattle.std.specs.Prelude.{◌≡◌, ℕ, zero, suc, ◌*◌, ◌+◌, ◌/◌, ◌%◌, ◌^◌, ◌<◌, List, [], ◌∷◌, ◌++◌, length, nat_lt, ◌==◌, if◌then◌else◌}
use Rattle.std.specs.Int.{w64, cast_unsigned, to_le_bytes}
use Rattle.std.specs.List.{flat_map}
use Rattle.schema.specs.Field.{Payload, Varint, Eight, Long, Four}
use Rattle.schema.specs.Shape.{Format, U32, U64, I32, I64, Flag, NumberValue, number_from}

unfoldable pub varint_upto : ℕ → ℕ → List ℕ
varint_upto zero n = n ∷ []
varint_upto (suc k) n = if nat_lt n 128 then n ∷ [] else (n % 128 + 128) ∷ varint_upto k (n / 128)

-- the shortest varint
abbrev pub varint : ℕ → List ℕ
varint n = varint_upto n n

-- the varint that stands for a number: that of a negative one has ten bytes
abbrev pub number_to : (w : Format) → NumberValue w → ℕ
number_to U32 n = n
number_to U64 n = n
number_to I32 z = cast_unsigned w64 z
number_to I64 z = cast_unsigned w64 z
number_to Flag b = if b then 1 else 0

-- a number is one of its format: its varint has 64 bits, and stands for it
abbrev pub FitsNumber : (w : Format) → NumberValue w → Type 0
FitsNumber w x = (number_to w x < 2 ^ 64) × (number_from w (number_to w x) ≡ x)

-- the fields of a singular number, which is not 0, of bytes after their length, and of such bytes that are not empty
unfoldable pub number_field : ℕ → ℕ → List ℕ
number_field n v = if v == 0 then [] else varint (n * 8) ++ varint v

unfoldable pub fixed_field : ℕ → ℕ → List ℕ
fixed_field n v = if v == 0 then [] else varint (n * 8 + 1) ++ to_le_bytes w64 v

unfoldable pub long_field : ℕ → List ℕ → List ℕ
long_field n b = varint (n * 8 + 2) ++ varint (length b) ++ b

unfoldable pub bytes_field : ℕ → List ℕ → List ℕ
bytes_field n b = if length b == 0 then [] else long_field n b

-- packed numbers, packed eight-byte values, and elements each after its own tag and length
abbrev pub numbers_text : (w : Format) → List (NumberValue w) → List ℕ
numbers_text w vs = flat_map (λ v. varint (number_to w v)) vs

abbrev pub fixed_text : List ℕ → List ℕ
fixed_text vs = flat_map (to_le_bytes w64) vs

abbrev pub items_text : ℕ → List (List ℕ) → List ℕ
items_text n texts = flat_map (long_field n) texts

-- one field by itself, also where it holds a default
abbrev pub field_text : ℕ → Payload → List ℕ
field_text n (Varint v) = varint (n * 8) ++ varint v
field_text n (Eight b) = varint (n * 8 + 1) ++ b
field_text n (Long b) = long_field n b
field_text n (Four b) = varint (n * 8 + 5) ++ b
