-- The shapes of messages as data, and the values of a shape.
use Rattle.std.specs.Prelude.{ℕ, ℤ, pos, ◌%◌, ◌^◌, List, [], Bool, false, not, ◌==◌}
use Rattle.std.specs.Int.{w32, w64, cast_signed}
use Rattle.schema.specs.AnyValue.{AnyValue}

-- how a number is written as a varint
pub data Format : Type 0 where
  U32 : Format
  U64 : Format
  I32 : Format
  I64 : Format
  Flag : Format

-- the tables of the dictionary, in the order of its fields
pub data Table : Type 0 where
  Mappings : Table
  Locations : Table
  Functions : Table
  Links : Table
  Strings : Table
  Attributes : Table
  Stacks : Table

-- What a field is. A message is its rows in order: `One` for a singular and `Many` for a repeated field, each with its
-- number and its shape, up to `End`. An index has the shape of the entries of its table, so a shape is a finite tree,
-- and whatever is said of a shape is said by recursion on it.
pub data Shape : Type 0 where
  Number : Format → Shape
  Fixed : Shape
  Bytes : Shape
  Text : Shape
  -- an AnyValue of this depth
  Any : ℕ → Shape
  Index : Table → Shape → Shape
  End : Shape
  One : ℕ → Shape → Shape → Shape
  Many : ℕ → Shape → Shape → Shape

-- a message, and no number, bytes, text or AnyValue
abbrev pub IsMessage : Shape → Type 0
IsMessage End = Unit {0}
IsMessage (One n k rest) = Unit {0}
IsMessage (Many n k rest) = Unit {0}
IsMessage s = ⊥

abbrev pub NumberValue : Format → Type 0
NumberValue U32 = ℕ
NumberValue U64 = ℕ
NumberValue I32 = ℤ
NumberValue I64 = ℤ
NumberValue Flag = Bool

-- The values of a shape, with their indexes.
abbrev pub Value : Shape → Type 0
Value (Number w) = NumberValue w
Value Fixed = ℕ
Value Bytes = List ℕ
Value Text = List ℕ
Value (Any depth) = AnyValue
Value (Index T entry) = ℤ
Value End = Unit {0}
Value (One n k rest) = Value k × Value rest
Value (Many n k rest) = List (Value k) × Value rest

-- The number that a varint stands for ("Base 128 Varints", "More Integer Types"): 32 bits are the low ones, signed
-- numbers are in two's complement, and what is not 0 is true.
abbrev pub number_from : (w : Format) → ℕ → NumberValue w
number_from U32 n = n % 2 ^ 32
number_from U64 n = n
number_from I32 n = cast_signed w32 (n % 2 ^ 32)
number_from I64 n = cast_signed w64 n
number_from Flag n = not (n == 0)

abbrev pub number_zero : (w : Format) → NumberValue w
number_zero U32 = 0
number_zero U64 = 0
number_zero I32 = pos 0
number_zero I64 = pos 0
number_zero Flag = false

-- the value of no bytes: each field has its default ("Default Field Values")
abbrev pub empty : (s : Shape) → Value s
empty (Number w) = number_zero w
empty Fixed = 0
empty Bytes = []
empty Text = []
empty (Any depth) = AnyValue.Empty
empty (Index T entry) = pos 0
empty End = tt
empty (One n k rest) = (empty k, empty rest)
empty (Many n k rest) = ([], empty rest)
