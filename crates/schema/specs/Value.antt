-- The message value: what a list of fields is for a shape, row by row, as a relation (Protocol Buffers, "Encoding": "Last
-- One Wins", "Packed Repeated Fields"; proto3).
use Rattle.std.specs.Prelude.{◌≡◌, ℕ, List, ◌++◌}
use Rattle.schema.specs.Each.{Each}
use Rattle.schema.specs.Field.{Payload, Field}
use Rattle.schema.specs.FirstFault.{Sound}
use Rattle.schema.specs.MessageFault.{FieldFault}
use Rattle.schema.specs.Parts.{Part, ReadInParts}
use Rattle.schema.specs.RowValue.{of_number, others, number_in, fixed_in, bytes_in, IsLast, JoinedOf, NumbersOf, FixedOf, BytesOf, MessagesOf, Concats}
use Rattle.schema.specs.Shape.{Shape, Number, Fixed, Bytes, Text, Any, Index, One, Many, I32, Value, empty}
use Rattle.schema.specs.Spelling.{Spells}
use Rattle.schema.specs.AnyMerge.{any_levels}
use Rattle.schema.specs.AnyRead.{HasAny}
use Rattle.schema.specs.AnyValue.{AnyValue}

-- A scalar, text or bytes is the last that fits. A message is the value of the fields of its joined payloads, and so is an
-- AnyValue; `Inner` is the value of a field list for a message.
abbrev pub OneValue : (s : Shape) → (Value s → List Field → Value s → Type 0) → List Payload → Value s → Value s → Type 0
OneValue (Number w) Inner payloads u v = IsLast (number_in w) payloads u v
OneValue (Index T entry) Inner payloads u v = IsLast (number_in I32) payloads u v
OneValue Fixed Inner payloads u v = IsLast fixed_in payloads u v
OneValue Bytes Inner payloads u v = IsLast bytes_in payloads u v
OneValue Text Inner payloads u v = IsLast bytes_in payloads u v
OneValue (Any depth) Inner payloads u v = JoinedOf (HasAny (any_levels depth)) payloads u v
OneValue s Inner payloads u v = JoinedOf Inner payloads u v

-- the elements that a repeated row gains
abbrev pub ManyValue : (s : Shape) → (Value s → List Field → Value s → Type 0) → List Payload → List (Value s) → Type 0
ManyValue (Number w) Inner payloads vs = Concats (NumbersOf w) payloads vs
ManyValue (Index T entry) Inner payloads vs = Concats (NumbersOf I32) payloads vs
ManyValue Fixed Inner payloads vs = Concats FixedOf payloads vs
ManyValue Bytes Inner payloads vs = Concats BytesOf payloads vs
ManyValue Text Inner payloads vs = Concats BytesOf payloads vs
ManyValue (Any depth) Inner payloads vs = Concats (MessagesOf (HasAny (any_levels depth) AnyValue.Empty)) payloads vs
ManyValue s Inner payloads vs = Concats (MessagesOf (Inner (empty s))) payloads vs

-- ---- a message

-- v is u with the fields, row by row: a repeated row gains elements at its end
abbrev pub HasValue : (s : Shape) → Value s → List Field → Value s → Type 0
HasValue (One n k rest) u fs v = OneValue k (HasValue k) (of_number n fs) u.0 v.0 × HasValue rest u.1 (others n fs) v.1
HasValue (Many n k rest) u fs v =
    (new : List (Value k)) × ManyValue k (HasValue k) (of_number n fs) new × (v.0 ≡ u.0 ++ new) × HasValue rest u.1 (others n fs) v.1
HasValue s u fs v = v ≡ u

-- the bytes spell fields none of whose payloads has a fault, and v is u with them
pub record IsRead (s : Shape) (u : Value s) (bytes : List ℕ) (v : Value s) : Type 0 where
  pub fields : List Field
  pub spelled : Spells bytes fields
  pub sound : Each (Sound (FieldFault s)) fields
  pub value : HasValue s u fields v

-- v is u with the fields of the parts of a singular message
abbrev pub IsReadInParts : (s : Shape) → Value s → List Part → Value s → Type 0
IsReadInParts s u parts v = ReadInParts (FieldFault s) (λ fs. HasValue s u fs v) parts
