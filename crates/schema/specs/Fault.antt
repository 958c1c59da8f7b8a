-- What is wrong with bytes that are read as a message, and where.
use Rattle.std.specs.Prelude.{ℕ}

pub data Reason : Type 0 where
  -- the tag, a varint, the eight or four bytes, or the bytes of a length end past the enclosing payload
  Truncated : Reason
  -- the tenth byte of a varint is above 1
  VarintLong : Reason
  -- the number is 0 or above the greatest
  FieldNumber : Reason
  -- the wire type is 3, 4, 6 or 7
  WireType : Reason
  -- the bytes of a text are not UTF-8
  NotUtf8 : Reason
  -- a packed list of eight-byte values has a length that is no multiple of 8, or a packed varint ends past its payload
  PackedLength : Reason
  -- an AnyValue is nested too deep
  TooDeep : Reason

-- the place is that of the first byte of the field's tag
pub record Fault : Type 0 where
  pub place : ℕ
  pub reason : Reason

abbrev pub fault_at : ℕ → Reason → Fault
fault_at place reason = record { place = place; reason = reason }
