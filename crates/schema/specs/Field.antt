-- A field of a message as it is on the wire (Protocol Buffers, "Encoding", "Message Structure").
use Rattle.std.specs.Prelude.{ℕ, List, []}

-- what a field carries, one form for each wire type: VARINT (0), I64 (1), LEN (2) and I32 (5)
pub data Payload : Type 0 where
  Varint : ℕ → Payload
  Eight : List ℕ → Payload
  Long : List ℕ → Payload
  Four : List ℕ → Payload

-- the wire type of a payload
abbrev pub wire_type : Payload → ℕ
wire_type (Varint n) = 0
wire_type (Eight b) = 1
wire_type (Long b) = 2
wire_type (Four b) = 5

-- the bytes that a length-delimited payload holds
abbrev pub bytes_of : Payload → List ℕ
bytes_of (Long b) = b
bytes_of payload = []

pub record Field : Type 0 where
  pub number : ℕ
  pub payload : Payload

-- the greatest field number
abbrev pub greatest_number : ℕ
greatest_number = 536870911
