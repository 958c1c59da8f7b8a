-- The field spelling: which fields a byte list spells (Protocol Buffers, "Encoding": "Base 128 Varints", "Message
-- Structure", "Length-Delimited Records"). Nothing here steps along the bytes; each line speaks of whole lists.
use Rattle.std.specs.Prelude.{◌≡◌, ℕ, suc, ◌+◌, ◌*◌, ◌%◌, ◌^◌, ◌<◌, ◌≤◌, List, [], ◌∷◌, ◌++◌, length}
use Rattle.schema.specs.Each.{Each}
use Rattle.schema.specs.Field.{Payload, Varint, Eight, Long, Four, Field, wire_type, greatest_number}
use Rattle.schema.specs.Decoding.{Trace, Done, Met}

-- the sum of (byte mod 128) * 128 ^ place, from this place on
abbrev pub digits : ℕ → List ℕ → ℕ
digits place [] = 0
digits place (b ∷ bytes) = b % 128 * 128 ^ place + digits (suc place) bytes

-- bytes of a varint that are not its last
abbrev pub GoOn : List ℕ → Type 0
GoOn bytes = Each (λ b. 128 ≤ b) bytes

-- A varint spelling of n: one to ten bytes, of which all but the last are at least 128, and a tenth is 0 or 1. It may be
-- longer than it need be.
pub record SpellsNumber (bytes : List ℕ) (n : ℕ) : Type 0 where
  pub front : List ℕ
  pub last : ℕ
  pub is : bytes ≡ front ++ last ∷ []
  pub high : GoOn front
  pub low : last < 128
  pub most : length front ≤ 9
  pub tenth : length front ≡ 9 → last < 2
  pub sum : n ≡ digits 0 bytes

-- a payload spelling: a varint, any eight bytes, any four bytes, or a varint of n and n bytes
abbrev pub SpellsPayload : List ℕ → Payload → Type 0
SpellsPayload bytes (Varint n) = SpellsNumber bytes n
SpellsPayload bytes (Eight b) = (bytes ≡ b) × (length b ≡ 8)
SpellsPayload bytes (Long b) = (size : List ℕ) × (bytes ≡ size ++ b) × SpellsNumber size (length b)
SpellsPayload bytes (Four b) = (bytes ≡ b) × (length b ≡ 4)

-- a spelling of one field: its tag, and its payload
pub record SpellsField (bytes : List ℕ) (f : Field) : Type 0 where
  pub tag : List ℕ
  pub payload : List ℕ
  pub is : bytes ≡ tag ++ payload
  pub tagged : SpellsNumber tag (f.number * 8 + wire_type f.payload)
  pub carries : SpellsPayload payload f.payload
  pub above : 1 ≤ f.number
  pub below : f.number ≤ greatest_number

-- the bytes spell the fields, one after the other
abbrev pub Spells : List ℕ → List Field → Type 0
Spells bytes [] = bytes ≡ []
Spells bytes (f ∷ fs) = (one : List ℕ) × (others : List ℕ) × (bytes ≡ one ++ others) × SpellsField one f × Spells others fs

-- the bytes are varint spellings of the numbers, one after the other
abbrev pub SpellsNumbers : List ℕ → List ℕ → Type 0
SpellsNumbers bytes [] = bytes ≡ []
SpellsNumbers bytes (n ∷ ns) = (one : List ℕ) × (others : List ℕ) × (bytes ≡ one ++ others) × SpellsNumber one n × SpellsNumbers others ns

-- the bytes are these pieces of eight bytes, one after the other
abbrev pub SpellsEights : List ℕ → List (List ℕ) → Type 0
SpellsEights bytes [] = bytes ≡ []
SpellsEights bytes (b ∷ bs) = (others : List ℕ) × (bytes ≡ b ++ others) × (length b ≡ 8) × SpellsEights others bs

-- ---- fields at their places

-- a field, where its tag begins, and where its payload ends
pub record PlacedField : Type 0 where
  pub at : ℕ
  pub end : ℕ
  pub field : Field

-- the bytes, which begin at base, spell the fields, which lie at these places
abbrev pub SpellsAt : ℕ → List ℕ → List PlacedField → Type 0
SpellsAt base bytes [] = bytes ≡ []
SpellsAt base bytes (p ∷ ps) =
    (one : List ℕ) × (others : List ℕ) × (bytes ≡ one ++ others) × SpellsField one p.field
    × (p.at ≡ base) × (p.end ≡ base + length one) × SpellsAt (base + length one) others ps

abbrev pub fields_of : List PlacedField → List Field
fields_of [] = []
fields_of (p ∷ ps) = p.field ∷ fields_of ps

-- the trace that ends after these fields
abbrev pub trace_of : List PlacedField → Trace
trace_of [] = Done
trace_of (p ∷ ps) = Met p.at p.end p.field (trace_of ps)
