-- The first fault of a byte list, where a relation says which payloads have a fault. The bytes are x . y, where x spells
-- fields none of whose payloads has a fault, and y begins with a bad field, or with a field whose payload has a fault at its
-- own offset. Payloads that a later occurrence overrides are parsed, and skipped ones are not.
use Rattle.std.specs.Prelude.{◌≡◌, ℕ, ◌+◌, ◌*◌, ◌<◌, ◌≤◌, List, ◌∷◌, ◌++◌, length, ◌⊎◌}
use Rattle.schema.specs.Each.{Each}
use Rattle.schema.specs.Fault.{Reason, Truncated, VarintLong, FieldNumber, WireType, PackedLength, Fault}
use Rattle.schema.specs.Field.{Field, greatest_number}
use Rattle.schema.specs.Spelling.{GoOn, SpellsNumber, SpellsField, Spells, SpellsNumbers}

-- bytes that begin with no varint
pub data BadNumber (bytes : List ℕ) : Reason → Type 0 where
  too_short : length bytes ≤ 9 → GoOn bytes → BadNumber bytes Truncated
  too_long : (front : List ℕ) (tenth : ℕ) (rest : List ℕ) → bytes ≡ front ++ tenth ∷ rest → length front ≡ 9 → GoOn front → 2 ≤ tenth → BadNumber bytes VarintLong

-- bytes that begin with no payload of this wire type
pub data BadPayload (kind : ℕ) (bytes : List ℕ) : Reason → Type 0 where
  bad_varint : (r : Reason) → kind ≡ 0 → BadNumber bytes r → BadPayload kind bytes r
  few_of_eight : kind ≡ 1 → length bytes < 8 → BadPayload kind bytes Truncated
  bad_size : (r : Reason) → kind ≡ 2 → BadNumber bytes r → BadPayload kind bytes r
  few_of_size : (size rest : List ℕ) (n : ℕ) → kind ≡ 2 → bytes ≡ size ++ rest → SpellsNumber size n → length rest < n → BadPayload kind bytes Truncated
  few_of_four : kind ≡ 5 → length bytes < 4 → BadPayload kind bytes Truncated

-- bytes that begin with a tag
pub record Tagged (bytes : List ℕ) (number kind : ℕ) (rest : List ℕ) : Type 0 where
  pub tag : List ℕ
  pub is : bytes ≡ tag ++ rest
  pub tagged : SpellsNumber tag (number * 8 + kind)
  pub small : kind < 8

-- bytes that begin with a bad field: a bad tag, else a bad number, else a bad wire type, else a bad payload
pub data BadField (bytes : List ℕ) : Reason → Type 0 where
  bad_tag : (r : Reason) → 0 < length bytes → BadNumber bytes r → BadField bytes r
  bad_number : (n kind : ℕ) (rest : List ℕ) → Tagged bytes n kind rest → (n ≡ 0) ⊎ (greatest_number < n) → BadField bytes FieldNumber
  bad_type : (n kind : ℕ) (rest : List ℕ) → Tagged bytes n kind rest → 1 ≤ n → n ≤ greatest_number
      → (kind ≡ 3) ⊎ ((kind ≡ 4) ⊎ ((kind ≡ 6) ⊎ (kind ≡ 7))) → BadField bytes WireType
  bad_payload : (r : Reason) (n kind : ℕ) (rest : List ℕ) → Tagged bytes n kind rest → 1 ≤ n → n ≤ greatest_number → BadPayload kind rest r → BadField bytes r

-- packed varints whose first bad one, after right ones, has this reason
pub record BadPacked (bytes : List ℕ) (r : Reason) : Type 0 where
  pub before : List ℕ
  pub after : List ℕ
  pub numbers : List ℕ
  pub is : bytes ≡ before ++ after
  pub right : SpellsNumbers before numbers
  pub more : 0 < length after
  pub wrong : (BadNumber after Truncated × (r ≡ PackedLength)) ⊎ (BadNumber after VarintLong × (r ≡ VarintLong))

-- Bytes at this place begin with a bad field, or with a field whose payload has the fault. `Inside at end f g` says that
-- the payload of the field f, which lies from at to end, has the fault g.
abbrev pub WrongAt : (ℕ → ℕ → Field → Fault → Type 0) → ℕ → List ℕ → Fault → Type 0
WrongAt Inside place bytes g =
    (BadField bytes g.reason × (g.place ≡ place))
    ⊎ ((one : List ℕ) × (rest : List ℕ) × (f : Field) × (bytes ≡ one ++ rest) × SpellsField one f × Inside place (place + length one) f g)

-- the payload of the field has no fault, wherever it lies
abbrev pub Sound : (ℕ → ℕ → Field → Fault → Type 0) → Field → Type 0
Sound Inside f = (at end : ℕ) (h : Fault) → Inside at end f h → ⊥

-- the first fault of bytes that begin at base
pub record FirstFault (Inside : ℕ → ℕ → Field → Fault → Type 0) (base : ℕ) (bytes : List ℕ) (g : Fault) : Type 0 where
  pub before : List ℕ
  pub after : List ℕ
  pub fields : List Field
  pub is : bytes ≡ before ++ after
  pub spelled : Spells before fields
  pub sound : Each (Sound Inside) fields
  pub wrong : WrongAt Inside (base + length before) after g
