-- What the payloads of one row say, as relations over whole lists (Protocol Buffers, "Encoding": "Last One Wins", "Packed
-- Repeated Fields").
use Rattle.std.specs.Prelude.{◌≡◌, ℕ, List, [], ◌∷◌, ◌++◌, map, Option, Some, None, ◌==◌, if◌then◌else◌, ◌⊎◌}
use Rattle.std.specs.Int.{w64, from_le_bytes}
use Rattle.std.specs.List.{flat_map}
use Rattle.schema.specs.Each.{Each}
use Rattle.schema.specs.Field.{Payload, Varint, Eight, Long, Field, bytes_of}
use Rattle.schema.specs.Shape.{Format, NumberValue, number_from}
use Rattle.schema.specs.Spelling.{Spells, SpellsNumbers, SpellsEights}

-- the payloads of the fields with this number, in order, and the other fields
abbrev pub of_number : ℕ → List Field → List Payload
of_number n [] = []
of_number n (f ∷ fs) = if f.number == n then f.payload ∷ of_number n fs else of_number n fs

abbrev pub others : ℕ → List Field → List Field
others n [] = []
others n (f ∷ fs) = if f.number == n then others n fs else f ∷ others n fs

-- ---- a singular row

-- what a payload says, where its wire type fits
abbrev pub number_in : (w : Format) → Payload → Option (NumberValue w)
number_in w (Varint n) = Some (number_from w n)
number_in w payload = None

abbrev pub fixed_in : Payload → Option ℕ
fixed_in (Eight b) = Some (from_le_bytes w64 b)
fixed_in payload = None

abbrev pub bytes_in : Payload → Option (List ℕ)
bytes_in (Long b) = Some b
bytes_in payload = None

-- v is what the last payload says that fits; where none fits, v is u
abbrev pub IsLast : {A : Type 0} → (Payload → Option A) → List Payload → A → A → Type 0
IsLast {A} said payloads u v =
    (Each (λ p. said p ≡ None) payloads × (v ≡ u))
    ⊎ ((before : List Payload) × (last : Payload) × (after : List Payload) × (payloads ≡ before ++ last ∷ after) × (said last ≡ Some v) × Each (λ p. said p ≡ None) after)

-- The occurrences of one message are read as their payloads joined: v is u with the fields that these spell. `Inner` is the
-- value of a field list for the message.
abbrev pub JoinedOf : {A : Type 0} → (A → List Field → A → Type 0) → List Payload → A → A → Type 0
JoinedOf Inner payloads u v = (fs : List Field) × Spells (flat_map bytes_of payloads) fs × Inner u fs v

-- ---- a repeated row

-- the elements of one occurrence; of a packed payload they are those that it spells, in order
abbrev pub NumbersOf : (w : Format) → Payload → List (NumberValue w) → Type 0
NumbersOf w (Varint n) vs = vs ≡ number_from w n ∷ []
NumbersOf w (Long b) vs = (ns : List ℕ) × SpellsNumbers b ns × (vs ≡ map (number_from w) ns)
NumbersOf w payload vs = vs ≡ []

abbrev pub FixedOf : Payload → List ℕ → Type 0
FixedOf (Eight b) vs = vs ≡ from_le_bytes w64 b ∷ []
FixedOf (Long b) vs = (bs : List (List ℕ)) × SpellsEights b bs × (vs ≡ map (from_le_bytes w64) bs)
FixedOf payload vs = vs ≡ []

abbrev pub BytesOf : Payload → List (List ℕ) → Type 0
BytesOf (Long b) vs = vs ≡ b ∷ []
BytesOf payload vs = vs ≡ []

abbrev pub MessagesOf : {A : Type 0} → (List Field → A → Type 0) → Payload → List A → Type 0
MessagesOf {A} Inner (Long b) vs = (fs : List Field) × (v : A) × Spells b fs × Inner fs v × (vs ≡ v ∷ [])
MessagesOf Inner payload vs = vs ≡ []

-- the elements of the occurrences, one list after the other
abbrev pub Concats : {A : Type 0} → (Payload → List A → Type 0) → List Payload → List A → Type 0
Concats Of [] vs = vs ≡ []
Concats {A} Of (p ∷ ps) vs = (one : List A) × (rest : List A) × (vs ≡ one ++ rest) × Of p one × Concats Of ps rest
