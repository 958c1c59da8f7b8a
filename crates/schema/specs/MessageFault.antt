-- The first fault of a byte list for a shape: which payloads of which rows have a fault.
use Rattle.std.specs.Prelude.{◌≡◌, ℕ, ◌-◌, ◌%◌, List, length, ◌⊎◌, false}
use Rattle.std.specs.Str.{is_utf8}
use Rattle.schema.specs.Fault.{NotUtf8, PackedLength, Fault, fault_at}
use Rattle.schema.specs.Field.{Payload, Long, Field}
use Rattle.schema.specs.FirstFault.{BadPacked, FirstFault}
use Rattle.schema.specs.Parts.{Part, FaultInParts}
use Rattle.schema.specs.Shape.{Shape, Number, Fixed, Text, Any, Index, End, One, Many}
use Rattle.schema.specs.AnyMerge.{any_levels}
use Rattle.schema.specs.AnyFaults.{AnyFault, LongFault}

-- The fault of a payload of a singular row: a text that is not UTF-8, or a fault inside a message or an AnyValue, whose
-- bytes end where the payload does.
abbrev pub OneFault : (s : Shape) → (ℕ → ℕ → Field → Fault → Type 0) → ℕ → ℕ → Payload → Fault → Type 0
OneFault Text Inside at end (Long b) g = (is_utf8 b ≡ false) × (g ≡ fault_at at NotUtf8)
OneFault (Any depth) Inside at end payload g = LongFault (AnyFault (any_levels depth)) at end payload g
OneFault End Inside at end (Long b) g = FirstFault Inside (end - length b) b g
OneFault (One n k rest) Inside at end (Long b) g = FirstFault Inside (end - length b) b g
OneFault (Many n k rest) Inside at end (Long b) g = FirstFault Inside (end - length b) b g
OneFault s Inside at end payload g = ⊥

-- and of a repeated row, whose numbers may be packed
abbrev pub ManyFault : (s : Shape) → (ℕ → ℕ → Field → Fault → Type 0) → ℕ → ℕ → Payload → Fault → Type 0
ManyFault (Number w) Inside at end (Long b) g = BadPacked b g.reason × (g.place ≡ at)
ManyFault (Index T entry) Inside at end (Long b) g = BadPacked b g.reason × (g.place ≡ at)
ManyFault Fixed Inside at end (Long b) g = ((length b % 8 ≡ 0) → ⊥) × (g ≡ fault_at at PackedLength)
ManyFault s Inside at end payload g = OneFault s Inside at end payload g

-- the fault of the payload of a field, where its number is that of a row
abbrev pub FieldFault : Shape → ℕ → ℕ → Field → Fault → Type 0
FieldFault (One n k rest) at end f g = ((f.number ≡ n) × OneFault k (FieldFault k) at end f.payload g) ⊎ (((f.number ≡ n) → ⊥) × FieldFault rest at end f g)
FieldFault (Many n k rest) at end f g = ((f.number ≡ n) × ManyFault k (FieldFault k) at end f.payload g) ⊎ (((f.number ≡ n) → ⊥) × FieldFault rest at end f g)
FieldFault s at end f g = ⊥

-- the bytes, which begin at base, have this first fault for a message of this shape
abbrev pub HasFault : Shape → ℕ → List ℕ → Fault → Type 0
HasFault s base bytes g = FirstFault (FieldFault s) base bytes g

-- the parts of a singular message have no fault up to one of them, which has this first fault
abbrev pub HasFaultInParts : Shape → List Part → Fault → Type 0
HasFaultInParts s parts g = FaultInParts (FieldFault s) parts g
