-- The first fault of an AnyValue, as a relation over whole lists. A text or a key that is not UTF-8 has a fault, and so has an
-- AnyValue for which no level is left.
use Rattle.std.specs.Prelude.{◌≡◌, ℕ, zero, suc, ◌-◌, List, length, Option, Some, None, ◌⊎◌, false}
use Rattle.std.specs.Str.{is_utf8}
use Rattle.schema.specs.Fault.{NotUtf8, TooDeep, Fault, fault_at}
use Rattle.schema.specs.Field.{Payload, Long, Field}
use Rattle.schema.specs.FirstFault.{FirstFault}
use Rattle.schema.specs.AnyMember.{Member, TextIn, ItemsIn, PairsIn, member_in}

-- the fault of bytes that are to be a text, and are none
abbrev pub TextFault : ℕ → List ℕ → Fault → Type 0
TextFault at b g = (is_utf8 b ≡ false) × (g ≡ fault_at at NotUtf8)

-- the fault of a payload whose bytes lie after their length, as `Inner` says; any other payload is skipped
abbrev pub LongFault : (ℕ → ℕ → List ℕ → Fault → Type 0) → ℕ → ℕ → Payload → Fault → Type 0
LongFault Inner at end (Long b) g = Inner at end b g
LongFault Inner at end payload g = ⊥

-- a field of an ArrayValue or a KeyValueList; `Element` is the fault of an element's payload
abbrev pub ElementFault : (ℕ → ℕ → List ℕ → Fault → Type 0) → ℕ → ℕ → Field → Fault → Type 0
ElementFault Element at end f g = (f.number ≡ 1) × LongFault Element at end f.payload g

-- a field of a KeyValue; `Inner` is the fault of its value
abbrev pub PairFault : (ℕ → ℕ → List ℕ → Fault → Type 0) → ℕ → ℕ → Field → Fault → Type 0
PairFault Inner at end f g =
    ((f.number ≡ 1) × LongFault (λ at end b g. TextFault at b g) at end f.payload g)
    ⊎ ((f.number ≡ 2) × LongFault Inner at end f.payload g)

-- the payload of an element of a KeyValueList
abbrev pub InPair : (ℕ → ℕ → List ℕ → Fault → Type 0) → ℕ → ℕ → List ℕ → Fault → Type 0
InPair Inner at end b g = FirstFault (PairFault Inner) (end - length b) b g

-- a member of an AnyValue; `Inner` is the fault of the values in it
abbrev pub InMember : (ℕ → ℕ → List ℕ → Fault → Type 0) → ℕ → ℕ → Member → Fault → Type 0
InMember Inner at end (TextIn b) g = TextFault at b g
InMember Inner at end (ItemsIn b) g = FirstFault (ElementFault Inner) (end - length b) b g
InMember Inner at end (PairsIn b) g = FirstFault (ElementFault (InPair Inner)) (end - length b) b g
InMember Inner at end m g = ⊥

abbrev pub IfMember : (ℕ → ℕ → List ℕ → Fault → Type 0) → ℕ → ℕ → Option Member → Fault → Type 0
IfMember Inner at end (Some m) g = InMember Inner at end m g
IfMember Inner at end None g = ⊥

-- a field of an AnyValue
abbrev pub MemberFault : (ℕ → ℕ → List ℕ → Fault → Type 0) → ℕ → ℕ → Field → Fault → Type 0
MemberFault Inner at end f g = IfMember Inner at end (member_in f) g

-- The payload b of an AnyValue, with so many levels left. One that is too deep is not parsed.
abbrev pub AnyFault : ℕ → ℕ → ℕ → List ℕ → Fault → Type 0
AnyFault zero at end b g = g ≡ fault_at at TooDeep
AnyFault (suc left) at end b g = FirstFault (MemberFault (AnyFault left)) (end - length b) b g
