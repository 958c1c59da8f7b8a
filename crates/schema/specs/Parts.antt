-- A message that comes in parts, as the occurrences of a singular one do (Protocol Buffers, "Encoding", "Last One Wins").
-- Each part spells fields by itself; the value is that of all the fields, and the first fault that of the first part that
-- has one.
use Rattle.std.specs.Prelude.{◌≡◌, ℕ, List, [], ◌∷◌, ◌++◌, Result, Ok}
use Rattle.std.specs.List.{flat_map}
use Rattle.schema.specs.Each.{Each}
use Rattle.schema.specs.Field.{Field}
use Rattle.schema.specs.Fault.{Fault}
use Rattle.schema.specs.FirstFault.{FirstFault, Sound}
use Rattle.schema.specs.Run.{run}
use Rattle.schema.specs.Spelling.{Spells}
use Rattle.schema.specs.Decoding.{◌>>=◌, trace}

-- the bytes of a part, and where they begin
pub record Part : Type 0 where
  pub bytes : List ℕ
  pub base : ℕ

-- goes over the fields of the parts, in order
abbrev pub run_all : {S : Type 0} → (ℕ → ℕ → Field → S → Result S Fault) → S → List Part → Result S Fault
run_all step v [] = Ok v
run_all step v (p ∷ ps) = run step v (trace p.base p.bytes) >>= λ w. run_all step w ps

-- each part spells fields by itself, and these are all of them, in order
abbrev pub SpellsEach : List Part → List Field → Type 0
SpellsEach [] fs = fs ≡ []
SpellsEach (p ∷ ps) fs = (one : List Field) × (rest : List Field) × (fs ≡ one ++ rest) × Spells p.bytes one × SpellsEach ps rest

-- the bytes of the parts, one after the other
abbrev pub joined : List Part → List ℕ
joined parts = flat_map (λ p. p.bytes) parts

-- The parts spell fields none of whose payloads has a fault, and of which this holds.
pub record ReadInParts (Inside : ℕ → ℕ → Field → Fault → Type 0) (Holds : List Field → Type 0) (parts : List Part) : Type 0 where
  pub fields : List Field
  pub spelled : SpellsEach parts fields
  pub sound : Each (Sound Inside) fields
  pub value : Holds fields

-- The parts have no fault up to one of them, which has this first fault.
pub record FaultInParts (Inside : ℕ → ℕ → Field → Fault → Type 0) (parts : List Part) (g : Fault) : Type 0 where
  pub before : List Part
  pub part : Part
  pub after : List Part
  pub is : parts ≡ before ++ part ∷ after
  pub sound : Each (λ p. (h : Fault) → FirstFault Inside p.base p.bytes h → ⊥) before
  pub wrong : FirstFault Inside part.base part.bytes g
