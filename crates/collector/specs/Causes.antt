-- When a run may stop.
use Rattle.std.specs.Prelude.{◌≡◌, ◌⊎◌, ℕ, List, [], ◌∷◌, ◌++◌, codes, Option, Result, Err, IsOk, IsOkAnd, IfSome}
use Rattle.outside.specs.Causes.{Rose, FailedAt}
use Rattle.outside.specs.FileMap.{FileMap}
use Rattle.outside.specs.declared.files.Files.{Ghosts as OfFiles}
use Rattle.commands.specs.Plan.{inputs, HasTargets}
use Rattle.collector.specs.Messages.{each, message_at}
use Rattle.commands.specs.declared.words.ToolPlan.{ToolPlan}
use Rattle.commands.specs.declared.words.WordRefusal.{WordRefusal}
use Rattle.commands.specs.declared.words.WordRefusal.TheVariants.{Fault}
use Rattle.collector.specs.declared.stop.ToolRefusal.{ToolRefusal}
use Rattle.collector.specs.declared.stop.ToolRefusal.TheVariants.{Words, File, Limit}
use Rattle.collector.specs.declared.stop.Stop.{Stop}
use Rattle.collector.specs.declared.stop.Stop.TheVariants.{Refused, Read, Write, NoMemory}

-- from the first state of the files to the second, the read of this name failed, and the count of failed reads rose
abbrev pub ReadFailedAt : {S : Type 0} → OfFiles S → S → S → List ℕ → Type 0
ReadFailedAt F old new name = FailedAt (F.read_failed new) (F.read_faults old) (F.read_faults new) name

-- the same of a write
abbrev pub WriteFailedAt : {S : Type 0} → OfFiles S → S → S → List ℕ → Type 0
WriteFailedAt F old new name = FailedAt (F.write_failed new) (F.write_faults old) (F.write_faults new) name

-- one of these names
abbrev pub IsOneOf : List (List ℕ) → List ℕ → Type 0
IsOneOf [] name = ⊥
IsOneOf (n ∷ ns) name = (name ≡ n) ⊎ IsOneOf ns name

-- the name of a file that the plan writes
pub record IsTarget (plan : ToolPlan) (name : List ℕ) : Type 0 where
  pub names : List (List ℕ)
  pub are : HasTargets plan names
  pub one : IsOneOf names name

-- the name of a failed write: that of a file that is written, whose write failed; or the standard output, and its count rose
abbrev pub WriteCause : (List ℕ → Type 0) → (List ℕ → Type 0) → ℕ → ℕ → List ℕ → Type 0
WriteCause target failed out out' name = (target name × failed name) ⊎ ((name ≡ codes "standard output") × Rose out out')

-- the name is of one of these files, and those before it hold messages that are accepted, where the files are told
pub record IsNextOf (names : List (List ℕ)) (told : Option FileMap) (name : List ℕ) : Type 0 where
  pub before : List (List ℕ)
  pub later : List (List ℕ)
  pub is : names ≡ before ++ name ∷ later
  pub accepted : IfSome told (λ m. IsOk (each (message_at m) before))

-- a refusal is the one that is wanted; a fault of the outside and out of memory are free here
abbrev pub IsStop : {T : Type 0} → Result T Stop → Stop → Type 0
IsStop want (Refused refusal) = want ≡ Err (Refused refusal)
IsStop want (Read name) = Unit {0}
IsStop want (Write name) = Unit {0}
IsStop want NoMemory = Unit {0}

-- the refusal is not of the command line
abbrev pub IsBeyondWords : ToolRefusal → Type 0
IsBeyondWords (Words place reason) = ⊥
IsBeyondWords (File name text) = Unit {0}
IsBeyondWords (Limit size) = Unit {0}

-- While these files are read in order, a fault comes only where a read failed, and names a file after others that are accepted.
-- The command line is not refused, and no write is named.
abbrev pub ReadCause : List (List ℕ) → Option FileMap → (List ℕ → Type 0) → Stop → Type 0
ReadCause names told failed (Refused refusal) = IsBeyondWords refusal
ReadCause names told failed (Read name) = IsNextOf names told name × failed name
ReadCause names told failed (Write name) = ⊥
ReadCause names told failed NoMemory = Unit {0}

-- the stop is of what was read, or out of memory
abbrev pub IsOfInput : Stop → Type 0
IsOfInput (Refused refusal) = IsBeyondWords refusal
IsOfInput (Read name) = ⊥
IsOfInput (Write name) = ⊥
IsOfInput NoMemory = Unit {0}

-- the stop is no fault of the outside
abbrev pub IsNoFault : Stop → Type 0
IsNoFault (Refused refusal) = Unit {0}
IsNoFault (Read name) = ⊥
IsNoFault (Write name) = ⊥
IsNoFault NoMemory = Unit {0}

-- the stop is a failed write under this name, whose write failed, or out of memory
abbrev pub IsWriteAt : List ℕ → (List ℕ → Type 0) → Stop → Type 0
IsWriteAt name failed (Refused refusal) = ⊥
IsWriteAt name failed (Read name') = ⊥
IsWriteAt name failed (Write name') = (name' ≡ name) × failed name
IsWriteAt name failed NoMemory = Unit {0}

-- the same under one of these names
abbrev pub IsWriteOf : List (List ℕ) → (List ℕ → Type 0) → Stop → Type 0
IsWriteOf names failed (Refused refusal) = ⊥
IsWriteOf names failed (Read name) = ⊥
IsWriteOf names failed (Write name) = IsOneOf names name × failed name
IsWriteOf names failed NoMemory = Unit {0}

-- where the stop is a failed write, its name has a cause
abbrev pub HasWriteCause : List (List ℕ) → (List ℕ → Type 0) → ℕ → ℕ → Stop → Type 0
HasWriteCause names failed out out' (Refused refusal) = Unit {0}
HasWriteCause names failed out out' (Read name) = Unit {0}
HasWriteCause names failed out out' (Write name) = WriteCause (IsOneOf names) failed out out' name
HasWriteCause names failed out out' NoMemory = Unit {0}

-- a refusal of the command line is the one that is wanted; under every other the command line is accepted
abbrev pub WordsRefused : Result ToolPlan WordRefusal → ToolRefusal → Type 0
WordsRefused want (Words place reason) = want ≡ Err (Fault place reason)
WordsRefused want (File name text) = IsOk want
WordsRefused want (Limit size) = IsOk want

-- a stop at the command line is the one that is wanted; under every other but out of memory the command line is accepted
abbrev pub WordsCause : Result ToolPlan WordRefusal → Stop → Type 0
WordsCause want (Refused refusal) = WordsRefused want refusal
WordsCause want (Read name) = IsOk want
WordsCause want (Write name) = IsOk want
WordsCause want NoMemory = Unit {0}

-- a fault comes only where a call failed, and names what failed: `reads` and `writes` say of which file a read or a write
-- failed, and the two counts are of `out`
abbrev pub FaultCause : Result ToolPlan WordRefusal → Option FileMap → (List ℕ → Type 0) → (List ℕ → Type 0) → ℕ → ℕ → Stop → Type 0
FaultCause want told reads writes out out' (Refused refusal) = Unit {0}
FaultCause want told reads writes out out' (Read name) = IsOkAnd want (λ plan. IsNextOf (inputs plan) told name) × reads name
FaultCause want told reads writes out out' (Write name) = IsOkAnd want (λ plan. WriteCause (IsTarget plan) writes out out' name)
FaultCause want told reads writes out out' NoMemory = Unit {0}
