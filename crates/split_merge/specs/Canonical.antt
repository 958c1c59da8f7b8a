-- The canonical bytes of a message, and what is known of them.
use Rattle.std.specs.Prelude.{◌≡◌, ℕ, List, length, if◌then◌else◌, nat_lt, Result, Ok, Err}
use Rattle.schema.specs.Messages.{resource_profiles}
use Rattle.meaning.specs.Message.{meaning_text}
use Rattle.otlp_msg.specs.Message.{Message, message_limit}
pub use Rattle.draft_contents.specs.Meanings.{Meaning, CanBeWritten, IsAcceptedAs, meaning}
use Rattle.draft_contents.specs.declared.fault.BuildFault.{BuildFault}
use Rattle.draft_contents.specs.declared.fault.BuildFault.TheVariants.{OutputLimit, NoMemory}

-- the canonical bytes of a meaning
unfoldable pub canonical_bytes : Meaning → List ℕ
canonical_bytes ms = meaning_text resource_profiles ms

-- bytes, or their number where there are too many
abbrev pub within_limit : List ℕ → Result (List ℕ) BuildFault
within_limit bytes = if nat_lt message_limit (length bytes) then Err (OutputLimit (length bytes)) else Ok bytes

-- the canonical bytes of a message, or their number
abbrev pub canon_of : Message → Result (List ℕ) BuildFault
canon_of m = within_limit (canonical_bytes (meaning m))

-- the fault is the one that is wanted, or out of memory
abbrev pub IsBuildFault : {T : Type 0} → Result T BuildFault → BuildFault → Type 0
IsBuildFault want (OutputLimit size) = want ≡ Err (OutputLimit size)
IsBuildFault want NoMemory = Unit {0}

-- of the meanings that can be written, no other one has these bytes as its canonical ones
abbrev pub IsOnlyOf : List ℕ → Meaning → Type 0
IsOnlyOf bytes ms = (ns : Meaning) → CanBeWritten ns → canonical_bytes ns ≡ bytes → ns ≡ ms
