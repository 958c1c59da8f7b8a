-- What a draft stands for.
use Rattle.std.specs.Prelude.{◌≡◌, ℕ, ◌<◌, ◌≤◌, List}
use Rattle.schema.specs.Messages.{resource_profiles}
use Rattle.meaning.specs.Message.{meaning_text}
use Rattle.otlp_msg.specs.Message.{Message, message_limit}
use Rattle.draft_contents.specs.Contents.{Contents, IsDraft}
use Rattle.draft_contents.specs.Meanings.{Meaning, CanBeWritten, IsAcceptedAs, placed, size_of}
use Rattle.draft_contents.specs.declared.fault.BuildFault.{BuildFault}
use Rattle.draft_contents.specs.declared.fault.BuildFault.TheVariants.{OutputLimit, NoMemory}
use Rattle.draft_contents.specs.declared.incoming.Joining.{Joining}
use Rattle.draft_contents.specs.declared.incoming.Joining.TheVariants.{Seam}

-- a draft stands for a meaning that can be written
pub record StandsFor (d : Contents) (ms : Meaning) : Type 0 where
  pub draft : IsDraft d ms
  pub written : CanBeWritten ms

-- it stands for some meaning
abbrev pub StandsForSome : Contents → Type 0
StandsForSome d = (ms : Meaning) × StandsFor d ms

-- what c stands for, d stands for with a message added so, or joined
abbrev pub StandsForPlaced : Joining → Contents → Contents → Message → Type 0
StandsForPlaced how c d m = (ms : Meaning) → StandsFor c ms → StandsFor d (placed how ms m)

abbrev pub StandsForJoined : Contents → Contents → Message → Type 0
StandsForJoined c d m = StandsForPlaced Seam c d m

-- what c stands for, d stands for with a message added so, in at most so many bytes
abbrev pub StandsWithin : ℕ → Joining → Contents → Contents → Message → Type 0
StandsWithin limit how c d m = (ms : Meaning) → StandsFor c ms → StandsFor d (placed how ms m) × (size_of (placed how ms m) ≤ limit)

-- The fault of a meaning under a limit: its canonical bytes are more, and their number is told; or it was out of memory.
abbrev pub IsFaultOf : ℕ → Meaning → BuildFault → Type 0
IsFaultOf limit ms (OutputLimit size) = (size ≡ size_of ms) × (limit < size)
IsFaultOf limit ms NoMemory = Unit {0}

-- the fault of what a draft stands for with a message added so; or joined, under the limit of a message
abbrev pub IsFaultOfPlaced : ℕ → Joining → Contents → Message → BuildFault → Type 0
IsFaultOfPlaced limit how d m fault = (ms : Meaning) → StandsFor d ms → IsFaultOf limit (placed how ms m) fault

abbrev pub IsFaultOfJoined : Contents → Message → BuildFault → Type 0
IsFaultOfJoined d m fault = IsFaultOfPlaced message_limit Seam d m fault

-- these are the canonical bytes of what a draft stands for
abbrev pub AreBytesOf : Contents → List ℕ → Type 0
AreBytesOf d bytes = (ms : Meaning) → StandsFor d ms → bytes ≡ meaning_text resource_profiles ms

-- they are accepted as a message with the meaning that a draft stands for
abbrev pub AreAcceptedFor : Contents → List ℕ → Type 0
AreAcceptedFor d bytes = (ms : Meaning) → StandsFor d ms → IsAcceptedAs bytes ms
