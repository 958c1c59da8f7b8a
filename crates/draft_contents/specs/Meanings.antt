-- Meanings of messages that can be written.
use Rattle.std.specs.Prelude.{◌≡◌, ℕ, ◌≤◌, List, ◌++◌, length, Ok}
use Rattle.schema.specs.Each.{Each}
use Rattle.schema.specs.Messages.{resource_profiles}
use Rattle.meaning.specs.Meaning.{IsMeaning}
use Rattle.meaning.specs.Message.{meaning_of, meaning_text}
use Rattle.meaning.specs.Ranges.{HasRange}
use Rattle.meaning.specs.Tree.{Tree}
use Rattle.otlp_msg.specs.Message.{Message, message_limit, message_of}
use Rattle.operations.specs.Seams.{seam, under_last}
use Rattle.draft_contents.specs.declared.incoming.Joining.{Joining}
use Rattle.draft_contents.specs.declared.incoming.Joining.TheVariants.{Resource, Scope, Seam}

-- a meaning: resource records, in which each index is replaced by the value of its entry
abbrev pub Meaning : Type 0
Meaning = List Tree

-- the meaning of a message
abbrev pub meaning : Message → Meaning
meaning m = meaning_of resource_profiles m

-- a meaning to which that of a message is joined, with the seam between them closed
abbrev pub joined : Meaning → Message → Meaning
joined ms m = seam ms (meaning m)

-- A meaning to which that of a message is added: after its records, or with its scope records under the last resource record if
-- the heads are equal, or joined.
abbrev pub placed : Joining → Meaning → Message → Meaning
placed Resource ms m = ms ++ meaning m
placed Scope ms m = under_last ms (meaning m)
placed Seam ms m = joined ms m

-- the number of canonical bytes of a meaning
abbrev pub size_of : Meaning → ℕ
size_of ms = length (meaning_text resource_profiles ms)

-- A meaning can be written where its trees have the form of records, their leaves are in their ranges, and its canonical bytes
-- are no more than a message may have.
pub record CanBeWritten (ms : Meaning) : Type 0 where
  pub means : Each (IsMeaning resource_profiles) ms
  pub ranges : Each (HasRange resource_profiles) ms
  pub small : size_of ms ≤ message_limit

-- the bytes are accepted as a message with this meaning
pub record IsAcceptedAs (bytes : List ℕ) (ms : Meaning) : Type 0 where
  pub message : Message
  pub accepted : message_of bytes ≡ Ok message
  pub same : meaning message ≡ ms
