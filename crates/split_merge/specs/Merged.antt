-- Several messages as one.
use Rattle.std.specs.Prelude.{◌≡◌, ℕ, ◌<◌, ◌≤◌, List, [], ◌∷◌, ◌++◌, length, take, if◌then◌else◌, nat_lt, Option, Some, None, Result, Ok, Err}
use Rattle.otlp_msg.specs.Message.{Message, message_limit}
use Rattle.draft_contents.specs.Contents.{Contents}
use Rattle.draft_contents.specs.Draft.{StandsFor}
use Rattle.draft_contents.specs.Meanings.{Meaning, joined, size_of}
use Rattle.draft_contents.specs.declared.fault.BuildFault.{BuildFault}
use Rattle.draft_contents.specs.declared.fault.BuildFault.TheVariants.{OutputLimit}
use Rattle.split_merge.specs.Canonical.{canonical_bytes}

-- a meaning with messages joined to it, one after the other
abbrev pub joined_onto : Meaning → List Message → Meaning
joined_onto ms [] = ms
joined_onto ms (m ∷ more) = joined_onto (joined ms m) more

-- what several messages mean as one
abbrev pub joined_meaning : List Message → Meaning
joined_meaning messages = joined_onto [] messages

-- the canonical bytes of a meaning with messages joined to it; or their number with the first message that makes them too many
abbrev pub merged_onto : Meaning → List Message → Result (List ℕ) BuildFault
merged_onto ms [] = Ok (canonical_bytes ms)
merged_onto ms (m ∷ more) =
    if nat_lt message_limit (size_of (joined ms m))
    then Err (OutputLimit (size_of (joined ms m)))
    else merged_onto (joined ms m) more

-- the canonical bytes of several messages as one, or the number of those of their shortest prefix that has too many
abbrev pub merged : List Message → Result (List ℕ) BuildFault
merged messages = merged_onto [] messages

-- The shortest prefix of messages that, joined to a meaning, has too many bytes is of `count` messages, and `size` is their number.
pub record IsFirstExcess (ms : Meaning) (messages : List Message) (size : ℕ) : Type 0 where
  pub count : ℕ
  pub within : count ≤ length messages
  pub told : size ≡ size_of (joined_onto ms (take count messages))
  pub many : message_limit < size
  pub few : (j : ℕ) → j < count → size_of (joined_onto ms (take j messages)) ≤ message_limit

-- ---- the code

-- what is there while messages are joined: a draft, and the number of bytes that were too many, if they were
pub record Merge : Type 0 where
  pub draft : Contents
  pub excess : Option ℕ

abbrev pub merge : Contents → Option ℕ → Merge
merge draft excess = record { draft = draft; excess = excess }

-- The draft stands for the messages as one, from which what they and more come to is told; or that is the number that was too
-- many, whatever else is joined.
abbrev pub IsMergeOf : Contents → Option ℕ → List Message → Type 0
IsMergeOf d None messages = StandsFor d (joined_meaning messages)
    × ((more : List Message) → merged (messages ++ more) ≡ merged_onto (joined_meaning messages) more)
IsMergeOf d (Some size) messages = (more : List Message) → merged (messages ++ more) ≡ Err (OutputLimit size)

-- these messages were joined
abbrev pub IsMerge : Merge → List Message → Type 0
IsMerge g messages = IsMergeOf g.draft g.excess messages

-- with one message more, what was a merge of some is a merge of these and it
abbrev pub MergesOneMore : Merge → Merge → Message → Type 0
MergesOneMore g h m = (messages : List Message) → IsMerge g messages → IsMerge h (messages ++ m ∷ [])
