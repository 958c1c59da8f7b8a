-- The answer of `merge OUT IN..`, and what its output keeps.
use Rattle.std.specs.Prelude.{ℕ, List, ◌++◌, Result, IsOkAnd}
use Rattle.outside.specs.FileMap.{FileMap}
use Rattle.otlp_msg.specs.Message.{Message}
use Rattle.split_merge.specs.Merged.{joined_meaning, merged}
use Rattle.collector.specs.declared.output.Output.{Output}
use Rattle.collector.specs.declared.stop.Stop.{Stop}
use Rattle.collector.specs.Messages.{after, each, message_at}
use Rattle.collector.specs.Outputs.{built_file}
use Rattle.collector.specs.Rebuilt.{IsRebuilt}

-- the canonical bytes of messages as one, as one file
abbrev pub merged_file : List ℕ → List Message → Result Output Stop
merged_file target messages = built_file target (merged messages)

-- the same of the messages in files, all of which are read first
abbrev pub merge_answer : FileMap → List ℕ → List (List ℕ) → Result Output Stop
merge_answer m target files = after (each (message_at m) files) (merged_file target)

-- the file that is written is accepted, with the meaning of the joined messages that were read
abbrev pub MergeKeeps : FileMap → List ℕ → List (List ℕ) → Output → Type 0
MergeKeeps m target files output = IsOkAnd (each (message_at m) files) (λ messages. IsRebuilt (joined_meaning messages) target output)

-- whatever messages were held before, these come after them
abbrev pub Gains : (List Message → Type 0) → (List Message → Type 0) → List Message → Type 0
Gains held held' added = (messages : List Message) → held messages → held' (messages ++ added)
