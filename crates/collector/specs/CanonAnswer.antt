-- The answer of `canon IN OUT`, and what its output keeps.
use Rattle.std.specs.Prelude.{ℕ, List, Result, IsOkAnd}
use Rattle.outside.specs.FileMap.{FileMap}
use Rattle.otlp_msg.specs.Message.{Message, message_of}
use Rattle.split_merge.specs.Canonical.{meaning, canon_of}
use Rattle.collector.specs.declared.output.Output.{Output}
use Rattle.collector.specs.declared.stop.Stop.{Stop}
use Rattle.collector.specs.Messages.{after, accepted, bytes_at, message_at}
use Rattle.collector.specs.Outputs.{built_file}
use Rattle.collector.specs.Rebuilt.{IsRebuilt}

-- the canonical bytes of a message, as one file
abbrev pub canon_file : List ℕ → Message → Result Output Stop
canon_file target message = built_file target (canon_of message)

-- the same from the bytes of the file that holds the message
abbrev pub canon_in : List ℕ → List ℕ → List ℕ → Result Output Stop
canon_in file target bytes = after (accepted file (message_of bytes)) (canon_file target)

-- the same from the file
abbrev pub canon_answer : FileMap → List ℕ → List ℕ → Result Output Stop
canon_answer m file target = after (bytes_at m file) (canon_in file target)

-- the file that is written is accepted, with the meaning of the message that was read
abbrev pub CanonKeeps : FileMap → List ℕ → List ℕ → Output → Type 0
CanonKeeps m file target output = IsOkAnd (message_at m file) (λ message. IsRebuilt (meaning message) target output)
