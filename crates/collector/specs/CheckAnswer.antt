-- The answer of `check IN..`, and what its output keeps.
use Rattle.std.specs.Prelude.{◌≡◌, ℕ, List, [], Result, Ok}
use Rattle.std.specs.List.{concat}
use Rattle.outside.specs.FileMap.{FileMap}
use Rattle.otlp_msg.specs.Message.{Message, message_of, profiles_of, samples_of}
use Rattle.collector.specs.declared.output.Output.{Output}
use Rattle.collector.specs.declared.stop.Stop.{Stop}
use Rattle.collector.specs.Lines.{ok_text}
use Rattle.collector.specs.Messages.{after, each, accepted, bytes_at}
use Rattle.collector.specs.Outputs.{lines_alone}

-- the line of a message
abbrev pub message_line : List ℕ → Message → Result (List ℕ) Stop
message_line file message = Ok (ok_text file (profiles_of message) (samples_of message))

-- the line of the bytes of a file
abbrev pub line_in : List ℕ → List ℕ → Result (List ℕ) Stop
line_in file bytes = after (accepted file (message_of bytes)) (message_line file)

-- the line of a file
abbrev pub line_at : FileMap → List ℕ → Result (List ℕ) Stop
line_at m file = after (bytes_at m file) (line_in file)

-- the lines of files one after the other, in the order of their names, or the first stop
abbrev pub lines_at : FileMap → List (List ℕ) → Result (List ℕ) Stop
lines_at m files = after (each (line_at m) files) (λ lines. Ok (concat lines))

-- the lines are printed, and no file is written
abbrev pub check_answer : FileMap → List (List ℕ) → Result Output Stop
check_answer m files = after (lines_at m files) (λ lines. Ok (lines_alone lines))

-- no file is written
abbrev pub CheckKeeps : FileMap → List (List ℕ) → Output → Type 0
CheckKeeps m files output = output.files ≡ []
