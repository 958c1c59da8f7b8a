-- The answer of `show IN`, and what its output keeps.
use Rattle.std.specs.Prelude.{◌≡◌, ℕ, List, [], length, if◌then◌else◌, nat_lt, Result, Ok, Err}
use Rattle.outside.specs.FileMap.{FileMap}
use Rattle.otlp_msg.specs.Message.{Message, message_of}
use Rattle.shown.specs.ShowText.{show_text}
use Rattle.show_text.specs.Showing.{show_limit}
use Rattle.collector.specs.declared.output.Output.{Output}
use Rattle.collector.specs.declared.stop.ToolRefusal.TheVariants.{Limit}
use Rattle.collector.specs.declared.stop.Stop.{Stop}
use Rattle.collector.specs.declared.stop.Stop.TheVariants.{Refused}
use Rattle.collector.specs.Messages.{after, accepted, bytes_at}
use Rattle.collector.specs.Outputs.{lines_alone}

-- a text as the lines, or the stop at its length where it is too long to be shown
abbrev pub text_alone : List ℕ → Result Output Stop
text_alone text = if nat_lt show_limit (length text) then Err (Refused (Limit (length text))) else Ok (lines_alone text)

-- what a message means, as text
abbrev pub message_shown : Message → Result Output Stop
message_shown message = text_alone (show_text message)

-- the same from the bytes of the file that holds the message
abbrev pub shown_in : List ℕ → List ℕ → Result Output Stop
shown_in file bytes = after (accepted file (message_of bytes)) message_shown

-- the same from the file
abbrev pub show_answer : FileMap → List ℕ → Result Output Stop
show_answer m file = after (bytes_at m file) (shown_in file)

-- no file is written
abbrev pub ShowKeeps : FileMap → List ℕ → Output → Type 0
ShowKeeps m file output = output.files ≡ []
