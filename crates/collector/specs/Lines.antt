-- The statuses, and the lines that are printed.
use Rattle.std.specs.Prelude.{ℕ, List, [], ◌∷◌, ◌++◌, codes, Result, Ok, Err, nat_eq, IsTrue}
use Rattle.std.specs.List.{list_any}
use Rattle.std.specs.Fmt.{decimal}
use Rattle.commands.specs.declared.words.ToolPlan.{ToolPlan}
use Rattle.commands.specs.declared.words.WordReason.{WordReason}
use Rattle.commands.specs.declared.words.WordReason.TheVariants.{NoCommand, UnknownCommand, MissingWord, ExtraWord, BadNumber}
use Rattle.commands.specs.declared.words.WordRefusal.{WordRefusal}
use Rattle.commands.specs.declared.words.WordRefusal.TheVariants as word
use Rattle.collector.specs.declared.stop.ToolRefusal.{ToolRefusal}
use Rattle.collector.specs.declared.stop.ToolRefusal.TheVariants.{Words, File, Limit}
use Rattle.collector.specs.declared.stop.Stop.{Stop}
use Rattle.collector.specs.declared.stop.Stop.TheVariants.{Refused, Read, Write, NoMemory}

-- a line feed
abbrev pub end_of_line : List ℕ
end_of_line = 10 ∷ []

-- the name of a reason: its variant's
abbrev pub reason_name : WordReason → List ℕ
reason_name NoCommand = codes "NoCommand"
reason_name UnknownCommand = codes "UnknownCommand"
reason_name MissingWord = codes "MissingWord"
reason_name ExtraWord = codes "ExtraWord"
reason_name BadNumber = codes "BadNumber"

-- a file was written
abbrev pub wrote_text : List ℕ → ℕ → List ℕ
wrote_text target size = codes "wrote " ++ (target ++ (codes ", " ++ (decimal size ++ (codes " bytes" ++ end_of_line))))

-- a file is a message, with so many profiles and samples
abbrev pub ok_text : List ℕ → ℕ → ℕ → List ℕ
ok_text name profiles samples = name ++ (codes ": ok, " ++ (decimal profiles ++ (codes " profiles, " ++ (decimal samples ++ (codes " samples" ++ end_of_line)))))

-- the word at this place is refused
abbrev pub words_text : ℕ → WordReason → List ℕ
words_text place reason = codes "otelprof: word " ++ (decimal place ++ (codes ": " ++ (reason_name reason ++ end_of_line)))

-- a file is missing or refused
abbrev pub file_text : List ℕ → List ℕ → List ℕ
file_text name text = name ++ (codes ": " ++ (text ++ end_of_line))

-- the output would have too many bytes
abbrev pub limit_text : ℕ → List ℕ
limit_text size = codes "output limit: " ++ (decimal size ++ (codes " bytes" ++ end_of_line))

-- the read of a file failed
abbrev pub read_text : List ℕ → List ℕ
read_text name = codes "read failed: " ++ (name ++ end_of_line)

-- the write of a file, or of the standard output, failed
abbrev pub write_text : List ℕ → List ℕ
write_text name = codes "write failed: " ++ (name ++ end_of_line)

-- out of memory
abbrev pub no_memory_text : List ℕ
no_memory_text = codes "no memory" ++ end_of_line

-- the stop where the command line is refused
abbrev pub stop_of_words : WordRefusal → Stop
stop_of_words (word.Fault place reason) = Refused (Words place reason)
stop_of_words word.NoMemory = NoMemory

-- the status of a refusal
abbrev pub refusal_status : ToolRefusal → ℕ
refusal_status (Words place reason) = 1
refusal_status (File name text) = 2
refusal_status (Limit size) = 5

-- the status of a stop
abbrev pub status_of : Stop → ℕ
status_of (Refused refusal) = refusal_status refusal
status_of (Read name) = 6
status_of NoMemory = 7
status_of (Write name) = 8

-- the line of a refusal
abbrev pub refusal_line : ToolRefusal → List ℕ
refusal_line (Words place reason) = words_text place reason
refusal_line (File name text) = file_text name text
refusal_line (Limit size) = limit_text size

-- the line of a stop
abbrev pub line_of : Stop → List ℕ
line_of (Refused refusal) = refusal_line refusal
line_of (Read name) = read_text name
line_of (Write name) = write_text name
line_of NoMemory = no_memory_text

-- the line of a refused command line
abbrev pub words_line : Result ToolPlan WordRefusal → List ℕ
words_line (Ok plan) = []
words_line (Err refusal) = line_of (stop_of_words refusal)

-- the statuses that a run may answer
abbrev pub IsStatus : ℕ → Type 0
IsStatus status = IsTrue (list_any (λ known. nat_eq status known) (0 ∷ 1 ∷ 2 ∷ 5 ∷ 6 ∷ 7 ∷ 8 ∷ []))
