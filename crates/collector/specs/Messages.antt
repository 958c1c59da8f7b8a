-- Files by their names, and the messages in them.
use Rattle.std.specs.Prelude.{ℕ, List, [], ◌∷◌, Result, Ok, Err, codes}
use Rattle.outside.specs.FileMap.{FileMap, got_of}
use Rattle.outside.specs.declared.files.Got.{Got}
use Rattle.outside.specs.declared.files.Got.TheVariants.{Whole, Long, Missing}
use Rattle.otlp_msg.specs.declared.refusal.Refusal.{Refusal}
use Rattle.otlp_msg.specs.declared.refusal.Refusal.TheVariants as refusal
use Rattle.otlp_msg.specs.Texts.{refusal_text}
use Rattle.otlp_msg.specs.Message.{Message, message_limit, message_of}
use Rattle.collector.specs.declared.stop.ToolRefusal.TheVariants.{File}
use Rattle.collector.specs.declared.stop.Stop.{Stop}
use Rattle.collector.specs.declared.stop.Stop.TheVariants.{Refused, NoMemory}

-- the value goes on, or the first stop stays
abbrev pub after : {A B : Type 0} → Result A Stop → (A → Result B Stop) → Result B Stop
after (Ok a) next = next a
after (Err stop) next = Err stop

-- what each of these comes to, in order, up to the first stop
abbrev pub each : {A B : Type 0} → (A → Result B Stop) → List A → Result (List B) Stop
each f [] = Ok []
each f (a ∷ more) = after (f a) (λ b. after (each f more) (λ rest. Ok (b ∷ rest)))

-- the stop at the refusal of a named file
abbrev pub stop_of_refusal : List ℕ → Refusal → Stop
stop_of_refusal name refusal.NoMemory = NoMemory
stop_of_refusal name why = Refused (File name (refusal_text why))

-- a message, or the stop at its refusal
abbrev pub accepted : List ℕ → Result Message Refusal → Result Message Stop
accepted name (Ok message) = Ok message
accepted name (Err why) = Err (stop_of_refusal name why)

-- the bytes that a read of a named file found
abbrev pub bytes_in : List ℕ → Got → Result (List ℕ) Stop
bytes_in name (Whole bytes) = Ok bytes
bytes_in name (Long at_least) = Err (stop_of_refusal name (refusal.Size at_least))
bytes_in name Missing = Err (Refused (File name (codes "missing")))

-- the bytes under a name
abbrev pub bytes_at : FileMap → List ℕ → Result (List ℕ) Stop
bytes_at m name = bytes_in name (got_of m name message_limit)

-- the message in the file under a name
abbrev pub message_at : FileMap → List ℕ → Result Message Stop
message_at m name = after (bytes_at m name) (λ bytes. accepted name (message_of bytes))
