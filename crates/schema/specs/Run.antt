-- Going over the fields of bytes with a step, and texts, which must be UTF-8.
use Rattle.std.specs.Prelude.{ℕ, ◌-◌, List, length, Result, Ok, Err, if◌then◌else◌}
use Rattle.std.specs.Str.{is_utf8}
use Rattle.schema.specs.Field.{Payload, Long, Field}
use Rattle.schema.specs.Fault.{NotUtf8, Fault, fault_at}
use Rattle.schema.specs.Decoding.{◌>>=◌, Trace, Done, Bad, Met, trace}

-- goes over the fields from left to right
unfoldable pub run : {S : Type 0} → (ℕ → ℕ → Field → S → Result S Fault) → S → Trace → Result S Fault
run step s Done = Ok s
run step s (Bad at reason) = Err (fault_at at reason)
run step s (Met at end f rest) = step at end f s >>= λ t. run step t rest

-- The payload b of a message, which ends at this place, over the value so far; `step` takes a field.
abbrev pub message : {S : Type 0} → (ℕ → ℕ → Field → S → Result S Fault) → ℕ → List ℕ → S → Result S Fault
message step end b u = run step u (trace (end - length b) b)

-- bytes that are to be a text, and a payload that is
abbrev pub text_of : ℕ → List ℕ → Result (List ℕ) Fault
text_of at b = if is_utf8 b then Ok b else Err (fault_at at NotUtf8)

abbrev pub one_text : ℕ → Payload → List ℕ → Result (List ℕ) Fault
one_text at (Long b) v = text_of at b
one_text at payload v = Ok v
