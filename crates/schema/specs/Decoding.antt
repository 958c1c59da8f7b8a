-- The field at the front of bytes, as a program finds it: from left to right. That these functions read exactly what
-- the relations of `Spelling` and `FirstFault` say is a law.
use Rattle.std.specs.Prelude.{ℕ, zero, suc, ◌+◌, ◌-◌, ◌*◌, ◌/◌, ◌%◌, List, [], ◌∷◌, length, take, drop, Result, Ok, Err, nat_lt, ◌==◌, ◌||◌, if◌then◌else◌}
use Rattle.schema.specs.Field.{Payload, Varint, Eight, Long, Four, Field, greatest_number}
use Rattle.schema.specs.Fault.{Reason, Truncated, VarintLong, FieldNumber, WireType}

infixl 10 ◌>>=◌
-- what comes next, unless this failed
abbrev pub ◌>>=◌ : {A B E : Type 0} → Result A E → (A → Result B E) → Result B E
(Ok x) >>= next = next x
(Err e) >>= next = Err e

-- the varint at the front, of which at most this many bytes are followed by another, and what follows it
unfoldable pub varint_at : ℕ → List ℕ → Result (ℕ × List ℕ) Reason
varint_at more [] = Err Truncated
varint_at zero (b ∷ bytes) = if nat_lt b 2 then Ok (b, bytes) else Err VarintLong
varint_at (suc more) (b ∷ bytes) = if nat_lt b 128 then Ok (b, bytes) else (varint_at more bytes >>= λ high. Ok (b % 128 + 128 * high.0, high.1))

-- so many bytes at the front
abbrev pub bytes_at : ℕ → List ℕ → Result (List ℕ × List ℕ) Reason
bytes_at n bytes = if nat_lt (length bytes) n then Err Truncated else Ok (take n bytes, drop n bytes)

-- the payload of this wire type at the front
unfoldable pub payload_at : ℕ → List ℕ → Result (Payload × List ℕ) Reason
payload_at kind bytes =
    if kind == 0 then (varint_at 9 bytes >>= λ n. Ok (Varint n.0, n.1))
    else (if kind == 1 then (bytes_at 8 bytes >>= λ b. Ok (Eight b.0, b.1))
    else (if kind == 2 then (varint_at 9 bytes >>= λ n. bytes_at n.0 n.1 >>= λ b. Ok (Long b.0, b.1))
    else (if kind == 5 then (bytes_at 4 bytes >>= λ b. Ok (Four b.0, b.1))
    else Err WireType)))

-- the field at the front: its tag, its number, its payload
unfoldable pub field_at : List ℕ → Result (Field × List ℕ) Reason
field_at bytes = varint_at 9 bytes >>= λ tag.
    if (tag.0 / 8 == 0) || nat_lt greatest_number (tag.0 / 8) then Err FieldNumber
    else (payload_at (tag.0 % 8) tag.1 >>= λ p. Ok (record { number = tag.0 / 8; payload = p.0 }, p.1))

-- the fields of a text in order, up to its end or the first bad one
pub data Trace : Type 0 where
  Done : Trace
  Bad : ℕ → Reason → Trace
  -- where the tag begins, and where the payload ends
  Met : ℕ → ℕ → Field → Trace → Trace

abbrev pub met : ℕ → ℕ → Result (Field × List ℕ) Reason → (ℕ → List ℕ → Trace) → Trace
met at len (Err reason) next = Bad at reason
met at len (Ok f) next = Met at (at + (len - length f.1)) f.0 (next (at + (len - length f.1)) f.1)

unfoldable pub trace_upto : ℕ → ℕ → List ℕ → Trace
trace_upto zero at bytes = Done
trace_upto (suc k) at [] = Done
trace_upto (suc k) at (b ∷ bytes) = met at (length (b ∷ bytes)) (field_at (b ∷ bytes)) (trace_upto k)

-- the fields of bytes that begin at this place; each field has a byte at least
abbrev pub trace : ℕ → List ℕ → Trace
trace at bytes = trace_upto (length bytes) at bytes
