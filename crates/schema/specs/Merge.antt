-- Reading: one fold over the fields of bytes, which goes on from a value so far. Its Ok is the message value and its Err
-- the first fault; both are laws, against the relations of `Value` and `FirstFault`.
use Rattle.std.specs.Prelude.{ℕ, zero, suc, ◌-◌, ◌/◌, ◌%◌, List, [], ◌∷◌, ◌++◌, length, take, drop, Result, Ok, Err, ◌==◌, if◌then◌else◌}
use Rattle.std.specs.Int.{w64, from_le_bytes}
use Rattle.schema.specs.Field.{Payload, Varint, Eight, Long, Field}
use Rattle.schema.specs.Fault.{Reason, Truncated, PackedLength, Fault, fault_at}
use Rattle.schema.specs.Decoding.{◌>>=◌, varint_at, trace}
use Rattle.schema.specs.Run.{run, text_of, one_text}
use Rattle.schema.specs.Parts.{Part, run_all}
use Rattle.schema.specs.Shape.{Shape, Number, Fixed, Bytes, Text, Any, Index, End, One, Many, Format, I32, NumberValue, Value, number_from, empty}
use Rattle.schema.specs.AnyMerge.{add_element, any_levels, go_on, item_at, merge_any}

abbrev pub at_place : {A : Type 0} → ℕ → Result A Reason → Result A Fault
at_place at (Ok x) = Ok x
at_place at (Err reason) = Err (fault_at at reason)

-- in a packed payload, a varint that passes its end is a wrong length
abbrev pub packed_reason : Reason → Reason
packed_reason Truncated = PackedLength
packed_reason reason = reason

abbrev pub in_packed : {A : Type 0} → Result A Reason → Result A Reason
in_packed (Ok x) = Ok x
in_packed (Err reason) = Err (packed_reason reason)

-- the numbers of a packed payload
unfoldable pub packed_upto : (w : Format) → ℕ → List ℕ → Result (List (NumberValue w)) Reason
packed_upto w zero bytes = Ok []
packed_upto w (suc k) [] = Ok []
packed_upto w (suc k) (b ∷ bytes) = in_packed (varint_at 9 (b ∷ bytes)) >>= λ n. packed_upto w k n.1 >>= λ ns. Ok (number_from w n.0 ∷ ns)

abbrev pub packed : (w : Format) → List ℕ → Result (List (NumberValue w)) Reason
packed w bytes = packed_upto w (length bytes) bytes

-- the eight-byte values of a packed payload
unfoldable pub fixed_upto : ℕ → List ℕ → List ℕ
fixed_upto zero bytes = []
fixed_upto (suc k) bytes = from_le_bytes w64 (take 8 bytes) ∷ fixed_upto k (drop 8 bytes)

abbrev pub packed_fixed : List ℕ → List ℕ
packed_fixed bytes = fixed_upto (length bytes / 8) bytes

-- ---- an occurrence of a singular row, over the value so far

abbrev pub one_number : (w : Format) → Payload → NumberValue w → NumberValue w
one_number w (Varint n) v = number_from w n
one_number w payload v = v

abbrev pub one_fixed : Payload → ℕ → ℕ
one_fixed (Eight b) v = from_le_bytes w64 b
one_fixed payload v = v

abbrev pub one_bytes : Payload → List ℕ → List ℕ
one_bytes (Long b) v = b
one_bytes payload v = v

-- `inside` takes one field of the message; `at` and `end` are where the tag begins and the payload ends
abbrev pub take_one : (s : Shape) → (ℕ → ℕ → Field → Value s → Result (Value s) Fault) → ℕ → ℕ → Payload → Value s → Result (Value s) Fault
take_one (Number w) inside at end payload v = Ok (one_number w payload v)
take_one (Index T entry) inside at end payload v = Ok (one_number I32 payload v)
take_one Fixed inside at end payload v = Ok (one_fixed payload v)
take_one Bytes inside at end payload v = Ok (one_bytes payload v)
take_one Text inside at end payload v = one_text at payload v
take_one (Any depth) inside at end payload v = go_on (merge_any (any_levels depth)) at end payload v
take_one End inside at end (Long b) v = run inside v (trace (end - length b) b)
take_one (One n k rest) inside at end (Long b) v = run inside v (trace (end - length b) b)
take_one (Many n k rest) inside at end (Long b) v = run inside v (trace (end - length b) b)
take_one s inside at end payload v = Ok v

-- ---- an occurrence of a repeated row, whose elements come after those so far

abbrev pub more_packed : (w : Format) → ℕ → List ℕ → List (NumberValue w) → Result (List (NumberValue w)) Fault
more_packed w at b vs = at_place at (packed w b) >>= λ ns. Ok (vs ++ ns)

abbrev pub more_numbers : (w : Format) → ℕ → Payload → List (NumberValue w) → Result (List (NumberValue w)) Fault
more_numbers w at (Varint n) vs = Ok (vs ++ number_from w n ∷ [])
more_numbers w at (Long b) vs = more_packed w at b vs
more_numbers w at payload vs = Ok vs

abbrev pub more_packed_fixed : ℕ → List ℕ → List ℕ → Result (List ℕ) Fault
more_packed_fixed at b vs = if length b % 8 == 0 then Ok (vs ++ packed_fixed b) else Err (fault_at at PackedLength)

abbrev pub more_fixed : ℕ → Payload → List ℕ → Result (List ℕ) Fault
more_fixed at (Eight b) vs = Ok (vs ++ from_le_bytes w64 b ∷ [])
more_fixed at (Long b) vs = more_packed_fixed at b vs
more_fixed at payload vs = Ok vs

abbrev pub more_bytes : Payload → List (List ℕ) → List (List ℕ)
more_bytes (Long b) vs = vs ++ b ∷ []
more_bytes payload vs = vs

abbrev pub more_texts : ℕ → Payload → List (List ℕ) → Result (List (List ℕ)) Fault
more_texts at (Long b) vs = text_of at b >>= λ t. Ok (vs ++ t ∷ [])
more_texts at payload vs = Ok vs

abbrev pub take_many : (s : Shape) → (ℕ → ℕ → Field → Value s → Result (Value s) Fault) → ℕ → ℕ → Payload → List (Value s) → Result (List (Value s)) Fault
take_many (Number w) inside at end payload vs = more_numbers w at payload vs
take_many (Index T entry) inside at end payload vs = more_numbers I32 at payload vs
take_many Fixed inside at end payload vs = more_fixed at payload vs
take_many Bytes inside at end payload vs = Ok (more_bytes payload vs)
take_many Text inside at end payload vs = more_texts at payload vs
take_many (Any depth) inside at end payload vs = add_element (item_at (merge_any (any_levels depth))) at end payload vs
take_many End inside at end (Long b) vs = run inside (empty End) (trace (end - length b) b) >>= λ v. Ok (vs ++ v ∷ [])
take_many (One n k rest) inside at end (Long b) vs = run inside (empty (One n k rest)) (trace (end - length b) b) >>= λ v. Ok (vs ++ v ∷ [])
take_many (Many n k rest) inside at end (Long b) vs = run inside (empty (Many n k rest)) (trace (end - length b) b) >>= λ v. Ok (vs ++ v ∷ [])
take_many s inside at end payload vs = Ok vs

-- ---- messages

-- a field of a message, over the value so far; a number that is in no row is skipped
abbrev pub take_field : (s : Shape) → ℕ → ℕ → Field → Value s → Result (Value s) Fault
take_field (Number w) at end f v = Ok v
take_field Fixed at end f v = Ok v
take_field Bytes at end f v = Ok v
take_field Text at end f v = Ok v
take_field (Any depth) at end f v = Ok v
take_field (Index T entry) at end f v = Ok v
take_field End at end f v = Ok v
take_field (One n k rest) at end f v =
    if f.number == n then (take_one k (take_field k) at end f.payload v.0 >>= λ x. Ok (x, v.1))
    else (take_field rest at end f v.1 >>= λ x. Ok (v.0, x))
take_field (Many n k rest) at end f v =
    if f.number == n then (take_many k (take_field k) at end f.payload v.0 >>= λ x. Ok (x, v.1))
    else (take_field rest at end f v.1 >>= λ x. Ok (v.0, x))

-- what bytes that begin at this place are for a shape, over the value so far: its value, or its first fault
abbrev pub merge : (s : Shape) → Value s → ℕ → List ℕ → Result (Value s) Fault
merge s v base bytes = run (take_field s) v (trace base bytes)

-- The occurrences of one singular message, in order, are its value, or their first fault.
abbrev pub merge_all : (s : Shape) → Value s → List Part → Result (Value s) Fault
merge_all s v parts = run_all (take_field s) v parts
