-- An occurrence of a row, by the row's shape.
use Rattle.std.proofs.Common.{◌≡◌, ℕ, zero, suc, ◌-◌, ◌/◌, ◌<◌, ◌≤◌, List, [], ◌∷◌, ◌++◌, length, take, drop, Result, Ok, Err, refl, sym, ap, ◌∙◌, arith, append_assoc}
use Rattle.std.specs.Int.{w64, from_le_bytes}
use Rattle.std.proofs.lemmas.List.{append-nil}
use Rattle.schema.specs.Field.{Payload, Long, Field}
use Rattle.schema.specs.Fault.{Reason, Fault, fault_at}
use Rattle.schema.specs.Decoding.{◌>>=◌, varint_at, trace}
use Rattle.schema.specs.Shape.{Shape, End, One, Many, Format, NumberValue, Value, IsMessage, empty, number_from}
use Rattle.schema.specs.Run.{run}
use Rattle.schema.specs.Merge.{take_one, take_many, packed_upto, packed, more_packed, in_packed, packed_reason, at_place, fixed_upto, packed_fixed}
use Rattle.schema_laws.proofs.Sizes.{Leaves, varint_leaves, number_size}

-- ---- messages

-- an occurrence of a singular message is read over the value so far
pub take_one_message : (s : Shape) (inside : ℕ → ℕ → Field → Value s → Result (Value s) Fault) (at end : ℕ) (b : List ℕ) (v : Value s) → IsMessage s
    → take_one s inside at end (Long b) v ≡ run inside v (trace (end - length b) b)
take_one_message End inside at end b v m = refl
take_one_message (One n k rest) inside at end b v m = refl
take_one_message (Many n k rest) inside at end b v m = refl
take_one_message s inside at end b v m = absurd m

-- and of a repeated one, over its empty value
pub take_many_message : (s : Shape) (inside : ℕ → ℕ → Field → Value s → Result (Value s) Fault) (at end : ℕ) (b : List ℕ) (vs : List (Value s)) → IsMessage s
    → take_many s inside at end (Long b) vs ≡ (run inside (empty s) (trace (end - length b) b) >>= λ v. Ok (vs ++ v ∷ []))
take_many_message End inside at end b v m = refl
take_many_message (One n k rest) inside at end b v m = refl
take_many_message (Many n k rest) inside at end b v m = refl
take_many_message s inside at end b v m = absurd m

-- a payload that is not after a length
abbrev pub IsShort : Payload → Type 0
IsShort (Long b) = ⊥
IsShort payload = Unit {0}

-- such a payload is skipped by a message
pub take_one_short : (s : Shape) (inside : ℕ → ℕ → Field → Value s → Result (Value s) Fault) (at end : ℕ) (p : Payload) (v : Value s) → IsMessage s → IsShort p
    → take_one s inside at end p v ≡ Ok v
take_one_short s inside at end (Long b) v m h = absurd h
take_one_short End inside at end p v m h = refl
take_one_short (One n k rest) inside at end p v m h = refl
take_one_short (Many n k rest) inside at end p v m h = refl
take_one_short s inside at end p v m h = absurd m

-- and by a repeated one
pub take_many_short : (s : Shape) (inside : ℕ → ℕ → Field → Value s → Result (Value s) Fault) (at end : ℕ) (p : Payload) (vs : List (Value s)) → IsMessage s → IsShort p
    → take_many s inside at end p vs ≡ Ok vs
take_many_short s inside at end (Long b) v m h = absurd h
take_many_short End inside at end p v m h = refl
take_many_short (One n k rest) inside at end p v m h = refl
take_many_short (Many n k rest) inside at end p v m h = refl
take_many_short s inside at end p v m h = absurd m

-- ---- packed numbers

-- what a packed payload is, by its first varint
abbrev pub packed_by : (w : Format) → (List ℕ → Result (List (NumberValue w)) Reason) → Result (ℕ × List ℕ) Reason → Result (List (NumberValue w)) Reason
packed_by w go r = in_packed r >>= λ n. go n.1 >>= λ ns. Ok (number_from w n.0 ∷ ns)

-- more steps than there are bytes give the same, by the first varint
packed_same : (w : Format) (m : ℕ) (r : Result (ℕ × List ℕ) Reason) (go other : List ℕ → Result (List (NumberValue w)) Reason) → Leaves number_size (suc m) r
    → ((bytes : List ℕ) → length bytes ≤ m → go bytes ≡ other bytes) → packed_by w go r ≡ packed_by w other r
packed_same w m (Ok n) go other h same = ap (λ (t : Result (List (NumberValue w)) Reason). t >>= λ ns. Ok (number_from w n.0 ∷ ns)) (same n.1 (omega arith))
packed_same w m (Err e) go other h same = refl

-- more steps than there are bytes give the same numbers
enough : (w : Format) (k n : ℕ) (bytes : List ℕ) → length bytes ≤ k → length bytes ≤ n → packed_upto w k bytes ≡ packed_upto w n bytes
unfolding packed_upto
enough w zero zero bytes p q = refl
enough w zero (suc n) [] p q = refl
enough w zero (suc n) (b ∷ bytes) p q = absurd (omega arith)
enough w (suc k) zero [] p q = refl
enough w (suc k) zero (b ∷ bytes) p q = absurd (omega arith)
enough w (suc k) (suc n) [] p q = refl
enough w (suc k) (suc n) (b ∷ bytes) p q =
    packed_same w (length bytes) (varint_at 9 (b ∷ bytes)) (packed_upto w k) (packed_upto w n) (varint_leaves 9 (b ∷ bytes))
    (λ rest le. enough w k n rest (omega arith) (omega arith))

-- a packed payload is one number, and the packed rest
pub packed_is : (w : Format) (bytes : List ℕ) → 0 < length bytes → packed w bytes ≡ packed_by w (packed w) (varint_at 9 bytes)
unfolding packed_upto
packed_is w [] h = absurd (omega arith)
packed_is w (b ∷ bytes) h =
    packed_same w (length bytes) (varint_at 9 (b ∷ bytes)) (packed_upto w (length bytes)) (packed w) (varint_leaves 9 (b ∷ bytes))
    (λ rest le. enough w (length bytes) (length rest) rest le (omega arith))

-- no bytes are no numbers
pub packed_nothing : (w : Format) → packed w [] ≡ Ok []
unfolding packed_upto
packed_nothing w = refl

-- a number in front, or after those so far
regroup : (w : Format) (at : ℕ) (vs : List (NumberValue w)) (v : NumberValue w) (r : Result (List (NumberValue w)) Reason)
    → (at_place at (r >>= λ ns. Ok (v ∷ ns)) >>= λ ns. Ok (vs ++ ns)) ≡ (at_place at r >>= λ ns. Ok ((vs ++ v ∷ []) ++ ns))
regroup w at vs v (Ok ns) = ap (λ (t : List (NumberValue w)). Ok t) (sym (append_assoc vs (v ∷ []) ns))
regroup w at vs v (Err e) = refl

-- the same after the numbers so far, as a loop over the payload meets it
pub packed_goes_on : (w : Format) (at : ℕ) (bytes after : List ℕ) (n : ℕ) (vs : List (NumberValue w)) → 0 < length bytes → varint_at 9 bytes ≡ Ok (n, after)
    → more_packed w at bytes vs ≡ more_packed w at after (vs ++ number_from w n ∷ [])
packed_goes_on w at bytes after n vs some e =
    let a : packed w bytes ≡ (packed w after >>= λ ns. Ok (number_from w n ∷ ns)) = packed_is w bytes some ∙ ap (packed_by w (packed w)) e in
    ap (λ (r : Result (List (NumberValue w)) Reason). at_place at r >>= λ ns. Ok (vs ++ ns)) a ∙ regroup w at vs (number_from w n) (packed w after)

-- a bad varint at the front is the fault
pub packed_fails : (w : Format) (at : ℕ) (bytes : List ℕ) (r : Reason) (vs : List (NumberValue w)) → 0 < length bytes → varint_at 9 bytes ≡ Err r
    → more_packed w at bytes vs ≡ Err (fault_at at (packed_reason r))
packed_fails w at bytes r vs some e =
    let a : packed w bytes ≡ Err (packed_reason r) = packed_is w bytes some ∙ ap (packed_by w (packed w)) e in
    ap (λ (r : Result (List (NumberValue w)) Reason). at_place at r >>= λ ns. Ok (vs ++ ns)) a

-- at the end nothing more comes
pub packed_ends : (w : Format) (at : ℕ) (bytes : List ℕ) (vs : List (NumberValue w)) → length bytes ≡ 0 → more_packed w at bytes vs ≡ Ok vs
unfolding packed_upto
packed_ends w at [] vs e = ap (λ (t : List (NumberValue w)). Ok t) (append-nil vs)
packed_ends w at (b ∷ bytes) vs e = absurd (omega arith)

-- ---- packed eight-byte values

-- the value of the first eight bytes, and the packed rest
pub packed_fixed_is : (bytes : List ℕ) (k : ℕ) → length bytes / 8 ≡ suc k → packed_fixed bytes ≡ from_le_bytes w64 (take 8 bytes) ∷ fixed_upto k (drop 8 bytes)
unfolding fixed_upto
packed_fixed_is bytes k e = ap (λ (n : ℕ). fixed_upto n bytes) e

-- fewer than eight bytes are no value
pub fixed_nothing : (bytes : List ℕ) → length bytes / 8 ≡ 0 → packed_fixed bytes ≡ []
unfolding fixed_upto
fixed_nothing bytes e = ap (λ (n : ℕ). fixed_upto n bytes) e
