-- Packed numbers.
use Rattle.std.proofs.Common.{◌≡◌, ℕ, zero, suc, ◌+◌, ◌<◌, ◌≤◌, List, [], ◌∷◌, ◌++◌, length, map, Result, Ok, Err, refl, sym, ap, subst, ◌∙◌, arith, append_assoc, length-append, inl, inr}
use Rattle.std.specs.Prelude.{◌⊎◌}
use Rattle.schema.specs.Fault.{PackedLength, Reason, Truncated, VarintLong}
use Rattle.schema.specs.Decoding.{varint_at, ◌>>=◌}
use Rattle.schema.specs.Shape.{Format, NumberValue, number_from}
use Rattle.schema.specs.Merge.{in_packed, packed, packed_reason, packed_upto}
use Rattle.schema.specs.Spelling.{SpellsNumbers}
use Rattle.schema.specs.FirstFault.{BadNumber, BadPacked, too_long, too_short}
use Rattle.schema_laws.proofs.Results.{err_is, ok_is, map_err, map_ok}
use Rattle.schema_laws.proofs.Numbers.{number_read, number_bad, number_found, NumberFound}
use Rattle.schema_laws.proofs.OneField.{number_some}

-- the first varint is wrong, with this reason as a packed one
abbrev WrongNumber : List ℕ → Reason → Type 0
WrongNumber bytes r = (BadNumber bytes Truncated × (r ≡ PackedLength)) ⊎ (BadNumber bytes VarintLong × (r ≡ VarintLong))

-- a bad varint is wrong in a packed payload
wrong_number : (bytes : List ℕ) (r : Reason) → BadNumber bytes r → WrongNumber bytes (packed_reason r)
wrong_number bytes _ (too_short le go) = inl (too_short le go, refl)
wrong_number bytes _ (too_long front tenth rest e len go two) = inr (too_long front tenth rest e len go two, refl)

-- a varint, and the packed numbers after it
abbrev then : (w : Format) → ℕ → Result (ℕ × List ℕ) Reason → Result (List (NumberValue w)) Reason
then w k n = in_packed n >>= λ n. packed_upto w k n.1 >>= λ ns. Ok (number_from w n.0 ∷ ns)

-- a packed payload that fails is bad, by its first varint
found_one : (w : Format) (k : ℕ) (bytes : List ℕ) (r : Reason) → 0 < length bytes → (n : Result (ℕ × List ℕ) Reason) → NumberFound bytes n
    → ((rest : List ℕ) → length rest < length bytes → packed_upto w k rest ≡ Err r → BadPacked rest r)
    → then w k n ≡ Err r → BadPacked bytes r
found_one w k bytes r lt (Err d) b ih e =
    let q : packed_reason d ≡ r = err_is {A = List (NumberValue w)} (packed_reason d) r e in
    record { before = []; after = bytes; numbers = []; is = refl; right = refl; more = lt; wrong = subst (WrongNumber bytes) q (wrong_number bytes d b) }
found_one w k bytes r lt (Ok x) s ih e =
    let one = s.0 in
    let some = number_some one x.0 s.2 in
    let b = ih x.1 (omega (arith, ap length s.1, length-append one x.1)) (map_err (packed_upto w k x.1) (λ (ns : List (NumberValue w)). number_from w x.0 ∷ ns) r e) in
    record {
      before = one ++ b.before;
      after = b.after;
      numbers = x.0 ∷ b.numbers;
      is = s.1 ∙ ap (λ (y : List ℕ). one ++ y) b.is ∙ sym (append_assoc one b.before b.after);
      right = (one, b.before, refl, s.2, b.right);
      more = b.more;
      wrong = b.wrong;
    }

-- for texts up to a length
found_upto : (w : Format) (k : ℕ) (bytes : List ℕ) (r : Reason) → length bytes ≤ k → packed_upto w k bytes ≡ Err r → BadPacked bytes r
unfolding packed_upto
found_upto w zero bytes r le e = absurd cc
found_upto w (suc k) [] r le e = absurd cc
found_upto w (suc k) (b ∷ bytes) r le e = found_one w k (b ∷ bytes) r (omega arith) (varint_at 9 (b ∷ bytes)) (number_found (b ∷ bytes)) (λ rest lt q. found_upto w k rest r (omega arith) q) e

-- a packed payload that fails is bad
pub packed_found : (w : Format) (bytes : List ℕ) (r : Reason) → packed w bytes ≡ Err r → BadPacked bytes r
packed_found w bytes r e = found_upto w (length bytes) bytes r (omega arith) e

-- a step over a text that isn't empty
step : (w : Format) (k : ℕ) (bytes : List ℕ) → 0 < length bytes → packed_upto w (suc k) bytes ≡ then w k (varint_at 9 bytes)
unfolding packed_upto
step w k [] lt = absurd (omega arith)
step w k (b ∷ bytes) lt = refl

-- a wrong varint fails
wrong_read : (w : Format) (k : ℕ) (bytes : List ℕ) (r : Reason) → WrongNumber bytes r → then w k (varint_at 9 bytes) ≡ Err r
wrong_read w k bytes r (inl b) = ap (then w k) (number_bad bytes Truncated b.0) ∙ ap (λ (x : Reason). Err x) (sym b.1)
wrong_read w k bytes r (inr b) = ap (then w k) (number_bad bytes VarintLong b.0) ∙ ap (λ (x : Reason). Err x) (sym b.1)

-- right varints, and then a wrong one, fail
bad_upto : (w : Format) (ns : List ℕ) (k : ℕ) (before after : List ℕ) (r : Reason) → length (before ++ after) ≤ k → SpellsNumbers before ns → 0 < length after → WrongNumber after r
    → packed_upto w k (before ++ after) ≡ Err r
bad_upto w ns zero before after r le right more wrong = absurd (omega (arith, length-append before after))
bad_upto w [] (suc k) before after r le right more wrong =
    ap (λ (y : List ℕ). packed_upto w (suc k) (y ++ after)) right ∙ step w k after more ∙ wrong_read w k after r wrong
bad_upto w (n ∷ ns) (suc k) before after r le right more wrong =
    let one = right.0 in let others = right.1 in
    let some = number_some one n right.3 in
    let e : before ++ after ≡ one ++ (others ++ after) = ap (λ (y : List ℕ). y ++ after) right.2 ∙ append_assoc one others after in
    let l : length (before ++ after) ≡ length one + length (others ++ after) = ap length e ∙ length-append one (others ++ after) in
    let ih = bad_upto w ns k others after r (omega arith) right.4 more wrong in
    ap (packed_upto w (suc k)) e ∙ step w k (one ++ (others ++ after)) (omega (arith, length-append one (others ++ after)))
    ∙ ap (then w k) (number_read one n (others ++ after) right.3)
    ∙ ap (λ (x : Result (List (NumberValue w)) Reason). x >>= λ ns. Ok (number_from w n ∷ ns)) ih

-- a bad packed payload fails
pub packed_bad : (w : Format) (bytes : List ℕ) (r : Reason) → BadPacked bytes r → packed w bytes ≡ Err r
packed_bad w bytes r b = ap (packed w) b.is ∙ bad_upto w b.numbers (length (b.before ++ b.after)) b.before b.after r (omega arith) b.right b.more b.wrong

-- ---- what is right

-- the values are those of the varints that the bytes spell
abbrev Right : (w : Format) → List ℕ → List (NumberValue w) → Type 0
Right w bytes vs = (ns : List ℕ) × SpellsNumbers bytes ns × (vs ≡ map (number_from w) ns)

-- a packed payload that is read is right, by its first varint
right_one : (w : Format) (k : ℕ) (bytes : List ℕ) (vs : List (NumberValue w)) → (n : Result (ℕ × List ℕ) Reason) → NumberFound bytes n
    → ((rest : List ℕ) (us : List (NumberValue w)) → length rest < length bytes → packed_upto w k rest ≡ Ok us → Right w rest us)
    → then w k n ≡ Ok vs → Right w bytes vs
right_one w k bytes vs (Err d) b ih e = absurd cc
right_one w k bytes vs (Ok x) s ih e =
    let one = s.0 in
    let some = number_some one x.0 s.2 in
    let p = map_ok (packed_upto w k x.1) (λ (ns : List (NumberValue w)). number_from w x.0 ∷ ns) vs e in
    let b = ih x.1 p.0 (omega (arith, ap length s.1, length-append one x.1)) p.1 in
    (x.0 ∷ b.0, (one, x.1, s.1, s.2, b.1), sym p.2 ∙ ap (λ (l : List (NumberValue w)). number_from w x.0 ∷ l) b.2)

-- for texts up to a length
right_upto : (w : Format) (k : ℕ) (bytes : List ℕ) (vs : List (NumberValue w)) → length bytes ≤ k → packed_upto w k bytes ≡ Ok vs → Right w bytes vs
unfolding packed_upto
right_upto w zero [] vs le e = ([], refl, sym (ok_is {A = List (NumberValue w)} [] vs e))
right_upto w zero (b ∷ bytes) vs le e = absurd (omega arith)
right_upto w (suc k) [] vs le e = ([], refl, sym (ok_is {A = List (NumberValue w)} [] vs e))
right_upto w (suc k) (b ∷ bytes) vs le e = right_one w k (b ∷ bytes) vs (varint_at 9 (b ∷ bytes)) (number_found (b ∷ bytes)) (λ rest us lt q. right_upto w k rest us (omega arith) q) e

-- a packed payload that is read spells its numbers
pub packed_right : (w : Format) (bytes : List ℕ) (vs : List (NumberValue w)) → packed w bytes ≡ Ok vs → Right w bytes vs
packed_right w bytes vs e = right_upto w (length bytes) bytes vs (omega arith) e

-- the first of the varints is read
number_at : (bytes : List ℕ) (n : ℕ) (ns : List ℕ) → (s : SpellsNumbers bytes (n ∷ ns)) → varint_at 9 bytes ≡ Ok (n, s.1)
number_at bytes n ns s = ap (varint_at 9) s.2 ∙ number_read s.0 n s.1 s.3

-- no bytes spell no varint
none_left : (bytes : List ℕ) (n : ℕ) (ns : List ℕ) → bytes ≡ [] → SpellsNumbers bytes (n ∷ ns) → ⊥
none_left bytes n ns e s = let some = number_some s.0 n s.3 in absurd (omega (arith, ap length e, ap length s.2, length-append s.0 s.1))

-- bytes spell one list of numbers
pub one_numbers : (bytes : List ℕ) (ns ms : List ℕ) → SpellsNumbers bytes ns → SpellsNumbers bytes ms → ns ≡ ms
one_numbers bytes [] [] a b = refl
one_numbers bytes [] (m ∷ ms) a b = absurd (none_left bytes m ms a b)
one_numbers bytes (n ∷ ns) [] a b = absurd (none_left bytes n ns b a)
one_numbers bytes (n ∷ ns) (m ∷ ms) a b =
    let both = ok_is {A = ℕ × List ℕ} (n, a.1) (m, b.1) (sym (number_at bytes n ns a) ∙ number_at bytes m ms b) in
    let same = ap (λ (x : ℕ × List ℕ). x.0) both in
    let left = ap (λ (x : ℕ × List ℕ). x.1) both in
    let ih = one_numbers b.1 ns ms (subst (λ (y : List ℕ). SpellsNumbers y ns) left a.4) b.4 in
    cc (same, ih)
