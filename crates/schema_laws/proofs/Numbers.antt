-- Varints: the function against the relation.
use Rattle.std.proofs.Common.{◌≡◌, ℕ, zero, suc, ◌+◌, ◌*◌, ◌%◌, ◌<◌, ◌≤◌, true, false, List, [], ◌∷◌, ◌++◌, length, Result, Ok, Err, refl, sym, ap, ◌∙◌, arith, append_assoc, pow-suc}
use Rattle.std.specs.Prelude.{nat_lt}
use Rattle.std.proofs.lemmas.Bool.{cond_both, ltb-false, ltb-true, lt-ltb, le-ltb}
use Rattle.schema.specs.Fault.{Reason, Truncated, VarintLong}
use Rattle.schema.specs.Decoding.{varint_at, ◌>>=◌}
use Rattle.schema.specs.Spelling.{GoOn, SpellsNumber, digits}
use Rattle.schema.specs.FirstFault.{BadNumber, too_long, too_short}

-- digits from the next place on are worth 128 times as much
shift : (p : ℕ) (bytes : List ℕ) → digits (suc p) bytes ≡ 128 * digits p bytes
shift p [] = refl
shift p (b ∷ bytes) = omega (arith, shift (suc p) bytes, ap (λ (w : ℕ). b % 128 * w) (pow-suc 128 p))

-- the low byte first
pub horner : (b : ℕ) (bytes : List ℕ) → digits 0 (b ∷ bytes) ≡ b % 128 + 128 * digits 0 bytes
horner b bytes = omega (arith, shift 0 bytes)

-- what is spelled within the limit is read
read_upto : (k : ℕ) (front : List ℕ) (last : ℕ) (rest : List ℕ) → GoOn front → last < 128 → length front ≤ k → (length front ≡ k → last < 2)
    → varint_at k (front ++ last ∷ rest) ≡ Ok (digits 0 (front ++ last ∷ []), rest)
unfolding varint_at
read_upto zero [] last rest high low most tenth =
    let t : nat_lt last 2 ≡ true = lt-ltb _ _ (tenth refl) in
    rw t (ap (λ (n : ℕ). let r : Result (ℕ × List ℕ) Reason = Ok (n, rest) in r) (omega arith))
read_upto (suc k) [] last rest high low most tenth =
    let t : nat_lt last 128 ≡ true = lt-ltb _ _ low in
    rw t (ap (λ (n : ℕ). let r : Result (ℕ × List ℕ) Reason = Ok (n, rest) in r) (omega arith))
read_upto zero (b ∷ front) last rest high low most tenth = absurd (omega arith)
read_upto (suc k) (b ∷ front) last rest high low most tenth =
    let t : nat_lt b 128 ≡ false = le-ltb _ _ high.0 in
    let ih = read_upto k front last rest high.1 low (omega arith) (λ e. tenth (omega arith)) in
    rw (t, ih) (ap (λ (n : ℕ). let r : Result (ℕ × List ℕ) Reason = Ok (n, rest) in r) (sym (horner b (front ++ last ∷ []))))

-- what is spelled is read
pub number_read : (x : List ℕ) (n : ℕ) (rest : List ℕ) → SpellsNumber x n → varint_at 9 (x ++ rest) ≡ Ok (n, rest)
number_read x n rest s =
    let e : x ++ rest ≡ s.front ++ s.last ∷ rest = ap (λ (l : List ℕ). l ++ rest) s.is ∙ append_assoc s.front (s.last ∷ []) rest in
    let m : digits 0 (s.front ++ s.last ∷ []) ≡ n = ap (digits 0) (sym s.is) ∙ sym s.sum in
    ap (varint_at 9) e ∙ read_upto 9 s.front s.last rest s.high s.low s.most s.tenth ∙ ap (λ (n : ℕ). let r : Result (ℕ × List ℕ) Reason = Ok (n, rest) in r) m

-- the bytes begin with a varint of n, of which so many bytes may be followed by another
record Spelled (k : ℕ) (bytes : List ℕ) (n : ℕ) (rest : List ℕ) : Type 0 where
  front : List ℕ
  last : ℕ
  is : bytes ≡ front ++ last ∷ rest
  high : GoOn front
  low : last < 128
  most : length front ≤ k
  tenth : length front ≡ k → last < 2
  sum : n ≡ digits 0 (front ++ last ∷ [])

-- the bytes begin with no such varint
data Wrong (k : ℕ) (bytes : List ℕ) : Reason → Type 0 where
  short : length bytes ≤ k → GoOn bytes → Wrong k bytes Truncated
  over : (front : List ℕ) (tenth : ℕ) (rest : List ℕ) → bytes ≡ front ++ tenth ∷ rest → length front ≡ k → GoOn front → 2 ≤ tenth → Wrong k bytes VarintLong

-- what is read is spelled, and what is refused is wrong
abbrev Found : ℕ → List ℕ → Result (ℕ × List ℕ) Reason → Type 0
Found k bytes (Ok x) = Spelled k bytes x.0 x.1
Found k bytes (Err r) = Wrong k bytes r

-- with one more byte in front
more : (k b : ℕ) (bytes : List ℕ) → 128 ≤ b → (r : Result (ℕ × List ℕ) Reason) → Found k bytes r → Found (suc k) (b ∷ bytes) (r >>= λ high. Ok (b % 128 + 128 * high.0, high.1))
more k b bytes ge (Ok x) s = record {
  front = b ∷ s.front;
  last = s.last;
  is = ap (λ (l : List ℕ). b ∷ l) s.is;
  high = (ge, s.high);
  low = s.low;
  most = omega (arith, s.most);
  tenth = λ e. s.tenth (omega arith);
  sum = let h = horner b (s.front ++ s.last ∷ []) in omega (arith, h, s.sum);
}
more k b bytes ge (Err _) (short le go) = short (omega arith) (ge, go)
more k b bytes ge (Err _) (over front tenth rest e len go two) = over (b ∷ front) tenth rest (ap (λ (l : List ℕ). b ∷ l) e) (omega arith) (ge, go) two

-- the function finds it, for any limit
found_upto : (k : ℕ) (bytes : List ℕ) → Found k bytes (varint_at k bytes)
unfolding varint_at
found_upto zero [] = short (omega arith) tt
found_upto (suc k) [] = short (omega arith) tt
found_upto zero (b ∷ bytes) = cond_both (nat_lt b 2) (Ok (b, bytes)) (Err VarintLong) (Found zero (b ∷ bytes))
    (λ e. let l = ltb-true _ _ e in record { front = []; last = b; is = refl; high = tt; low = omega arith; most = omega arith; tenth = λ _. l; sum = omega arith })
    (λ e. over [] b bytes refl refl tt (ltb-false _ _ e))
found_upto (suc k) (b ∷ bytes) = cond_both (nat_lt b 128) (Ok (b, bytes)) (varint_at k bytes >>= λ high. Ok (b % 128 + 128 * high.0, high.1)) (Found (suc k) (b ∷ bytes))
    (λ e. let l = ltb-true _ _ e in record { front = []; last = b; is = refl; high = tt; low = l; most = omega arith; tenth = λ z. absurd (omega arith); sum = omega arith })
    (λ e. more k b bytes (ltb-false _ _ e) (varint_at k bytes) (found_upto k bytes))

-- what is read is a varint spelling, and what is refused is none
abbrev pub NumberFound : List ℕ → Result (ℕ × List ℕ) Reason → Type 0
NumberFound bytes (Ok x) = (one : List ℕ) × (bytes ≡ one ++ x.1) × SpellsNumber one x.0
NumberFound bytes (Err r) = BadNumber bytes r

-- the same at the limit of a varint
at_nine : (bytes : List ℕ) (r : Result (ℕ × List ℕ) Reason) → Found 9 bytes r → NumberFound bytes r
at_nine bytes (Ok x) s = (
  s.front ++ s.last ∷ [],
  s.is ∙ sym (append_assoc s.front (s.last ∷ []) x.1),
  record { front = s.front; last = s.last; is = refl; high = s.high; low = s.low; most = s.most; tenth = s.tenth; sum = s.sum },
)
at_nine bytes (Err _) (short le go) = too_short le go
at_nine bytes (Err _) (over front tenth rest e len go two) = too_long front tenth rest e len go two

-- what is read is spelled, and what is refused is bad
pub number_found : (bytes : List ℕ) → NumberFound bytes (varint_at 9 bytes)
number_found bytes = at_nine bytes (varint_at 9 bytes) (found_upto 9 bytes)

-- bytes that all go on are refused
short_upto : (k : ℕ) (bytes : List ℕ) → length bytes ≤ k → GoOn bytes → varint_at k bytes ≡ Err Truncated
unfolding varint_at
short_upto zero [] le go = refl
short_upto (suc k) [] le go = refl
short_upto zero (b ∷ bytes) le go = absurd (omega arith)
short_upto (suc k) (b ∷ bytes) le go =
    let t : nat_lt b 128 ≡ false = le-ltb _ _ go.0 in
    rw (t, short_upto k bytes (omega arith) go.1) refl

-- and so is a last byte above 1
over_upto : (k : ℕ) (front : List ℕ) (tenth : ℕ) (rest : List ℕ) → length front ≡ k → GoOn front → 2 ≤ tenth → varint_at k (front ++ tenth ∷ rest) ≡ Err VarintLong
unfolding varint_at
over_upto zero [] tenth rest len go two = let t : nat_lt tenth 2 ≡ false = le-ltb _ _ two in rw t refl
over_upto (suc k) [] tenth rest len go two = absurd (omega arith)
over_upto zero (b ∷ front) tenth rest len go two = absurd (omega arith)
over_upto (suc k) (b ∷ front) tenth rest len go two =
    let t : nat_lt b 128 ≡ false = le-ltb _ _ go.0 in
    rw (t, over_upto k front tenth rest (omega arith) go.1 two) refl

-- what is bad is refused
pub number_bad : (bytes : List ℕ) (r : Reason) → BadNumber bytes r → varint_at 9 bytes ≡ Err r
number_bad bytes _ (too_short le go) = short_upto 9 bytes le go
number_bad bytes _ (too_long front tenth rest e len go two) = ap (varint_at 9) e ∙ over_upto 9 front tenth rest len go two
