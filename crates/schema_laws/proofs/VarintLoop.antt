-- A varint, as a loop over its bytes reads it: the value so far, and what the next byte is worth.
use Rattle.std.proofs.Common.{◌≡◌, ℕ, zero, suc, ◌+◌, ◌*◌, ◌-◌, ◌%◌, ◌^◌, ◌<◌, ◌≤◌, true, false, List, [], ◌∷◌, Result, Ok, Err, refl, sym, ap, ◌∙◌, arith, mul-le-mul_right, pow-suc, add-one}
use Rattle.std.specs.Prelude.{nat_lt}
use Rattle.std.proofs.Math.Nat.{pow-le-pow_right}
use Rattle.std.proofs.lemmas.Bool.{lt-ltb, le-ltb}
use Rattle.schema.specs.Fault.{Reason, Truncated, VarintLong}
use Rattle.schema.specs.Decoding.{◌>>=◌, varint_at}

-- what is read, above the low bytes that were read before
abbrev pub above : ℕ → ℕ → Result (ℕ × List ℕ) Reason → Result (ℕ × List ℕ) Reason
above value weight read = read >>= λ high. Ok (value + high.0 * weight, high.1)

-- ---- weights

-- below the tenth byte, the weight of the next one fits
pub room : (place weight : ℕ) → place < 9 → weight ≡ 128 ^ place → weight * 128 ≤ 2 ^ 63
room place weight lt e =
    let h : 128 ^ place ≤ 128 ^ 8 = pow-le-pow_right {n = 128} (omega arith) {i = place} {j = 8} (omega arith) in
    omega arith

-- the weight of the next byte
pub next_weight : (place weight : ℕ) → weight ≡ 128 ^ place → weight * 128 ≡ 128 ^ (place + 1)
next_weight place weight e = rw (add-one, pow-suc) (ap (λ (n : ℕ). n * 128) e)

-- the weight of the tenth byte
pub last_weight : (place weight : ℕ) → 9 ≤ place → place ≤ 9 → weight ≡ 128 ^ place → weight ≡ 2 ^ 63
last_weight place weight ge le e = let h : place ≡ 9 = omega arith in e ∙ rw h refl

-- a last byte before the tenth fits
pub low_fits : (value weight place b : ℕ) → place < 9 → weight ≡ 128 ^ place → value < weight → b < 128
    → (b * weight < 2 ^ 64) × (value + b * weight < 2 ^ 64) × (value + b * weight < weight * 128) × (weight * 128 < 2 ^ 64)
low_fits value weight place b lt e v h =
    let r = room place weight lt e in
    let m : b * weight ≤ 127 * weight = mul-le-mul_right weight (omega arith) in
    (omega arith, omega arith, omega arith, omega arith)

-- and so does a tenth byte of 0 or 1
pub last_fits : (value weight place b : ℕ) → 9 ≤ place → place ≤ 9 → weight ≡ 128 ^ place → value < weight → b < 2
    → (b * weight < 2 ^ 64) × (value + b * weight < 2 ^ 64)
last_fits value weight place b ge le e v h =
    let r = last_weight place weight ge le e in
    let m : b * weight ≤ 1 * weight = mul-le-mul_right weight (omega arith) in
    (omega arith, omega arith)

-- ---- one byte; `whole` is what the loop is to answer

-- a byte that is not the last goes below what is to come
regroup : (value weight b : ℕ) (read : Result (ℕ × List ℕ) Reason) → 128 ≤ b → b < 256
    → above value weight (read >>= λ high. Ok (b % 128 + 128 * high.0, high.1)) ≡ above (value + (b - 128) * weight) (weight * 128) read
regroup value weight b (Ok x) h l = let m : b % 128 ≡ b - 128 = omega arith in ap (λ (n : ℕ). Ok (n, x.1)) (rw m (omega arith))
regroup value weight b (Err r) h l = refl

-- the varint goes on
pub goes_on : (value weight place b : ℕ) (rest : List ℕ) (whole : Result (ℕ × List ℕ) Reason) → place < 9 → 128 ≤ b → b < 256
    → above value weight (varint_at (9 - place) (b ∷ rest)) ≡ whole
    → above (value + (b - 128) * weight) (weight * 128) (varint_at (9 - (place + 1)) rest) ≡ whole
unfolding varint_at
goes_on value weight place b rest whole lt ge l h =
    let k : 9 - place ≡ suc (9 - (place + 1)) = omega arith in
    let t : nat_lt b 128 ≡ false = le-ltb _ _ ge in
    let one : above value weight (varint_at (9 - place) (b ∷ rest)) ≡ above (value + (b - 128) * weight) (weight * 128) (varint_at (9 - (place + 1)) rest) = rw (k, t) (regroup value weight b (varint_at (9 - (place + 1)) rest) ge l) in
    sym one ∙ h

-- the varint ends before the tenth byte
pub ends : (value weight place b : ℕ) (rest : List ℕ) (whole : Result (ℕ × List ℕ) Reason) → place < 9 → b < 128
    → above value weight (varint_at (9 - place) (b ∷ rest)) ≡ whole → whole ≡ Ok (value + b * weight, rest)
unfolding varint_at
ends value weight place b rest whole lt ge h =
    let k : 9 - place ≡ suc (9 - (place + 1)) = omega arith in
    let t : nat_lt b 128 ≡ true = lt-ltb _ _ ge in
    sym h ∙ rw (k, t) refl

-- it ends with the tenth byte
pub ends_last : (value weight place b : ℕ) (rest : List ℕ) (whole : Result (ℕ × List ℕ) Reason) → 9 ≤ place → b < 2
    → above value weight (varint_at (9 - place) (b ∷ rest)) ≡ whole → whole ≡ Ok (value + b * weight, rest)
unfolding varint_at
ends_last value weight place b rest whole lt ge h =
    let k : 9 - place ≡ 0 = omega arith in
    let t : nat_lt b 2 ≡ true = lt-ltb _ _ ge in
    sym h ∙ rw (k, t) refl

-- the tenth byte is above 1
pub too_long : (value weight place b : ℕ) (rest : List ℕ) (whole : Result (ℕ × List ℕ) Reason) → 9 ≤ place → 2 ≤ b
    → above value weight (varint_at (9 - place) (b ∷ rest)) ≡ whole → whole ≡ Err VarintLong
unfolding varint_at
too_long value weight place b rest whole lt ge h =
    let k : 9 - place ≡ 0 = omega arith in
    let t : nat_lt b 2 ≡ false = le-ltb _ _ ge in
    sym h ∙ rw (k, t) refl

-- the bytes end
pub too_short : (value weight k : ℕ) (whole : Result (ℕ × List ℕ) Reason) → above value weight (varint_at k []) ≡ whole → whole ≡ Err Truncated
unfolding varint_at
too_short value weight zero whole h = sym h
too_short value weight (suc k) whole h = sym h
