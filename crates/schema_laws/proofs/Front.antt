-- A field that is spelled at the front is read there.
use Rattle.std.proofs.Common.{◌≡◌, ℕ, zero, suc, ◌+◌, ◌*◌, ◌/◌, ◌%◌, ◌^◌, ◌<◌, true, false, List, ◌++◌, length, Ok, refl, ap, ◌∙◌, arith, append_assoc, pow-suc, length-append, inl, inr}
use Rattle.std.specs.Prelude.{nat_lt, ◌==◌}
use Rattle.std.proofs.lemmas.Bool.{cases_lt, lt-ltb, le-ltb, ne_eqb}
use Rattle.std.proofs.lemmas.List.{take_at, drop_at}
use Rattle.schema.specs.Field.{Varint, Eight, Long, greatest_number}
use Rattle.schema.specs.Decoding.{◌>>=◌, varint_at, bytes_at, payload_at, field_at}
use Rattle.schema.specs.Texts.{varint, long_field}
use Rattle.schema_laws.proofs.Onto.{varint_small, varint_large}

-- a varint within its limit is read
varint_read : (k n : ℕ) (rest : List ℕ) → n < 128 ^ k * 2 → varint_at k (varint n ++ rest) ≡ Ok (n, rest)
unfolding varint_at
varint_read zero n rest lt =
    let t : nat_lt n 2 ≡ true = lt-ltb _ _ (omega arith) in
    rw (varint_small n (omega arith), t) refl
varint_read (suc k) n rest lt = elim (cases_lt n 128) [
  | inl small ↦
      let t : nat_lt n 128 ≡ true = lt-ltb _ _ small in
      rw (varint_small n small, t) refl
  | inr large ↦
      let p : 128 ^ suc k ≡ 128 ^ k * 128 = pow-suc 128 k in
      let t : nat_lt (n % 128 + 128) 128 ≡ false = le-ltb _ _ (omega arith) in
      let ih = varint_read k (n / 128) rest (omega arith) in
      rw (varint_large n large, t, ih) (ap (λ (m : ℕ). Ok (m, rest)) (omega arith))
]

-- a varint of 64 bits is read
pub varint_again : (n : ℕ) (rest : List ℕ) → n < 2 ^ 64 → varint_at 9 (varint n ++ rest) ≡ Ok (n, rest)
varint_again n rest lt = varint_read 9 n rest (omega arith)

-- so many bytes are read
pub bytes_again : (n : ℕ) (b rest : List ℕ) → length b ≡ n → bytes_at n (b ++ rest) ≡ Ok (b, rest)
bytes_again n b rest e =
    let t : nat_lt (length (b ++ rest)) n ≡ false = le-ltb _ _ (omega (arith, length-append b rest)) in
    rw (t, take_at b rest n e, drop_at b rest n e) refl

-- a tag is read, and then its payload
tag_again : (n kind : ℕ) (bytes : List ℕ) → 0 < n → n < 2 ^ 29 → kind < 8
    → field_at (varint (n * 8 + kind) ++ bytes) ≡ (payload_at kind bytes >>= λ p. Ok (record { number = n; payload = p.0 }, p.1))
unfolding field_at
tag_again n kind bytes some few small =
    let d : (n * 8 + kind) / 8 ≡ n = omega arith in
    let m : (n * 8 + kind) % 8 ≡ kind = omega arith in
    let a : (n == 0) ≡ false = ne_eqb _ _ (omega arith) in
    let b : nat_lt greatest_number n ≡ false = le-ltb _ _ (omega arith) in
    rw (varint_again (n * 8 + kind) bytes (omega arith), d, m, a, b) refl

-- a field that is a number is read
pub number_again : (n v : ℕ) (rest : List ℕ) → 0 < n → n < 2 ^ 29 → v < 2 ^ 64
    → field_at ((varint (n * 8) ++ varint v) ++ rest) ≡ Ok (record { number = n; payload = Varint v }, rest)
unfolding payload_at
number_again n v rest some few fits =
    let z : n * 8 ≡ n * 8 + 0 = omega arith in
    let e : (varint (n * 8) ++ varint v) ++ rest ≡ varint (n * 8 + 0) ++ (varint v ++ rest) = append_assoc (varint (n * 8)) (varint v) rest ∙ ap (λ (m : ℕ). varint m ++ (varint v ++ rest)) z in
    ap field_at e ∙ tag_again n 0 (varint v ++ rest) some few (omega arith) ∙ rw (varint_again v rest fits) refl

-- a field of eight bytes is read
pub eight_again : (n : ℕ) (b rest : List ℕ) → 0 < n → n < 2 ^ 29 → length b ≡ 8
    → field_at ((varint (n * 8 + 1) ++ b) ++ rest) ≡ Ok (record { number = n; payload = Eight b }, rest)
unfolding payload_at
eight_again n b rest some few len =
    ap field_at (append_assoc (varint (n * 8 + 1)) b rest) ∙ tag_again n 1 (b ++ rest) some few (omega arith) ∙ rw (bytes_again 8 b rest len) refl

-- a field of bytes after their length is read
pub long_again : (n : ℕ) (b rest : List ℕ) → 0 < n → n < 2 ^ 29 → length b < 2 ^ 64
    → field_at (long_field n b ++ rest) ≡ Ok (record { number = n; payload = Long b }, rest)
unfolding payload_at long_field
long_again n b rest some few fits =
    let e : (varint (n * 8 + 2) ++ varint (length b) ++ b) ++ rest ≡ varint (n * 8 + 2) ++ (varint (length b) ++ (b ++ rest)) = simp append_assoc in
    ap field_at e ∙ tag_again n 2 (varint (length b) ++ (b ++ rest)) some few (omega arith) ∙ rw (varint_again (length b) (b ++ rest) fits, bytes_again (length b) b rest refl) refl
