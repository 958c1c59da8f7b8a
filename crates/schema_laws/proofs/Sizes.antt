-- What a reader leaves: each takes something from the front, and what it answers is no longer than what it took.
use Rattle.std.proofs.Common.{◌≡◌, ℕ, zero, suc, ◌+◌, ◌*◌, ◌/◌, ◌%◌, ◌≤◌, List, [], ◌∷◌, length, take, drop, Result, Ok, Err, arith, subst, length-drop}
use Rattle.std.specs.Prelude.{nat_lt, ◌==◌, ◌||◌}
use Rattle.std.proofs.lemmas.Bool.{cond_both, ltb-false}
use Rattle.std.proofs.lemmas.List.{length-take}
use Rattle.schema.specs.Field.{Payload, Varint, Eight, Long, Four, Field, bytes_of, greatest_number}
use Rattle.schema.specs.Fault.{Reason, Truncated, VarintLong, FieldNumber}
use Rattle.schema.specs.Decoding.{◌>>=◌, varint_at, bytes_at, payload_at, field_at}

-- the size of what is answered is at most n
abbrev pub Leaves : {A E : Type 0} → (A → ℕ) → ℕ → Result A E → Type 0
Leaves size n (Ok x) = size x ≤ n
Leaves size n (Err e) = Unit {0}

-- what follows a number, and a byte of it
abbrev pub number_size : ℕ × List ℕ → ℕ
number_size x = length x.1 + 1

-- bytes, and what follows them
abbrev pub bytes_size : List ℕ × List ℕ → ℕ
bytes_size x = length x.0 + length x.1

-- a payload's bytes, and what follows it
abbrev pub payload_size : Payload × List ℕ → ℕ
payload_size x = length (bytes_of x.0) + length x.1

-- a field's bytes, what follows it, and a byte of its tag
abbrev pub field_size : Field × List ℕ → ℕ
field_size x = length (bytes_of x.0.payload) + length x.1 + 1

-- what comes next leaves no more
leaves_bind : {A B E : Type 0} (size : A → ℕ) (next : B → ℕ) (m n : ℕ) (r : Result A E) (f : A → Result B E)
    → Leaves size m r → ((x : A) → size x ≤ m → Leaves next n (f x)) → Leaves next n (r >>= f)
leaves_bind size next m n (Ok x) f h g = g x h
leaves_bind size next m n (Err e) f h g = tt

-- a varint takes a byte at least
pub varint_leaves : (k : ℕ) (bytes : List ℕ) → Leaves number_size (length bytes) (varint_at k bytes)
unfolding varint_at
varint_leaves zero [] = tt
varint_leaves zero (b ∷ bytes) = cond_both (nat_lt b 2) (Ok (b, bytes)) (Err VarintLong) (Leaves number_size (suc (length bytes))) (λ _. omega arith) (λ _. tt)
varint_leaves (suc k) [] = tt
varint_leaves (suc k) (b ∷ bytes) = cond_both (nat_lt b 128) (Ok (b, bytes)) (varint_at k bytes >>= λ high. Ok (b % 128 + 128 * high.0, high.1)) (Leaves number_size (suc (length bytes))) (λ _. omega arith)
    (λ _. leaves_bind number_size number_size (length bytes) (suc (length bytes)) (varint_at k bytes) (λ high. Ok (b % 128 + 128 * high.0, high.1)) (varint_leaves k bytes) (λ x h. omega arith))

-- bytes are taken from the front
pub bytes_leave : (n : ℕ) (bytes : List ℕ) → Leaves bytes_size (length bytes) (bytes_at n bytes)
bytes_leave n bytes = cond_both (nat_lt (length bytes) n) (Err Truncated) (Ok (take n bytes, drop n bytes)) (Leaves bytes_size (length bytes)) (λ _. tt)
    (λ e. omega (arith, ltb-false _ _ e, length-take n bytes, length-drop n bytes))

-- a payload is taken from the front
pub payload_leaves : (kind : ℕ) (bytes : List ℕ) → Leaves payload_size (length bytes) (payload_at kind bytes)
unfolding payload_at
payload_leaves kind bytes =
    cond_both (kind == 0) _ _ (Leaves payload_size (length bytes)) (λ _. leaves_bind number_size payload_size (length bytes) (length bytes) (varint_at 9 bytes) (λ n. Ok (Varint n.0, n.1)) (varint_leaves 9 bytes) (λ x h. omega arith))
    (λ _. cond_both (kind == 1) _ _ (Leaves payload_size (length bytes)) (λ _. leaves_bind bytes_size payload_size (length bytes) (length bytes) (bytes_at 8 bytes) (λ n. Ok (Eight n.0, n.1)) (bytes_leave 8 bytes) (λ x h. omega arith))
    (λ _. cond_both (kind == 2) _ _ (Leaves payload_size (length bytes)) (λ _. leaves_bind number_size payload_size (length bytes) (length bytes) (varint_at 9 bytes) (λ n. bytes_at n.0 n.1 >>= λ b. Ok (Long b.0, b.1)) (varint_leaves 9 bytes)
    (λ n h. leaves_bind bytes_size payload_size (length n.1) (length bytes) (bytes_at n.0 n.1) (λ b. Ok (Long b.0, b.1)) (bytes_leave n.0 n.1) (λ x g. omega arith)))
    (λ _. cond_both (kind == 5) _ _ (Leaves payload_size (length bytes)) (λ _. leaves_bind bytes_size payload_size (length bytes) (length bytes) (bytes_at 4 bytes) (λ n. Ok (Four n.0, n.1)) (bytes_leave 4 bytes) (λ x h. omega arith))
    (λ _. tt))))

-- a field takes a byte at least
pub field_leaves : (bytes : List ℕ) → Leaves field_size (length bytes) (field_at bytes)
unfolding field_at
field_leaves bytes = leaves_bind number_size field_size (length bytes) (length bytes) (varint_at 9 bytes) _ (varint_leaves 9 bytes)
    (λ tag h. cond_both ((tag.0 / 8 == 0) || nat_lt greatest_number (tag.0 / 8)) (Err FieldNumber) _ (Leaves field_size (length bytes)) (λ _. tt)
    (λ _. leaves_bind payload_size field_size (length tag.1) (length bytes) (payload_at (tag.0 % 8) tag.1) (λ p. Ok (record { number = tag.0 / 8; payload = p.0 }, p.1)) (payload_leaves (tag.0 % 8) tag.1) (λ x g. omega arith)))

-- a field that is read, and what follows it, lie in the bytes
pub size_of_field : (bytes : List ℕ) (f : Field) (after : List ℕ) → field_at bytes ≡ Ok (f, after) → field_size (f, after) ≤ length bytes
size_of_field bytes f after e = subst (λ (r : Result (Field × List ℕ) Reason). Leaves field_size (length bytes) r) e (field_leaves bytes)

-- a number that is read takes a byte at least
pub size_of_varint : (bytes : List ℕ) (n : ℕ) (after : List ℕ) → varint_at 9 bytes ≡ Ok (n, after) → length after + 1 ≤ length bytes
size_of_varint bytes n after e = subst (λ (r : Result (ℕ × List ℕ) Reason). Leaves number_size (length bytes) r) e (varint_leaves 9 bytes)
