-- Fields: the function against the relation.
use Rattle.std.proofs.Common.{◌≡◌, ℕ, ◌-◌, length-drop, ◌+◌, ◌*◌, ◌/◌, ◌%◌, ◌<◌, ◌≤◌, true, false, cond, List, [], ◌∷◌, ◌++◌, length, take, drop, Result, Ok, Err, refl, sym, ap, subst, ◌∙◌, arith, append_assoc, length-append, inl, inr}
use Rattle.std.specs.Prelude.{nat_lt, ◌==◌, ◌⊎◌, ◌||◌}
use Rattle.std.proofs.lemmas.Bool.{cond_both, cond-true, cond-false, ltb-false, ltb-true, lt-ltb, le-ltb, eqb-true, eqb-false, eq-eqb, ne_eqb, or_cases, or_parts, or_left, or_right, or_from}
use Rattle.std.proofs.lemmas.List.{length-take, take-append-drop, drop_at, drop-drop}
use Rattle.schema.specs.Field.{Eight, Field, Four, Long, Payload, Varint, greatest_number, wire_type}
use Rattle.schema.specs.Fault.{FieldNumber, Reason, Truncated, WireType}
use Rattle.schema.specs.Decoding.{bytes_at, field_at, payload_at, varint_at, ◌>>=◌}
use Rattle.schema.specs.Spelling.{SpellsField, SpellsNumber, SpellsPayload}
use Rattle.schema.specs.FirstFault.{BadField, BadPayload, Tagged, bad_number, bad_payload, bad_size, bad_tag, bad_type, bad_varint, few_of_eight, few_of_four, few_of_size}
use Rattle.schema_laws.proofs.Front.{bytes_again}
use Rattle.schema_laws.proofs.Numbers.{number_read, number_bad, number_found, NumberFound}

-- ---- bytes

-- so many bytes in front, or too few
abbrev BytesFound : ℕ → List ℕ → Result (List ℕ × List ℕ) Reason → Type 0
BytesFound n bytes (Ok x) = (bytes ≡ x.0 ++ x.1) × (length x.0 ≡ n)
BytesFound n bytes (Err r) = (r ≡ Truncated) × (length bytes < n)

-- the function finds them
bytes_found : (n : ℕ) (bytes : List ℕ) → BytesFound n bytes (bytes_at n bytes)
bytes_found n bytes = cond_both (nat_lt (length bytes) n) (Err Truncated) (Ok (take n bytes, drop n bytes)) (BytesFound n bytes)
    (λ e. (refl, ltb-true _ _ e)) (λ e. let l = ltb-false _ _ e in (sym (take-append-drop n bytes), omega (arith, length-take n bytes)))

-- too few bytes are refused
bytes_bad : (n : ℕ) (bytes : List ℕ) → length bytes < n → bytes_at n bytes ≡ Err Truncated
bytes_bad n bytes lt = let t : nat_lt (length bytes) n ≡ true = lt-ltb _ _ lt in rw t refl

-- ---- payloads

-- what reading a payload answers
abbrev PayloadRead : Type 0
PayloadRead = Result (Payload × List ℕ) Reason

-- a varint as a payload
abbrev as_number : Result (ℕ × List ℕ) Reason → PayloadRead
as_number r = r >>= λ n. Ok (Varint n.0, n.1)

-- eight bytes as a payload
abbrev as_eight : Result (List ℕ × List ℕ) Reason → PayloadRead
as_eight r = r >>= λ n. Ok (Eight n.0, n.1)

-- four bytes as a payload
abbrev as_four : Result (List ℕ × List ℕ) Reason → PayloadRead
as_four r = r >>= λ n. Ok (Four n.0, n.1)

-- bytes as a payload
abbrev as_long : Result (List ℕ × List ℕ) Reason → PayloadRead
as_long r = r >>= λ b. Ok (Long b.0, b.1)

-- a length, and so many bytes, as a payload
abbrev as_size : Result (ℕ × List ℕ) Reason → PayloadRead
as_size r = r >>= λ n. as_long (bytes_at n.0 n.1)

-- a payload that is spelled is read
pub payload_read : (x : List ℕ) (l : Payload) (rest : List ℕ) → SpellsPayload x l → payload_at (wire_type l) (x ++ rest) ≡ Ok (l, rest)
unfolding payload_at
payload_read x (Varint n) rest s = ap as_number (number_read x n rest s)
payload_read x (Eight b) rest s = ap (λ (y : List ℕ). as_eight (bytes_at 8 (y ++ rest))) s.0 ∙ ap as_eight (bytes_again 8 b rest s.1)
payload_read x (Four b) rest s = ap (λ (y : List ℕ). as_four (bytes_at 4 (y ++ rest))) s.0 ∙ ap as_four (bytes_again 4 b rest s.1)
payload_read x (Long b) rest s =
    let e : x ++ rest ≡ s.0 ++ (b ++ rest) = ap (λ (y : List ℕ). y ++ rest) s.1 ∙ append_assoc s.0 b rest in
    ap (λ (y : List ℕ). as_size (varint_at 9 y)) e ∙ ap as_size (number_read s.0 (length b) (b ++ rest) s.2) ∙ ap as_long (bytes_again (length b) b rest refl)

-- no wire type that has a payload
abbrev NoKind : ℕ → Type 0
NoKind kind = (kind ≡ 0 → ⊥) × (kind ≡ 1 → ⊥) × (kind ≡ 2 → ⊥) × (kind ≡ 5 → ⊥)

-- a payload that is read is spelled, and one that is refused is bad or has no wire type
abbrev PayloadFound : ℕ → List ℕ → PayloadRead → Type 0
PayloadFound kind bytes (Ok x) = (one : List ℕ) × (bytes ≡ one ++ x.1) × SpellsPayload one x.0 × (kind ≡ wire_type x.0)
PayloadFound kind bytes (Err r) = BadPayload kind bytes r ⊎ ((r ≡ WireType) × NoKind kind)

-- for a varint
found_number : (kind : ℕ) (bytes : List ℕ) (r : Result (ℕ × List ℕ) Reason) → kind ≡ 0 → NumberFound bytes r → PayloadFound kind bytes (as_number r)
found_number kind bytes (Ok x) e s = (s.0, s.1, s.2, e)
found_number kind bytes (Err r) e s = inl (bad_varint r e s)

-- for eight bytes
found_eight : (kind : ℕ) (bytes : List ℕ) (r : Result (List ℕ × List ℕ) Reason) → kind ≡ 1 → BytesFound 8 bytes r → PayloadFound kind bytes (as_eight r)
found_eight kind bytes (Ok x) e s = (x.0, s.0, (refl, s.1), e)
found_eight kind bytes (Err r) e s = inl (subst (BadPayload kind bytes) (sym s.0) (few_of_eight e s.1))

-- for four bytes
found_four : (kind : ℕ) (bytes : List ℕ) (r : Result (List ℕ × List ℕ) Reason) → kind ≡ 5 → BytesFound 4 bytes r → PayloadFound kind bytes (as_four r)
found_four kind bytes (Ok x) e s = (x.0, s.0, (refl, s.1), e)
found_four kind bytes (Err r) e s = inl (subst (BadPayload kind bytes) (sym s.0) (few_of_four e s.1))

-- for bytes after their length
found_long : (kind n : ℕ) (bytes size rest : List ℕ) (r : Result (List ℕ × List ℕ) Reason) → kind ≡ 2 → bytes ≡ size ++ rest → SpellsNumber size n → BytesFound n rest r → PayloadFound kind bytes (as_long r)
found_long kind n bytes size rest (Ok x) e is sp s =
    (size ++ x.0, is ∙ ap (λ (y : List ℕ). size ++ y) s.0 ∙ sym (append_assoc size x.0 x.1), (size, refl, subst (SpellsNumber size) (sym s.1) sp), e)
found_long kind n bytes size rest (Err r) e is sp s = inl (subst (BadPayload kind bytes) (sym s.0) (few_of_size size rest n e is sp s.1))

-- for a length, and so many bytes
found_size : (kind : ℕ) (bytes : List ℕ) (r : Result (ℕ × List ℕ) Reason) → kind ≡ 2 → NumberFound bytes r → PayloadFound kind bytes (as_size r)
found_size kind bytes (Ok x) e s = found_long kind x.0 bytes s.0 x.1 (bytes_at x.0 x.1) e s.1 s.2 (bytes_found x.0 x.1)
found_size kind bytes (Err r) e s = inl (bad_size r e s)

-- the function finds it
payload_found : (kind : ℕ) (bytes : List ℕ) → PayloadFound kind bytes (payload_at kind bytes)
unfolding payload_at
payload_found kind bytes =
    cond_both (kind == 0) _ _ (PayloadFound kind bytes) (λ e. found_number kind bytes (varint_at 9 bytes) (eqb-true _ _ e) (number_found bytes))
    (λ e0. cond_both (kind == 1) _ _ (PayloadFound kind bytes) (λ e. found_eight kind bytes (bytes_at 8 bytes) (eqb-true _ _ e) (bytes_found 8 bytes))
    (λ e1. cond_both (kind == 2) _ _ (PayloadFound kind bytes) (λ e. found_size kind bytes (varint_at 9 bytes) (eqb-true _ _ e) (number_found bytes))
    (λ e2. cond_both (kind == 5) _ _ (PayloadFound kind bytes) (λ e. found_four kind bytes (bytes_at 4 bytes) (eqb-true _ _ e) (bytes_found 4 bytes))
    (λ e5. inr (refl, (eqb-false _ _ e0, eqb-false _ _ e1, eqb-false _ _ e2, eqb-false _ _ e5))))))

-- a bad payload is refused
payload_bad : (kind : ℕ) (bytes : List ℕ) (r : Reason) → BadPayload kind bytes r → payload_at kind bytes ≡ Err r
unfolding payload_at
payload_bad kind bytes _ (bad_varint r e b) = ap (λ (k : ℕ). payload_at k bytes) e ∙ ap as_number (number_bad bytes r b)
payload_bad kind bytes _ (few_of_eight e lt) = ap (λ (k : ℕ). payload_at k bytes) e ∙ ap as_eight (bytes_bad 8 bytes lt)
payload_bad kind bytes _ (bad_size r e b) = ap (λ (k : ℕ). payload_at k bytes) e ∙ ap as_size (number_bad bytes r b)
payload_bad kind bytes _ (few_of_size size rest n e is sp lt) =
    ap (λ (k : ℕ). payload_at k bytes) e ∙ ap (λ (y : List ℕ). as_size (varint_at 9 y)) is ∙ ap as_size (number_read size n rest sp) ∙ ap as_long (bytes_bad n rest lt)
payload_bad kind bytes _ (few_of_four e lt) = ap (λ (k : ℕ). payload_at k bytes) e ∙ ap as_four (bytes_bad 4 bytes lt)

-- and so is a wire type that has none
no_payload : (kind : ℕ) (bytes : List ℕ) → (kind ≡ 3) ⊎ ((kind ≡ 4) ⊎ ((kind ≡ 6) ⊎ (kind ≡ 7))) → payload_at kind bytes ≡ Err WireType
unfolding payload_at
no_payload kind bytes (inl e) = ap (λ (k : ℕ). payload_at k bytes) e
no_payload kind bytes (inr (inl e)) = ap (λ (k : ℕ). payload_at k bytes) e
no_payload kind bytes (inr (inr (inl e))) = ap (λ (k : ℕ). payload_at k bytes) e
no_payload kind bytes (inr (inr (inr e))) = ap (λ (k : ℕ). payload_at k bytes) e

-- ---- fields

-- what reading a field answers
abbrev FieldRead : Type 0
FieldRead = Result (Field × List ℕ) Reason

-- a payload as that of a field with this number
abbrev as_field : ℕ → PayloadRead → FieldRead
as_field n r = r >>= λ p. Ok (record { number = n; payload = p.0 }, p.1)

-- what follows a tag
abbrev after : ℕ → ℕ → List ℕ → FieldRead
after n kind rest = cond ((n == 0) || nat_lt greatest_number n) (Err FieldNumber) (as_field n (payload_at kind rest))

-- a varint as a tag, and what follows it
abbrev as_tag : Result (ℕ × List ℕ) Reason → FieldRead
as_tag r = r >>= λ tag. after (tag.0 / 8) (tag.0 % 8) tag.1

-- a field is a tag, and what follows it
field_is : (bytes : List ℕ) → field_at bytes ≡ as_tag (varint_at 9 bytes)
unfolding field_at
field_is bytes = refl

-- a wire type has three bits
kind_small : (l : Payload) → wire_type l < 8
kind_small (Varint n) = omega arith
kind_small (Eight n) = omega arith
kind_small (Long n) = omega arith
kind_small (Four n) = omega arith

-- a tag that is spelled is read
tag_read : (bytes : List ℕ) (n kind : ℕ) (rest : List ℕ) → Tagged bytes n kind rest → field_at bytes ≡ after n kind rest
tag_read bytes n kind rest t =
    let small = t.small in
    let a : (n * 8 + kind) / 8 ≡ n = omega arith in
    let b : (n * 8 + kind) % 8 ≡ kind = omega arith in
    field_is bytes ∙ ap (λ (y : List ℕ). as_tag (varint_at 9 y)) t.is ∙ ap as_tag (number_read t.tag (n * 8 + kind) rest t.tagged)
    ∙ ap (λ (m : ℕ). after m ((n * 8 + kind) % 8) rest) a ∙ ap (λ (k : ℕ). after n k rest) b

-- a number that a field may have passes the test
legal : (n : ℕ) → 1 ≤ n → n ≤ greatest_number → ((n == 0) || nat_lt greatest_number n) ≡ false
legal n a b = or_from (n == 0) (nat_lt greatest_number n) (ne_eqb n 0 (λ e. absurd (omega arith))) (le-ltb greatest_number n b)

-- and another fails it
illegal : (n : ℕ) → (n ≡ 0) ⊎ (greatest_number < n) → ((n == 0) || nat_lt greatest_number n) ≡ true
illegal n (inl e) = or_left (n == 0) (nat_lt greatest_number n) (eq-eqb n 0 e)
illegal n (inr lt) = or_right (n == 0) (nat_lt greatest_number n) (lt-ltb greatest_number n lt)

-- what passes the test is such a number
legal_from : (n : ℕ) → ((n == 0) || nat_lt greatest_number n) ≡ false → (1 ≤ n) × (n ≤ greatest_number)
legal_from n e =
    let p = or_parts (n == 0) (nat_lt greatest_number n) e in
    let z : n ≡ 0 → ⊥ = eqb-false n 0 p.0 in
    let l : n ≤ greatest_number = ltb-false greatest_number n p.1 in
    (omega arith, l)

-- and what fails it is another
illegal_from : (n : ℕ) → ((n == 0) || nat_lt greatest_number n) ≡ true → (n ≡ 0) ⊎ (greatest_number < n)
illegal_from n e = elim (or_cases (n == 0) (nat_lt greatest_number n) e) [ inl z ↦ inl (eqb-true n 0 z) | inr l ↦ inr (ltb-true greatest_number n l) ]

-- what is spelled is read
pub field_read : (x : List ℕ) (f : Field) (rest : List ℕ) → SpellsField x f → field_at (x ++ rest) ≡ Ok (f, rest)
field_read x f rest s =
    let t : Tagged (x ++ rest) f.number (wire_type f.payload) (s.payload ++ rest) = record {
      tag = s.tag;
      is = ap (λ (y : List ℕ). y ++ rest) s.is ∙ append_assoc s.tag s.payload rest;
      tagged = s.tagged;
      small = kind_small f.payload;
    } in
    tag_read (x ++ rest) f.number (wire_type f.payload) (s.payload ++ rest) t
    ∙ cond-false ((f.number == 0) || nat_lt greatest_number f.number) (Err FieldNumber) (as_field f.number (payload_at (wire_type f.payload) (s.payload ++ rest))) (legal f.number s.above s.below)
    ∙ ap (as_field f.number) (payload_read s.payload f.payload rest s.carries)

-- a field that is read is spelled, and one that is refused is bad
abbrev pub FieldFound : List ℕ → FieldRead → Type 0
FieldFound bytes (Ok x) = (one : List ℕ) × (bytes ≡ one ++ x.1) × SpellsField one x.0
FieldFound bytes (Err r) = BadField bytes r

-- a wire type that has no payload
other_kind : (kind : ℕ) → kind < 8 → NoKind kind → (kind ≡ 3) ⊎ ((kind ≡ 4) ⊎ ((kind ≡ 6) ⊎ (kind ≡ 7)))
other_kind kind lt other = grind (arith, other.0, other.1, other.2, other.3)

-- after a tag with a right number
found_payload : (bytes : List ℕ) (n kind : ℕ) (rest : List ℕ) → Tagged bytes n kind rest → 1 ≤ n → n ≤ greatest_number → (r : PayloadRead) → PayloadFound kind rest r → FieldFound bytes (as_field n r)
found_payload bytes n kind rest t a b (Ok x) s = (
  t.tag ++ s.0,
  t.is ∙ ap (λ (y : List ℕ). t.tag ++ y) s.1 ∙ sym (append_assoc t.tag s.0 x.1),
  record { tag = t.tag; payload = s.0; is = refl; tagged = subst (λ (k : ℕ). SpellsNumber t.tag (n * 8 + k)) s.3 t.tagged; carries = s.2; above = a; below = b },
)
found_payload bytes n kind rest t a b (Err r) (inl s) = bad_payload r n kind rest t a b s
found_payload bytes n kind rest t a b (Err r) (inr s) = subst (BadField bytes) (sym s.0) (bad_type n kind rest t a b (other_kind kind t.small s.1))

-- after a tag
found_after : (bytes : List ℕ) (n kind : ℕ) (rest : List ℕ) → Tagged bytes n kind rest → FieldFound bytes (after n kind rest)
found_after bytes n kind rest t = cond_both ((n == 0) || nat_lt greatest_number n) (Err FieldNumber) (as_field n (payload_at kind rest)) (FieldFound bytes)
    (λ e. bad_number n kind rest t (illegal_from n e))
    (λ e. let l = legal_from n e in found_payload bytes n kind rest t l.0 l.1 (payload_at kind rest) (payload_found kind rest))

-- with its tag
found_tag : (bytes : List ℕ) → 0 < length bytes → (r : Result (ℕ × List ℕ) Reason) → NumberFound bytes r → FieldFound bytes (as_tag r)
found_tag bytes lt (Ok x) s = found_after bytes (x.0 / 8) (x.0 % 8) x.1 (record {
  tag = s.0;
  is = s.1;
  tagged = subst (SpellsNumber s.0) (omega arith) s.2;
  small = omega arith;
})
found_tag bytes lt (Err r) s = bad_tag r lt s

-- what is read is spelled, and what is refused is bad
pub field_found : (bytes : List ℕ) → 0 < length bytes → FieldFound bytes (field_at bytes)
field_found bytes lt = subst (FieldFound bytes) (sym (field_is bytes)) (found_tag bytes lt (varint_at 9 bytes) (number_found bytes))

-- what is bad is refused
pub field_bad : (bytes : List ℕ) (r : Reason) → BadField bytes r → field_at bytes ≡ Err r
field_bad bytes _ (bad_tag r lt b) = field_is bytes ∙ ap as_tag (number_bad bytes r b)
field_bad bytes _ (bad_number n kind rest t z) = tag_read bytes n kind rest t ∙ cond-true ((n == 0) || nat_lt greatest_number n) (Err FieldNumber) (as_field n (payload_at kind rest)) (illegal n z)
field_bad bytes _ (bad_type n kind rest t a b z) = tag_read bytes n kind rest t ∙ cond-false ((n == 0) || nat_lt greatest_number n) (Err FieldNumber) (as_field n (payload_at kind rest)) (legal n a b) ∙ ap (as_field n) (no_payload kind rest z)
field_bad bytes _ (bad_payload r n kind rest t a b z) = tag_read bytes n kind rest t ∙ cond-false ((n == 0) || nat_lt greatest_number n) (Err FieldNumber) (as_field n (payload_at kind rest)) (legal n a b) ∙ ap (as_field n) (payload_bad kind rest r z)

-- a varint has a byte at least
pub number_some : (x : List ℕ) (n : ℕ) → SpellsNumber x n → 0 < length x
number_some x n s = omega (arith, ap length s.is, length-append s.front (s.last ∷ []))

-- a field has a byte at least
pub field_some : (x : List ℕ) (f : Field) → SpellsField x f → 0 < length x
field_some x f s = omega (arith, number_some s.tag _ s.tagged, ap length s.is, length-append s.tag s.payload)

-- a bad field has a byte at least
pub bad_some : (bytes : List ℕ) (r : Reason) → BadField bytes r → 0 < length bytes
bad_some bytes _ (bad_tag r lt b) = lt
bad_some bytes _ (bad_number n kind rest t z) = omega (arith, number_some t.tag _ t.tagged, ap length t.is, length-append t.tag rest)
bad_some bytes _ (bad_type n kind rest t a b z) = omega (arith, number_some t.tag _ t.tagged, ap length t.is, length-append t.tag rest)
bad_some bytes _ (bad_payload r n kind rest t a b z) = omega (arith, number_some t.tag _ t.tagged, ap length t.is, length-append t.tag rest)

-- no bytes are no field
nothing : (f : Field) (rest : List ℕ) → field_at [] ≡ Ok (f, rest) → ⊥
unfolding field_at varint_at
nothing f rest e = absurd cc

-- a field that is read is spelled
pub one_found : (bytes : List ℕ) (f : Field) (rest : List ℕ) → field_at bytes ≡ Ok (f, rest) → (one : List ℕ) × (bytes ≡ one ++ rest) × SpellsField one f
one_found [] f rest e = absurd (nothing f rest e)
one_found (b ∷ bytes) f rest e = subst (FieldFound (b ∷ bytes)) e (field_found (b ∷ bytes) (omega arith))

-- and one that is refused is bad
pub one_bad : (bytes : List ℕ) (r : Reason) → 0 < length bytes → field_at bytes ≡ Err r → BadField bytes r
one_bad bytes r lt e = subst (FieldFound bytes) e (field_found bytes lt)

-- ---- places in bytes

-- what follows a field is the end of the bytes
pub rest_is : (bytes : List ℕ) (f : Field) (rest : List ℕ) → field_at bytes ≡ Ok (f, rest) → drop (length bytes - length rest) bytes ≡ rest
rest_is bytes f rest e =
    let s = one_found bytes f rest e in
    ap (drop (length bytes - length rest)) s.1 ∙ drop_at s.0 rest (length bytes - length rest) (omega (arith, ap length s.1, length-append s.0 rest))

-- the same where the field is read at a place of a body
pub rest_of_body : (body : List ℕ) (at : ℕ) (f : Field) (rest : List ℕ) → at ≤ length body → field_at (drop at body) ≡ Ok (f, rest) → drop (length body - length rest) body ≡ rest
rest_of_body body at f rest le e =
    let s = one_found (drop at body) f rest e in
    let short : length rest ≤ length (drop at body) = omega (arith, ap length s.1, length-append s.0 rest) in
    let n : length body - length rest ≡ at + (length (drop at body) - length rest) = omega (arith, length-drop at body) in
    ap (λ (k : ℕ). drop k body) n ∙ sym (drop-drop (length (drop at body) - length rest) at body) ∙ rest_is (drop at body) f rest e
