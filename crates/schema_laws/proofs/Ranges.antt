-- What is read of bytes lies in its range.
use Rattle.std.proofs.Common.{◌≡◌, ℕ, zero, suc, ◌+◌, ◌*◌, ◌-◌, ◌%◌, ◌^◌, ◌<◌, ◌≤◌, Bool, true, false, List, [], ◌∷◌, ◌++◌, length, map, take, drop, refl, sym, ap, subst, ◌∙◌, arith, pow-suc, length-append, inl, inr}
use Rattle.std.specs.Prelude.{ℤ, ◌==◌, not}
use Rattle.std.specs.Int.{w32, w64, cast_signed, cast_unsigned, from_le_bytes}
use Rattle.std.proofs.Math.Nat.{pow-le-pow_right}
use Rattle.std.proofs.lemmas.Bool.{cases_eq, cases_lt}
use Rattle.std.proofs.lemmas.Int.{of_z-to_z, to_z_pos}
use Rattle.std.proofs.Math.Facts.{to_z-neg}
use Rattle.std.proofs.lemmas.List.{take-append-drop}
use Rattle.schema.specs.Field.{Eight, Field, Four, Long, Payload, Varint, bytes_of, greatest_number, wire_type}
use Rattle.schema.specs.Shape.{Flag, Format, I32, I64, U32, U64, number_from}
use Rattle.schema.specs.Merge.{fixed_upto}
use Rattle.schema.specs.Each.{Each}
use Rattle.schema.specs.Texts.{FitsNumber}
use Rattle.schema.specs.Spelling.{SpellsField, SpellsNumber, SpellsNumbers, SpellsPayload, digits}
use Rattle.schema_laws.proofs.Lists.{Octets, octet, each_left, each_right}
use Rattle.schema_laws.proofs.Numbers.{horner}
use Rattle.schema_laws.proofs.OneField.{number_some}

-- ---- varints

-- what so many bytes, and a last one, can be
digits_below : (front : List ℕ) (last m : ℕ) → last < 128 → last < m → digits 0 (front ++ last ∷ []) < 128 ^ length front * m
digits_below [] last m low lt = omega arith
digits_below (b ∷ front) last m low lt =
    let h = horner b (front ++ last ∷ []) in
    let ih = digits_below front last m low lt in
    let p : 128 ^ suc (length front) * m ≡ 128 ^ length front * 128 * m = ap (λ (w : ℕ). w * m) (pow-suc 128 (length front)) in
    omega arith

-- a varint spells a number of 64 bits
pub number_below : (bytes : List ℕ) (n : ℕ) → SpellsNumber bytes n → n < 2 ^ 64
number_below bytes n s =
    let low = s.low in
    let most = s.most in
    let is : n ≡ digits 0 (s.front ++ s.last ∷ []) = s.sum ∙ ap (digits 0) s.is in
    elim (cases_eq (length s.front) 9) [
      | inl e ↦
          let p : 128 ^ length s.front ≡ 128 ^ 9 = ap (λ (k : ℕ). 128 ^ k) e in
          let d = digits_below s.front s.last 2 s.low (s.tenth e) in
          omega arith
      | inr ne ↦
          let p : 128 ^ length s.front ≤ 128 ^ 8 = pow-le-pow_right {n = 128} (omega arith) {i = length s.front} {j = 8} (omega arith) in
          let d = digits_below s.front s.last 128 s.low s.low in
          omega arith
    ]

-- the low 32 bits of a signed number of 32 bits that is written with 64
signed_back : (m : ℕ) → m < 2 ^ 32 → (cast_unsigned w64 (cast_signed w32 m) < 2 ^ 64) × (cast_unsigned w64 (cast_signed w32 m) % 2 ^ 32 ≡ m)
signed_back m lt =
    let P : ℤ → Type 0 = λ z. (cast_unsigned w64 z < 2 ^ 64) × (cast_unsigned w64 z % 2 ^ 32 ≡ m) in
    elim (cases_lt m (2 ^ 31)) [
      | inl low ↦ subst P (sym (to_z_pos w32 m low)) (omega arith, omega arith)
      | inr high ↦
          let k = 2 ^ 32 - suc m in
          let small : k < 2 ^ 31 = omega arith in
          let is : m ≡ 2 ^ 32 - suc k = omega arith in
          subst P (sym (ap (cast_signed w32) is ∙ to_z-neg w32 k small)) (omega arith, omega arith)
    ]

-- a number that is read is one of its format
pub number_fits : (w : Format) (n : ℕ) → n < 2 ^ 64 → FitsNumber w (number_from w n)
number_fits U32 n lt = (omega arith, omega arith)
number_fits U64 n lt = (lt, refl)
number_fits I32 n lt = let b = signed_back (n % 2 ^ 32) (omega arith) in (b.0, ap (cast_signed w32) b.1)
number_fits I64 n lt = let e = of_z-to_z w64 n lt in (subst (λ (m : ℕ). m < 2 ^ 64) (sym e) lt, ap (cast_signed w64) e)
number_fits Flag n lt = flag_fits (n == 0)
  where
    flag_fits : (t : Bool) → FitsNumber Flag (not t)
    flag_fits true = (omega arith, refl)
    flag_fits false = (omega arith, refl)

-- the numbers of a packed payload, of which each has a byte at least
pub numbers_fit : (w : Format) (b ns : List ℕ) → SpellsNumbers b ns → Each (FitsNumber w) (map (number_from w) ns) × (length (map (number_from w) ns) ≤ length b)
numbers_fit w b [] s = (tt, omega arith)
numbers_fit w b (n ∷ ns) s =
    let more = numbers_fit w s.1 ns s.4 in
    let some = number_some s.0 n s.3 in
    ((number_fits w n (number_below s.0 n s.3), more.0), omega (arith, ap length s.2, length-append s.0 s.1, more.1))

-- ---- eight-byte values

-- eight bytes are a number of 64 bits
pub fixed_below : (b : List ℕ) → Octets b → from_le_bytes w64 b < 2 ^ 64
fixed_below b h =
    let h0 = octet b h 0 in let h1 = octet b h 1 in let h2 = octet b h 2 in let h3 = octet b h 3 in
    let h4 = octet b h 4 in let h5 = octet b h 5 in let h6 = octet b h 6 in let h7 = octet b h 7 in omega arith

-- the values of a packed payload, of which each has eight bytes
pub eights_fit : (k : ℕ) (b : List ℕ) → Octets b → Each (λ v. v < 2 ^ 64) (fixed_upto k b) × (length (fixed_upto k b) ≡ k)
unfolding fixed_upto
eights_fit zero b h = (tt, refl)
eights_fit (suc k) b h =
    let both = subst Octets (sym (take-append-drop 8 b)) h in
    let more = eights_fit k (drop 8 b) (each_right (λ n. n < 256) (take 8 b) (drop 8 b) both) in
    ((fixed_below (take 8 b) (each_left (λ n. n < 256) (take 8 b) (drop 8 b) both), more.0), omega (arith, more.1))

-- ---- fields

-- a number of 64 bits, eight bytes, or bytes
abbrev pub PayloadInRange : Payload → Type 0
PayloadInRange (Varint n) = n < 2 ^ 64
PayloadInRange (Eight b) = Octets b × (length b ≡ 8)
PayloadInRange (Long b) = Octets b
PayloadInRange (Four b) = Unit {0}

-- its number is one that a tag can hold, and its payload is of bytes
pub record FieldInRange (f : Field) : Type 0 where
  pub below : f.number ≤ greatest_number
  pub payload_in : PayloadInRange f.payload

-- the least bytes of a field: a tag, and a payload
abbrev pub field_cost : Payload → ℕ
field_cost p = length (bytes_of p) + 2

-- a payload that bytes spell is in its range
payload_in_range : (bytes : List ℕ) (p : Payload) → SpellsPayload bytes p → Octets bytes → PayloadInRange p × (length (bytes_of p) + 1 ≤ length bytes)
payload_in_range bytes (Varint n) s h = (number_below bytes n s, omega (arith, number_some bytes n s))
payload_in_range bytes (Eight b) s h = ((subst Octets s.0 h, s.1), omega (arith, ap length s.0, s.1))
payload_in_range bytes (Long b) s h = (each_right (λ n. n < 256) s.0 b (subst Octets s.1 h), omega (arith, ap length s.1, length-append s.0 b, number_some s.0 (length b) s.2))
payload_in_range bytes (Four b) s h = (tt, omega (arith, ap length s.0, s.1))

-- and so is a field
pub field_in_range : (one : List ℕ) (f : Field) → SpellsField one f → Octets one → FieldInRange f × (field_cost f.payload ≤ length one)
field_in_range one f s h =
    let p = payload_in_range s.payload f.payload s.carries (each_right (λ n. n < 256) s.tag s.payload (subst Octets s.is h)) in
    let some = number_some s.tag (f.number * 8 + wire_type f.payload) s.tagged in
    (record { below = s.below; payload_in = p.0 }, omega (arith, ap length s.is, length-append s.tag s.payload, p.1))
