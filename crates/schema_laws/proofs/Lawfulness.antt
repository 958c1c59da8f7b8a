-- The test of a shape says that it is lawful.
use Rattle.std.proofs.Common.{◌≡◌, ℕ, ◌<◌, ◌^◌, true, false, inl, inr, refl, subst}
use Rattle.std.specs.Prelude.{nat_lt, ◌==◌, ◌&&◌, not}
use Rattle.std.proofs.lemmas.Bool.{eq-eqb, and_parts, ltb-true, not-true, or_left, or_right, both_ways}
use Rattle.schema.specs.Shape.{Shape, End, One, Many, IsMessage}
use Rattle.schema.specs.Fits.{HasRow, Lawful, has_row, is_message, is_lawful}

-- a row passes its test
row_from : (s : Shape) (m : ℕ) → HasRow s m → has_row s m ≡ true
row_from (One n k rest) m h = elim h [ inl e ↦ or_left (m == n) (has_row rest m) (eq-eqb m n e) | inr e ↦ or_right (m == n) (has_row rest m) (row_from rest m e) ]
row_from (Many n k rest) m h = elim h [ inl e ↦ or_left (m == n) (has_row rest m) (eq-eqb m n e) | inr e ↦ or_right (m == n) (has_row rest m) (row_from rest m e) ]
row_from s m h = absurd h

-- what passes the test is a message
pub message_from : (s : Shape) → is_message s ≡ true → IsMessage s
message_from End e = tt
message_from (One n k rest) e = tt
message_from (Many n k rest) e = tt
message_from s e = both_ways false refl e

-- no row has a number that the test finds in none
distinct_from : (s : Shape) (n : ℕ) → not (has_row s n) ≡ true → (m : ℕ) → HasRow s m → m ≡ n → ⊥
distinct_from s n e m h q = both_ways (has_row s n) (not-true (has_row s n) e) (row_from s n (subst (HasRow s) q h))

-- the parts of the test of a row
row_parts : (n : ℕ) (k rest : Shape) → (is_lawful k ≡ true → Lawful k) → (is_lawful rest ≡ true → Lawful rest)
    → (nat_lt 0 n && (nat_lt n (2 ^ 29) && (is_lawful k && (is_lawful rest && (is_message rest && not (has_row rest n)))))) ≡ true
    → (0 < n) × (n < 2 ^ 29) × Lawful k × Lawful rest × IsMessage rest × ((m : ℕ) → HasRow rest m → m ≡ n → ⊥)
row_parts n k rest inner outer e =
    let a = and_parts (nat_lt 0 n) _ e in
    let b = and_parts (nat_lt n (2 ^ 29)) _ a.1 in
    let c = and_parts (is_lawful k) _ b.1 in
    let d = and_parts (is_lawful rest) _ c.1 in
    let f = and_parts (is_message rest) (not (has_row rest n)) d.1 in
    (ltb-true 0 n a.0, ltb-true n (2 ^ 29) b.0, inner c.0, outer d.0, message_from rest f.0, distinct_from rest n f.1)

-- what passes the test is lawful
pub lawful_from : (s : Shape) → is_lawful s ≡ true → Lawful s
lawful_from (One n k rest) e = row_parts n k rest (lawful_from k) (lawful_from rest) e
lawful_from (Many n k rest) e = row_parts n k rest (lawful_from k) (lawful_from rest) e
lawful_from s e = tt
