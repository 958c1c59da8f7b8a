-- A value whose spelling is short has its elements at places of 32 bits.
use Rattle.std.proofs.Common.{◌≡◌, ℕ, zero, suc, ◌+◌, ◌^◌, ◌<◌, ◌≤◌, List, [], ◌∷◌, length, map, get_or, sym, arith, subst, length-append}
use Rattle.std.specs.Int.{w64, to_le_bytes}
use Rattle.std.specs.List.{flat_map}
use Rattle.schema.specs.AnySpell.{any_text}
use Rattle.schema.specs.Shape.{Shape, Number, Fixed, Bytes, Text, Any, Index, One, Many, I32, Value}
use Rattle.schema.specs.Texts.{long_field, items_text, numbers_text, fixed_text, varint, number_to}
use Rattle.schema.specs.Spell.{spell, spell_one, spell_many}
use Rattle.schema.specs.Each.{Each}
use Rattle.schema.specs.Fits.{Fits, FitsTogether}
use Rattle.schema_laws.proofs.FixedNumbers.{eight_len}
use Rattle.schema_laws.proofs.Lengths.{bytes_field_le, long_field_le}
use Rattle.schema_laws.proofs.Onto.{long_some, varint_some}
use Rattle.otlp_msg.specs.Within.{HasPlaces}

-- what holds of each element of a list, as it is seen, holds of the one at a place
pub each_at : {A B : Type 0} (P : B → Type 0) (view : A → B) (xs : List A) (i : ℕ) (x : A) → Each P (map view xs) → i < length xs → x ≡ get_or xs i x → P (view x)
each_at P view [] i x h lt is = absurd (omega arith)
each_at {A} P view (y ∷ ys) zero x h lt is = subst (λ (z : A). P (view z)) (sym is) h.0
each_at P view (y ∷ ys) (suc i) x h lt is = each_at P view ys i x h.1 (omega arith) is

-- the bytes of a list of pieces are no fewer than its elements, if each piece has some
pub pieces_count : {A : Type 0} (f : A → List ℕ) → ((x : A) → 0 < length (f x)) → (xs : List A) → length xs ≤ length (flat_map f xs)
pieces_count f h [] = omega arith
pieces_count f h (x ∷ xs) = let here = h x in let more = pieces_count f h xs in omega (arith, length-append (f x) (flat_map f xs))

-- and so are the fields of elements
pub items_count : {A : Type 0} (n : ℕ) (inner : A → List ℕ) (xs : List A) → length xs ≤ length (items_text n (map inner xs))
items_count n inner [] = omega arith
items_count n inner (x ∷ xs) =
    let here = long_some n (inner x) in
    let more = items_count n inner xs in
    let l : length (items_text n (map inner (x ∷ xs))) ≡ length (long_field n (inner x)) + length (items_text n (map inner xs)) = length-append (long_field n (inner x)) (items_text n (map inner xs)) in
    omega arith

-- a repeated row has no fewer bytes than elements
pub many_count : (k : Shape) (n : ℕ) (xs : List (Value k)) → FitsTogether k xs → length xs ≤ length (spell_many k (spell k) n xs)
many_count (Number w) n xs fit = omega (arith, bytes_field_le n (numbers_text w xs), pieces_count (λ v. varint (number_to w v)) (λ v. varint_some (number_to w v)) xs)
many_count (Index T k) n xs fit = omega (arith, bytes_field_le n (numbers_text I32 xs), pieces_count (λ v. varint (number_to I32 v)) (λ v. varint_some (number_to I32 v)) xs)
many_count Fixed n xs fit = omega (arith, bytes_field_le n (fixed_text xs), pieces_count (to_le_bytes w64) (λ v. omega (arith, eight_len v)) xs)
many_count Bytes n xs fit = pieces_count (long_field n) (long_some n) xs
many_count Text n xs fit = pieces_count (long_field n) (long_some n) xs
many_count (Any depth) n xs fit = items_count n any_text xs
many_count k n xs fit = items_count n (spell k) xs

-- a singular row has no fewer bytes than the message in it
one_bytes : (k : Shape) (n : ℕ) (x : Value k) → length (spell k x) ≤ length (spell_one k (spell k) n x)
one_bytes (Number w) n x = omega arith
one_bytes (Index T k) n x = omega arith
one_bytes Fixed n x = omega arith
one_bytes Bytes n x = omega arith
one_bytes Text n x = omega arith
one_bytes (Any depth) n x = omega arith
one_bytes k n x = bytes_field_le n (spell k x)

-- what is asked of an element
abbrev IsPlaced : (k : Shape) → Value k → Type 0
IsPlaced k x = HasPlaces k x × (length (spell k x) < 2 ^ 32)

-- elements that have no indexes of their own
plain : {A : Type 0} (P : A → Type 0) → ((x : A) → P x) → (xs : List A) → Each P xs
plain P h [] = tt
plain P h (x ∷ xs) = (h x, plain P h xs)

-- messages in a short text
items_placed : {A : Type 0} (n : ℕ) (inner : A → List ℕ) (P Q : A → Type 0) → ((x : A) → P x → length (inner x) < 2 ^ 32 → Q x)
    → (xs : List A) → Each P xs → length (items_text n (map inner xs)) < 2 ^ 32 → Each Q xs
items_placed n inner P Q h [] fit short = tt
items_placed n inner P Q h (x ∷ xs) fit short =
    let here = long_field_le n (inner x) in
    let l : length (items_text n (map inner (x ∷ xs))) ≡ length (long_field n (inner x)) + length (items_text n (map inner xs)) = length-append (long_field n (inner x)) (items_text n (map inner xs)) in
    (h x fit.0 (omega arith), items_placed n inner P Q h xs fit.1 (omega arith))

-- the elements of a repeated row
many_placed : (k : Shape) (n : ℕ) (xs : List (Value k)) → Each (λ y. Fits k y × (length (spell k y) < 2 ^ 64)) xs → length (spell_many k (spell k) n xs) < 2 ^ 32
    → ((x : Value k) → Fits k x → length (spell k x) < 2 ^ 32 → HasPlaces k x) → Each (IsPlaced k) xs
many_placed (Number w) n xs fit short h = plain (IsPlaced (Number w)) (λ x. (tt, omega arith)) xs
many_placed (Index T k) n xs fit short h = plain (IsPlaced (Index T k)) (λ x. (tt, omega arith)) xs
many_placed Fixed n xs fit short h = plain (IsPlaced Fixed) (λ x. (tt, omega arith)) xs
many_placed Bytes n xs fit short h = plain (IsPlaced Bytes) (λ x. (tt, omega arith)) xs
many_placed Text n xs fit short h = plain (IsPlaced Text) (λ x. (tt, omega arith)) xs
many_placed (Any depth) n xs fit short h = plain (IsPlaced (Any depth)) (λ x. (tt, omega arith)) xs
many_placed k n xs fit short h = items_placed n (spell k) (λ y. Fits k y × (length (spell k y) < 2 ^ 64)) (IsPlaced k) (λ x f l. (h x f.0 l, l)) xs fit short

-- a value that fits and is spelled with fewer bytes than 2^32 has its elements at places of 32 bits
pub places_from : (s : Shape) (v : Value s) → Fits s v → length (spell s v) < 2 ^ 32 → HasPlaces s v
places_from (One n k rest) v fit short =
    let l : length (spell_one k (spell k) n v.0) + length (spell rest v.1) < 2 ^ 32 = subst (λ (m : ℕ). m < 2 ^ 32) (length-append (spell_one k (spell k) n v.0) (spell rest v.1)) short in
    let here = one_bytes k n v.0 in
    (places_from k v.0 fit.0 (omega arith), places_from rest v.1 fit.2 (omega arith))
places_from (Many n k rest) v fit short =
    let l : length (spell_many k (spell k) n v.0) + length (spell rest v.1) < 2 ^ 32 = subst (λ (m : ℕ). m < 2 ^ 32) (length-append (spell_many k (spell k) n v.0) (spell rest v.1)) short in
    let count = many_count k n v.0 fit.1 in
    (omega arith, many_placed k n v.0 fit.0 (omega arith) (places_from k), places_from rest v.1 fit.2 (omega arith))
places_from s v fit short = tt

-- an element of a list that a loop goes over
pub placed_at : {A : Type 0} (k : Shape) (view : A → Value k) (xs ys : List A) (i : ℕ) (x : A) → ys ≡ xs → Each (λ y. HasPlaces k y × (length (spell k y) < 2 ^ 32)) (map view xs) → i < length ys → x ≡ get_or ys i x → HasPlaces k (view x)
placed_at {A} k view xs ys i x same h lt is = (each_at (λ y. HasPlaces k y × (length (spell k y) < 2 ^ 32)) view ys i x (subst (λ (l : List A). Each (λ y. HasPlaces k y × (length (spell k y) < 2 ^ 32)) (map view l)) (sym same) h) lt is).0
