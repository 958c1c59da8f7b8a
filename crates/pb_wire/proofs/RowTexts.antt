-- The lengths of fields, and repeated fields element by element.
use Rattle.std.proofs.Common.{rules, ◌≡◌, ℕ, zero, suc, ℤ, ◌+◌, ◌*◌, ◌<◌, ◌≤◌, false, List, [], ◌∷◌, ◌++◌, length, take, get_or, map, refl, sym, ap, ◌∙◌, arith, length-append}
use Rattle.std.specs.Prelude.{◌==◌}
use Rattle.std.specs.List.{flat_map}
use Rattle.std.proofs.lemmas.List.{append-nil}
use Rattle.std.proofs.lemmas.List.Folds.{flat_map-map, length-flat_map-take}
use Rattle.std.proofs.lemmas.Grind.{take_at_read, flat_map-append}
use Rattle.schema.specs.Shape.{Shape, Value, Format, NumberValue, I32}
use Rattle.schema.specs.Texts.{varint, number_to, long_field, bytes_field, numbers_text, items_text}
use Rattle.schema.specs.Spell.{spell, len_onto}
use Rattle.schema_laws.proofs.Onto.{long_len, onto_len}

-- the length of a field of bytes, where theirs has another name
pub long_len_at : (n len : ℕ) (b : List ℕ) → len ≡ length b → length (long_field n b) ≡ length (varint (n * 8 + 2)) + length (varint len) + len
long_len_at n len b e = long_len n b ∙ ap (λ (m : ℕ). length (varint (n * 8 + 2)) + length (varint m) + m) (sym e)

-- the field of no bytes is left out
pub bytes_none : (n : ℕ) (b : List ℕ) → length b ≡ 0 → bytes_field n b ≡ []
unfolding bytes_field
bytes_none n [] e = refl
bytes_none n (x ∷ b) e = absurd (omega (arith, e))

-- so nothing is put for it
pub left_out : (out : List ℕ) (n : ℕ) (b : List ℕ) → length b ≡ 0 → out ≡ out ++ bytes_field n b
left_out out n b e = sym (append-nil out) ∙ ap (λ (t : List ℕ). out ++ t) (sym (bytes_none n b e))

-- any other bytes are written
pub bytes_some : (n : ℕ) (b : List ℕ) → 0 < length b → bytes_field n b ≡ long_field n b
unfolding bytes_field
bytes_some n [] lt = absurd (omega (arith, lt))
bytes_some n (x ∷ b) lt = let t : (suc (length b) == 0) ≡ false = search rules in rw t refl

-- packed numbers that are seen by value
pub numbers_of : {X : Type 0} (w : Format) (value : X → NumberValue w) (xs : List X) → numbers_text w (map value xs) ≡ flat_map (λ x. varint (number_to w (value x))) xs
numbers_of w value xs = flat_map-map (λ v. varint (number_to w v)) value xs

-- the text of the elements up to this one
pub next_text : {X : Type 0} (f : X → List ℕ) (xs : List X) (i : ℕ) (x : X) → i < length xs → x ≡ get_or xs i x → flat_map f (take (i + 1) xs) ≡ flat_map f (take i xs) ++ f x
next_text f xs i x lt e =
    ap (flat_map f) ((take_at_read xs i x lt).1 ∙ ap (λ y. take i xs ++ y ∷ []) (sym e))
    ∙ flat_map-append f (take i xs) (x ∷ []) ∙ ap (λ (t : List ℕ). flat_map f (take i xs) ++ t) (append-nil (f x))

-- its length
pub next_length : {X : Type 0} (f : X → List ℕ) (xs : List X) (i : ℕ) (x : X) → i < length xs → x ≡ get_or xs i x
    → length (flat_map f (take (i + 1) xs)) ≡ length (flat_map f (take i xs)) + length (f x)
next_length f xs i x lt e = ap length (next_text f xs i x lt e) ∙ length-append (flat_map f (take i xs)) (f x)

-- and that it is within the length of all
pub next_within : {X : Type 0} (f : X → List ℕ) (xs : List X) (i : ℕ) (x : X) → i < length xs → x ≡ get_or xs i x
    → length (flat_map f (take i xs)) + length (f x) ≤ length (flat_map f xs)
next_within f xs i x lt e = omega (arith, length-flat_map-take f xs i x lt, ap (λ y. length (f y)) e)

-- elements that are seen by view, changed and spelled
pub items_moved : {X Y : Type 0} (n : ℕ) (inner : Y → List ℕ) (move : Y → Y) (view : X → Y) (xs : List X)
    → items_text n (map inner (map move (map view xs))) ≡ flat_map (λ x. long_field n (inner (move (view x)))) xs
items_moved n inner move view [] = refl
items_moved n inner move view (x ∷ xs) = ap (λ (t : List ℕ). long_field n (inner (move (view x))) ++ t) (items_moved n inner move view xs)

-- packed indexes
pub indexes_moved : (move : ℤ → ℤ) (xs : List ℤ) → numbers_text I32 (map move (map (λ i. i) xs)) ≡ flat_map (λ x. varint (number_to I32 (move x))) xs
indexes_moved move [] = refl
indexes_moved move (x ∷ xs) = ap (λ (t : List ℕ). varint (number_to I32 (move x)) ++ t) (indexes_moved move xs)

-- a message of a repeated row is no longer than the row
pub moved_within : {X : Type 0} (s : Shape) (move : Value s → Value s) (view : X → Value s) (n : ℕ) (xs : List X) (i : ℕ) (x : X) → i < length xs → x ≡ get_or xs i x
    → len_onto s 0 (move (view x)) ≤ length (items_text n (map (spell s) (map move (map view xs))))
moved_within {X} s move view n xs i x lt e =
    let text : X → List ℕ = λ y. long_field n (spell s (move (view y))) in
    omega (arith, next_within text xs i x lt e, long_len n (spell s (move (view x))), onto_len s 0 (move (view x)), ap length (items_moved n (spell s) move view xs))

-- an element that is read by a default is the one at its place
pub read_or : {X : Type 0} (xs : List X) (i : ℕ) (d : X) → i < length xs → get_or xs i d ≡ get_or xs i (get_or xs i d)
read_or [] i d l = absurd (omega arith)
read_or (x ∷ xs) zero d l = refl
read_or (x ∷ xs) (suc i) d l = read_or xs i d (omega arith)
