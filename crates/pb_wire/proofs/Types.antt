-- What a program's types say of the values that it writes.
use Rattle.std.proofs.Common.{◌≡◌, ℕ, ℤ, ◌+◌, ◌<◌, List, [], ◌∷◌, ◌++◌, length, take, get_or, map, refl, sym, ap, ◌∙◌, arith, subst, length-append}
use Rattle.std.proofs.lemmas.Grind.{take_at_read}
use Rattle.schema.specs.Each.{Each}
use Rattle.schema.specs.Shape.{Format, I32, NumberValue, Shape, Value}
use Rattle.schema.specs.Spell.{len_onto, spell, spell_onto}
use Rattle.schema.specs.Texts.{FitsNumber, bytes_field, numbers_text, number_to, varint}
use Rattle.schema_laws.proofs.Lists.{each_append}
use Rattle.schema_laws.proofs.Onto.{onto, onto_len, varint_some}
use Rattle.pb_wire.proofs.RowTexts.{bytes_none}

-- each element up to the next one
pub each_next : {X : Type 0} (P : X → Type 0) (xs : List X) (i : ℕ) (x : X) → i < length xs → x ≡ get_or xs i x → Each P (take i xs) → P x → Each P (take (i + 1) xs)
each_next P xs i x lt is h p =
    subst (Each P) (sym ((take_at_read xs i x lt).1 ∙ ap (λ y. take i xs ++ y ∷ []) (sym is))) (each_append P (take i xs) (x ∷ []) h (p, tt))

-- elements that are seen by a view
pub each_seen : {X Y : Type 0} (P : Y → Type 0) (view : X → Y) (xs : List X) → Each (λ x. P (view x)) xs → Each P (map view xs)
each_seen P view [] h = tt
each_seen P view (x ∷ xs) h = (h.0, each_seen P view xs h.1)

-- ---- rows that are left out

-- packed numbers that take no bytes are none
pub none_fit : {X : Type 0} (w : Format) (value : X → NumberValue w) (xs : List X) → length (numbers_text w (map value xs)) ≡ 0 → Each (FitsNumber w) (map value xs)
none_fit w value [] e = tt
none_fit w value (x ∷ xs) e = absurd (omega (arith, e, length-append (varint (number_to w (value x))) (numbers_text w (map value xs)), varint_some (number_to w (value x))))

-- nor are indexes, whatever becomes of them
pub no_indexes : (move : ℤ → ℤ) (xs : List ℤ) → length (numbers_text I32 (map move (map (λ i. i) xs))) ≡ 0 → Each (FitsNumber I32) (map (λ i. i) xs)
no_indexes move [] e = tt
no_indexes move (x ∷ xs) e =
    absurd (omega (arith, e, length-append (varint (number_to I32 (move x))) (numbers_text I32 (map move (map (λ i. i) xs))), varint_some (number_to I32 (move x))))

-- nor is anything put for a message that takes no bytes, also where its rows are asked
pub none_put : (s : Shape) (out new : List ℕ) (n : ℕ) (v : Value s) → len_onto s 0 v ≡ 0 → new ≡ spell_onto s out v → new ≡ out ++ bytes_field n (spell s v)
none_put s out new n v none is =
    let empty : length (spell s v) ≡ 0 = omega (arith, none, onto_len s 0 v) in
    let same : spell s v ≡ bytes_field n (spell s v) = no_bytes (spell s v) empty ∙ sym (bytes_none n (spell s v) empty) in
    is ∙ onto s out v ∙ ap (λ (t : List ℕ). out ++ t) same
  where
    no_bytes : (b : List ℕ) → length b ≡ 0 → b ≡ []
    no_bytes [] e = refl
    no_bytes (x ∷ b) e = absurd (omega (arith, e))
