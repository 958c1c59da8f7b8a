-- A length of one byte, which is put once the text after it is known.
use Rattle.std.proofs.Common.{◌≡◌, ◌+◌, ◌*◌, ◌-◌, ◌<◌, ℕ, List, [], ◌∷◌, ◌++◌, length, refl, sym, ap, ◌∙◌, arith, append_assoc, length-append}
use Rattle.std.proofs.Math.Seq.{set-append_seam}
use Rattle.std.specs.List.{slice_set}
use Rattle.schema.specs.Texts.{varint, long_field}
use Rattle.schema_laws.proofs.Onto.{long_onto, varint_small}

-- the byte after these is put in place of another
put_after : (b text : List ℕ) (old new at : ℕ) → at ≡ length b → slice_set ((b ++ old ∷ []) ++ text) at new ≡ (b ++ new ∷ []) ++ text
put_after b text old new at e =
    ap (λ (t : List ℕ). slice_set t at new) (append_assoc b (old ∷ []) text)
    ∙ ap (λ (n : ℕ). slice_set (b ++ old ∷ text) n new) e
    ∙ set-append_seam b old text new
    ∙ sym (append_assoc b (new ∷ []) text)

-- what stands in front of the text is a byte longer
pub one_more : (b all : List ℕ) → all ≡ b ++ varint 0 → length all ≡ length b + 1
one_more b all e = omega (arith, ap length e, length-append b (varint 0), ap length (varint_small 0 (omega arith)))

-- a field of a short text: its length is put in place of 0
pub short_field : (out head all text : List ℕ) (number at len : ℕ) → head ≡ (out ++ varint (number * 8 + 2)) ++ varint 0 → all ≡ head ++ text → at + 1 ≡ length head → len ≡ length text → len < 128
    → slice_set all at len ≡ out ++ long_field number text
short_field out head all text number at len h a place l short =
    let b = out ++ varint (number * 8 + 2) in
    let first : head ≡ b ++ 0 ∷ [] = h ∙ ap (λ (t : List ℕ). b ++ t) (varint_small 0 (omega arith)) in
    ap (λ (t : List ℕ). slice_set t at len) (a ∙ ap (λ (t : List ℕ). t ++ text) first)
    ∙ put_after b text 0 len at (omega (arith, place, one_more b head h))
    ∙ ap (λ (t : List ℕ). (b ++ t) ++ text) (sym (varint_small len short))
    ∙ long_onto out number len text l
