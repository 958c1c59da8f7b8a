-- The texts with other bytes after them, and the text of the parts with the ending after it.
use Rattle.std.proofs.Common.{◌≡◌, ℕ, List, ◌++◌, length, take, drop, sym, ap, ◌∙◌, arith}
use Rattle.std.proofs.lemmas.List.{take-append-drop, take_at}
use Rattle.parts.specs.Parts.{parts_text}
use Rattle.part_text.specs.Extents.{fronts_len, parts_in}
use Rattle.part_text.specs.declared.extent.Extent.{Extent}
use Rattle.part_text.proofs.Remainders.{parts_front}

-- what is after the texts is not seen by the parts
pub held_parts : (ps : List Extent) (u texts held : List ℕ) → fronts_len ps ≡ length texts → take (length texts) held ≡ texts
    → parts_text (parts_in ps held u) ≡ parts_text (parts_in ps texts u)
held_parts ps u texts held f e =
    let rest : List ℕ = drop (length texts) held in
    ap (λ t. parts_text (parts_in ps t u)) (sym (take-append-drop (length texts) held) ∙ ap (λ x. x ++ rest) e)
    ∙ ap parts_text (parts_front ps texts rest u (omega arith))

pub whole_text : (ps : List Extent) (u texts ending held new : List ℕ) (len : ℕ) → fronts_len ps ≡ length texts → take (length texts) held ≡ texts → drop len held ≡ ending
    → new ≡ parts_text (parts_in ps held u) ++ drop len held → new ≡ parts_text (parts_in ps texts u) ++ ending
whole_text ps u texts ending held new len f e d g =
    g ∙ ap (λ x. x ++ drop len held) (held_parts ps u texts held f e) ∙ ap (λ x. parts_text (parts_in ps texts u) ++ x) d

-- a vector whose elements were all written
pub all_written : (items new result : List ℕ) (n : ℕ) → result ≡ take n (new ++ drop (length new) items) → n ≡ length items → length new ≡ length items → result ≡ new
all_written items new result n e f g = e ∙ take_at new (drop (length new) items) n (g ∙ sym f)
