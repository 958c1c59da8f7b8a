-- One record more of a list, with its new indexes.
use Rattle.std.proofs.Common.{◌≡◌, ℕ, zero, suc, ◌+◌, ◌<◌, List, [], ◌∷◌, ◌++◌, length, map, take, get_or, sym, ap, ◌∙◌, arith, append_assoc}
use Rattle.std.specs.List.{flat_map}
use Rattle.std.proofs.lemmas.List.{append-nil}
use Rattle.schema.specs.Prefix.{IsPrefix}
use Rattle.key_tables.proofs.Prefixes.{prefix_itself, prefix_longer, prefix_over}
use Rattle.parts.specs.Parts.{RecordPart}
use Rattle.parts.specs.Sums.{Sums, sums_from}
use Rattle.parts.proofs.Sizes.{sums_append}

module _ {X Y Z : Type 0} (move : Y → Z) (view : X → Y) where
  rows : (parts : Z → List RecordPart) (xs : List X) (i : ℕ) (x : X) → i < length xs → x ≡ get_or xs i x
      → flat_map parts (map move (map view (take (suc i) xs))) ≡ flat_map parts (map move (map view (take i xs))) ++ parts (move (view x))
  rows parts [] i x l e = absurd (omega arith)
  rows parts (y ∷ ys) zero x l e = append-nil (parts (move (view y))) ∙ ap (λ z. parts (move (view z))) (sym e)
  rows parts (y ∷ ys) (suc i) x l e =
      ap (λ ps. parts (move (view y)) ++ ps) (rows parts ys i x (omega arith) e)
      ∙ sym (append_assoc (parts (move (view y))) (flat_map parts (map move (map view (take i ys)))) (parts (move (view x))))

  rows_one : (part : Z → RecordPart) (xs : List X) (i : ℕ) (x : X) → i < length xs → x ≡ get_or xs i x
      → map part (map move (map view (take (suc i) xs))) ≡ map part (map move (map view (take i xs))) ++ part (move (view x)) ∷ []
  rows_one part [] i x l e = absurd (omega arith)
  rows_one part (y ∷ ys) zero x l e = ap (λ z. part (move (view z)) ∷ []) (sym e)
  rows_one part (y ∷ ys) (suc i) x l e = ap (λ ps. part (move (view y)) ∷ ps) (rows_one part ys i x (omega arith) e)

  next : (i : ℕ) → suc i ≡ i + 1
  next i = omega arith

  -- the parts of one record more
  pub record_more : (parts : Z → List RecordPart) (xs : List X) (i : ℕ) (x : X) → i < length xs → x ≡ get_or xs i x
      → flat_map parts (map move (map view (take (i + 1) xs))) ≡ flat_map parts (map move (map view (take i xs))) ++ parts (move (view x))
  record_more parts xs i x l e = ap (λ m. flat_map parts (map move (map view (take m xs)))) (sym (next i)) ∙ rows parts xs i x l e

  pub profile_more : (part : Z → RecordPart) (xs : List X) (i : ℕ) (x : X) → i < length xs → x ≡ get_or xs i x
      → map part (map move (map view (take (i + 1) xs))) ≡ map part (map move (map view (take i xs))) ++ part (move (view x)) ∷ []
  profile_more part xs i x l e = ap (λ m. map part (map move (map view (take m xs)))) (sym (next i)) ∙ rows_one part xs i x l e

-- ---- measured

-- sums that went over some parts, and over more
pub measured_more : (s before after : Sums) (ps qs more : List RecordPart) → more ≡ ps ++ qs → before ≡ sums_from s ps → after ≡ sums_from before qs → after ≡ sums_from s more
measured_more s before after ps qs more e f g = g ∙ ap (λ b. sums_from b qs) f ∙ sym (sums_append ps qs s) ∙ ap (sums_from s) (sym e)

-- ---- put

pub none_put : (old : List RecordPart) → old ≡ old ++ []
none_put old = sym (append-nil old)

-- parts that were put after others
pub put_more : (old before after ps qs more : List RecordPart) → more ≡ ps ++ qs → before ≡ old ++ ps → after ≡ before ++ qs → after ≡ old ++ more
put_more old before after ps qs more e f g = g ∙ ap (λ b. b ++ qs) f ∙ append_assoc old ps qs ∙ ap (λ b. old ++ b) (sym e)

-- after a part that was put what was there still stands in front, also with more
pub front_still : (old begun new ps : List RecordPart) → begun ≡ old ++ ps → IsPrefix begun new → IsPrefix old new
front_still old begun new ps e f = prefix_over old begun new (prefix_longer old old ps begun e (prefix_itself old)) f
