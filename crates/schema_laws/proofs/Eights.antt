-- Packed eight-byte values: the function against the relation.
use Rattle.std.proofs.Common.{◌≡◌, ℕ, zero, suc, ◌*◌, ◌/◌, ◌%◌, List, [], ◌∷◌, length, map, take, drop, refl, sym, ap, ◌∙◌, arith, length-drop}
use Rattle.std.specs.Int.{w64, from_le_bytes}
use Rattle.std.proofs.lemmas.List.{length-take, take-append-drop, nil_from_length}
use Rattle.schema.specs.Merge.{fixed_upto, packed_fixed}
use Rattle.schema.specs.Spelling.{SpellsEights}
use Rattle.schema_laws.proofs.Rows.{fixed_nothing}
use Rattle.schema_laws.proofs.FixedNumbers.{fixed_front}

-- one value more
fixed_more : (k : ℕ) (b : List ℕ) → fixed_upto (suc k) b ≡ from_le_bytes w64 (take 8 b) ∷ fixed_upto k (drop 8 b)
unfolding fixed_upto
fixed_more k b = refl

-- and none
fixed_over : (b : List ℕ) → fixed_upto 0 b ≡ []
unfolding fixed_upto
fixed_over b = refl

-- the bytes are pieces of eight bytes, and the values are theirs
abbrev pub Pieces : List ℕ → List ℕ → Type 0
Pieces b vs = (bs : List (List ℕ)) × SpellsEights b bs × (vs ≡ map (from_le_bytes w64) bs)

-- so many values are so many pieces
eights_upto : (k : ℕ) (b : List ℕ) → length b ≡ 8 * k → Pieces b (fixed_upto k b)
eights_upto zero b e = ([], nil_from_length b (omega arith), fixed_over b)
eights_upto (suc k) b e =
    let r = eights_upto k (drop 8 b) (omega (arith, length-drop 8 b)) in
    (take 8 b ∷ r.0, (drop 8 b, sym (take-append-drop 8 b), omega (arith, length-take 8 b), r.1), fixed_more k b ∙ ap (λ (vs : List ℕ). from_le_bytes w64 (take 8 b) ∷ vs) r.2)

-- bytes whose length is a multiple of 8 are pieces
pub eights_right : (b : List ℕ) → length b % 8 ≡ 0 → Pieces b (packed_fixed b)
eights_right b e = let n = length b in eights_upto (length b / 8) b (omega arith)

-- and their values are read
pub eights_read : (b : List ℕ) (bs : List (List ℕ)) → SpellsEights b bs → packed_fixed b ≡ map (from_le_bytes w64) bs
eights_read b [] s = ap packed_fixed s ∙ fixed_nothing [] refl
eights_read b (x ∷ bs) s =
    ap packed_fixed s.1 ∙ fixed_front x s.0 s.2 ∙ ap (λ (vs : List ℕ). from_le_bytes w64 x ∷ vs) (eights_read s.0 bs s.3)
