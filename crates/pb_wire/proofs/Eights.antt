-- The eight-byte numbers of a packed payload, one after the other.
use Rattle.std.proofs.Common.{◌≡◌, ℕ, ◌+◌, ◌%◌, ◌<◌, true, List, [], ◌∷◌, ◌++◌, length, take, drop, Ok, refl, sym, ap, ◌∙◌, arith, append_assoc, length-append}
use Rattle.std.specs.Prelude.{◌==◌}
use Rattle.std.specs.Int.{w64, from_le_bytes}
use Rattle.std.proofs.lemmas.Bool.{eq-eqb}
use Rattle.std.proofs.lemmas.List.{take-append-drop}
use Rattle.schema.specs.Merge.{packed_fixed, more_packed_fixed}
use Rattle.schema_laws.proofs.FixedNumbers.{fixed_front}
use Rattle.schema_laws.proofs.Rows.{fixed_nothing}

-- fewer than eight bytes are no number
pub fixed_none : (bytes : List ℕ) → length bytes < 8 → packed_fixed bytes ≡ []
fixed_none bytes few = fixed_nothing bytes (omega arith)

-- the numbers after those so far, one step on
pub eight_goes_on : (slot added rest front after whole : List ℕ) → front ≡ take 8 rest → after ≡ drop 8 rest → length after + 8 ≡ length rest → added ≡ slot ++ from_le_bytes w64 front ∷ []
    → slot ++ packed_fixed rest ≡ whole → added ++ packed_fixed after ≡ whole
eight_goes_on slot added rest front after whole f g n a h =
    let e : rest ≡ front ++ after = sym (take-append-drop 8 rest) ∙ ap (λ (x : List ℕ). x ++ drop 8 rest) (sym f) ∙ ap (λ (x : List ℕ). front ++ x) (sym g) in
    let eight : length front ≡ 8 = omega (arith, ap length e, length-append front after) in
    ap (λ (xs : List ℕ). xs ++ packed_fixed after) a
    ∙ append_assoc slot (from_le_bytes w64 front ∷ []) (packed_fixed after)
    ∙ ap (λ (xs : List ℕ). slot ++ xs) (sym (fixed_front front after eight) ∙ sym (ap packed_fixed e))
    ∙ h

-- a payload of a right length is taken whole
pub right_length : (at : ℕ) (b vs new : List ℕ) → length b % 8 ≡ 0 → new ≡ vs ++ packed_fixed b → more_packed_fixed at b vs ≡ Ok new
right_length at b vs new h e = let t : (length b % 8 == 0) ≡ true = eq-eqb _ _ h in rw (t, e) refl
