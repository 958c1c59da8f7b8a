-- Bytes that stay in front while more are put after them.
use Rattle.std.proofs.Common.{◌≡◌, ℕ, List, ◌++◌, length, take, drop, sym, ap, ◌∙◌, arith}
use Rattle.std.proofs.Math.Seq.{take-length}
use Rattle.std.proofs.lemmas.List.{length-take, take-append-le, take-append-drop}

-- they stay where nothing is put
pub same : (old : List ℕ) → take (length old) old ≡ old
same old = take-length old

-- and where one more row is put
pub stays : (old middle row : List ℕ) → take (length old) middle ≡ old → take (length old) (middle ++ row) ≡ old
stays old middle row e = take-append-le (length old) middle row (omega (arith, length-take (length old) middle, ap length e)) ∙ e

-- what stays in front is in front
pub split : (old new : List ℕ) → take (length old) new ≡ old → new ≡ old ++ drop (length old) new
split old new e = sym (take-append-drop (length old) new) ∙ ap (λ (t : List ℕ). t ++ drop (length old) new) e

-- for a function that puts one thing after the other
pub ruleset growing = (same, stays, split)
