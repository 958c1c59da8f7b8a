-- Lengths that are counted up to a greatest one.
use Rattle.std.specs.Prelude.{◌≡◌, ◌+◌, ◌-◌, ◌^◌, ℕ, List, length, min}
use Rattle.std.proofs.Common.{arith, length-append}
use Rattle.line_text.specs.Putting.{ArePuts}

-- a length, or the greatest one where it is longer
abbrev pub capped : ℕ → ℕ
capped length = min length (2 ^ 128 - 1)

-- a text is counted from one number to another
abbrev pub Counts : ℕ → List ℕ → ℕ → Type 0
Counts old text new = capped new ≡ capped (old + length text)

-- to count a text is to put it
pub counts_are_puts : ArePuts (λ (old : ℕ × Unit {0}) (text : List ℕ) (new : ℕ × Unit {0}). Counts old.0 text new.0)
counts_are_puts = record {
  none = λ a. omega arith;
  both = λ a b c x y p q. omega (arith, p, q, length-append x y);
}
