-- Texts that were put at the end of a run.
use Rattle.std.specs.Prelude.{◌≡◌, ℕ, List, ◌++◌, length}

-- this text was put at the end of a run, which became this one, and this is its length
pub record IsPut (old text new : List ℕ) (len : ℕ) : Type 0 where
  pub is : new ≡ old ++ text
  pub count : len ≡ length text
