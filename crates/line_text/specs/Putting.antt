-- What it is to put texts somewhere, one after the other.
use Rattle.std.specs.Prelude.{ℕ, List, [], ◌++◌}

-- a relation between a state, a text that is put, and the state after: to put nothing changes nothing, and to put two texts is to
-- put the one that they are together
pub record ArePuts {A : Type 0} (puts : A → List ℕ → A → Type 0) : Type 0 where
  pub none : (a : A) → puts a [] a
  pub both : (a b c : A) (x y : List ℕ) → puts a x b → puts b y c → puts a (x ++ y) c
