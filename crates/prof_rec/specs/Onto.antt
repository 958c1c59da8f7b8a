-- A message over the lists of another, and one more sample.
use Rattle.std.specs.Prelude.{ℕ, List, [], ◌∷◌, ◌++◌, Result, Ok}
use Rattle.schema.specs.Fault.{Fault}
use Rattle.schema.specs.Merge.{merge}
use Rattle.schema.specs.Messages.{sample}
use Rattle.schema.specs.Shape.{Shape, Value, One, Many, empty}
use Rattle.schema.specs.Decoding.{◌>>=◌}

-- the repeated rows of v come after those of p, and the singular ones are those of v
abbrev pub onto : (s : Shape) → Value s → Value s → Value s
onto (One n k rest) p v = (v.0, onto rest p.1 v.1)
onto (Many n k rest) p v = (p.0 ++ v.0, onto rest p.1 v.1)
onto s p v = v

-- these samples, and after them the one that bytes which begin at this place are, or the first fault of these
abbrev pub read_more : List (Value sample) → ℕ → List ℕ → Result (List (Value sample)) Fault
read_more samples base bytes = merge sample (empty sample) base bytes >>= λ v. Ok (samples ++ v ∷ [])
