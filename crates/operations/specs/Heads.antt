-- Heads that can be written.
use Rattle.std.specs.Prelude.{List}
use Rattle.schema.specs.Each.{Each}
use Rattle.schema.specs.Fits.{Fits}
use Rattle.schema.specs.Messages.{resource, scope}
use Rattle.schema.specs.Shape.{Shape, Text, End, One}
use Rattle.meaning.specs.Tree.{Tree, Cons, head_of, tail_of, value, IsOf}
use Rattle.parts.specs.Records.{held}

-- A head as a message of its own: 1 the resource or the scope, 3 schema_url.
abbrev pub head_shape : Shape → Shape
head_shape h = One 1 h (One 3 Text End)

-- the rows of a record's head
abbrev pub head_rows : Tree → Tree
head_rows t = Cons (head_of t) (tail_of (tail_of t))

-- the head of a record can be written
abbrev pub HeadFits : Shape → Tree → Type 0
HeadFits h t = IsOf (head_shape h) (head_rows t) × Fits (head_shape h) (value (head_shape h) (head_rows t))

-- and so can those of each resource record and each scope record of a meaning
abbrev pub HeadsFit : List Tree → Type 0
HeadsFit ms = Each (λ r. HeadFits resource r × Each (HeadFits scope) (held r)) ms
