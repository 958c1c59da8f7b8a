-- Pieces that are short enough that what is read of them can be written.
use Rattle.std.specs.Prelude.{◌^◌, ◌<◌, List, length}
use Rattle.schema.specs.Each.{Each}
use Rattle.schema.specs.Parts.{Part, joined}

abbrev pub IsShort : List Part → Type 0
IsShort parts = Each (λ b. b < 256) (joined parts) × (length (joined parts) < 2 ^ 40)
