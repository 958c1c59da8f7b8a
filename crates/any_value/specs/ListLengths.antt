-- The lengths that lists of values keep of their canonical spelling.
use Rattle.std.specs.Prelude.{◌≡◌, ℕ, ◌<◌, ◌^◌, List, length}

-- the text has so many bytes, and no sum of a few such lengths overflows
abbrev pub KeepsLength : ℕ → List ℕ → Type 0
KeepsLength n text = (n ≡ length text) × (n < 2 ^ 60)
