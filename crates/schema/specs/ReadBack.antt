-- What is written is read back.
use Rattle.std.specs.Prelude.{◌≡◌, ℕ, Ok}
use Rattle.schema.specs.AnyMerge.{merge_any}
use Rattle.schema.specs.AnySpell.{any_text}
use Rattle.schema.specs.AnyValue.{AnyValue}
use Rattle.schema.specs.Merge.{merge}
use Rattle.schema.specs.Shape.{Shape, Value, empty}
use Rattle.schema.specs.Spell.{spell}
use Rattle.schema.specs.Typed.{HasLevels, IsShallow}

-- the spelling of a value is read as the value, wherever it begins, if no AnyValue is too deep for a file
abbrev pub IsReadBack : (s : Shape) → Value s → Type 0
IsReadBack s v = IsShallow s v → (base : ℕ) → merge s (empty s) base (spell s v) ≡ Ok v

-- the payload of an AnyValue is read as the value, wherever it lies, if so many levels are left as the value has
abbrev pub IsAnyReadBack : AnyValue → Type 0
IsAnyReadBack v = (left : ℕ) → HasLevels left v → (at end : ℕ) → merge_any left at end (any_text v) AnyValue.Empty ≡ Ok v
