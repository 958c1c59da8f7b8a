-- The ranges of the leaves of a meaning.
use Rattle.std.specs.Prelude.{◌≡◌, ◌<◌, ◌^◌, ◌⊎◌, true}
use Rattle.std.specs.Str.{is_utf8}
use Rattle.schema.specs.AnyMerge.{any_levels}
use Rattle.schema.specs.AnySpell.{AnyInRange}
use Rattle.schema.specs.AnyValue.{AnyValue}
use Rattle.schema.specs.Shape.{Shape, Number, Fixed, Text, Any, Index, One, Many}
use Rattle.schema.specs.Texts.{FitsNumber}
use Rattle.meaning.specs.Meaning.{AreParts, AreElements}
use Rattle.meaning.specs.Tree.{Tree, any_of, value}

-- The AnyValues of a repeated row. Each is written, also one that is `Empty`, so each has a level of its own.
abbrev pub ElementsInRange : Shape → Tree → Type 0
ElementsInRange (Any depth) t = AreElements (λ e. AnyInRange (any_levels depth) (any_of e)) t
ElementsInRange k t = Unit {0}

-- The leaves of a meaning are such as can be written: a number is one of its format, a text is UTF-8, and so are those of an
-- AnyValue, which has no more levels than its row allows. A key without a value takes no level.
abbrev pub HasRange : Shape → Tree → Type 0
HasRange (Number w) t = FitsNumber w (value (Number w) t)
HasRange Fixed t = value Fixed t < 2 ^ 64
HasRange Text t = is_utf8 (value Text t) ≡ true
HasRange (Any depth) t = (value (Any depth) t ≡ AnyValue.Empty) ⊎ AnyInRange (any_levels depth) (value (Any depth) t)
HasRange (Index T k) t = HasRange k t
HasRange (One n k rest) t = AreParts (HasRange k) (HasRange rest) t
HasRange (Many n k rest) t = AreParts (λ e. AreElements (HasRange k) e × ElementsInRange k e) (HasRange rest) t
HasRange s t = Unit {0}
