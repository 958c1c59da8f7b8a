-- A dictionary, and the entries that indexes name.
use Rattle.std.specs.Prelude.{Option, Some, None}
use Rattle.schema.specs.Messages.{dictionary, entry}
use Rattle.schema.specs.Shape.{Value, Table, empty}

abbrev pub DictionaryValue : Type 0
DictionaryValue = Value dictionary

-- the value of an entry that was found, or of the empty entry
abbrev pub or_empty : {E : Type 0} → (T : Table) → (E → Value (entry T)) → Option E → Value (entry T)
or_empty T view None = empty (entry T)
or_empty T view (Some e) = view e
