-- The lengths of the texts of entries, a list for each table.
use Rattle.std.specs.Prelude.{◌≡◌, ◌<◌, ℕ, ℤ, pos, List, length, get_or, cond}
use Rattle.schema.specs.Messages.{entry}
use Rattle.schema.specs.Shape.{Value, Index, Table, Mappings, Locations, Functions, Links, Strings, Attributes, Stacks}
use Rattle.schema.specs.Tables.{same_table}
use Rattle.meaning.specs.Tables.{Tables}
use Rattle.shown.specs.Direct.{meant}
use Rattle.line_text.specs.Counting.{capped}
use Rattle.entry_text.specs.EntryTexts.{entry_text}
use Rattle.entry_text.specs.declared.columns.Columns.{Columns}

-- the length of the text of an entry
abbrev pub value_length : Tables → (T : Table) → Value (entry T) → ℕ
value_length d T v = capped (length (entry_text T (meant d (entry T) v)))

-- the length of the text of the entry that an index names
abbrev pub entry_length : Tables → Table → ℤ → ℕ
entry_length d T i = capped (length (entry_text T (meant d (Index T (entry T)) i)))

-- lengths of the first entries of a table
abbrev pub AreLengths : Tables → Table → List ℕ → Type 0
AreLengths d T lengths = (i : ℕ) → i < length lengths → get_or lengths i 0 ≡ entry_length d T (pos i)

-- the lengths of a table
abbrev pub column : Table → Columns → List ℕ
column Mappings c = c.mappings
column Locations c = c.locations
column Functions c = c.functions
column Links c = c.links
column Strings c = c.strings
column Attributes c = c.attributes
column Stacks c = c.stacks

-- with other lengths for a table
abbrev pub with_column : Table → List ℕ → Columns → Columns
with_column T lengths c = let of : (Table → List ℕ) = (λ U. cond (same_table T U) lengths (column U c)) in record {
  mappings = of Mappings;
  locations = of Locations;
  functions = of Functions;
  links = of Links;
  strings = of Strings;
  attributes = of Attributes;
  stacks = of Stacks;
}

-- lengths of the first entries of each table
abbrev pub AreKept : Tables → Columns → Type 0
AreKept d c = (T : Table) → AreLengths d T (column T c)
