-- A whole message: its records, and the dictionary with all seven tables. What it means, and the canonical message and
-- bytes of a meaning.
use Rattle.std.specs.Prelude.{ℕ, List, ◌++◌, map}
use Rattle.schema.specs.Shape.{Shape, Value, Table, Mappings, Locations, Functions, Links, Strings, Attributes, Stacks}
pub use Rattle.schema.specs.Messages.{dictionary, entries_in, message}
use Rattle.schema.specs.Texts.{items_text}
use Rattle.schema.specs.Spell.{spell}
use Rattle.meaning.specs.Tree.{Tree, octets_of, tree, value}
use Rattle.meaning.specs.Tables.{Tables, entry, field_of}
use Rattle.meaning.specs.Meaning.{resolve}
use Rattle.meaning.specs.Canonical.{tables_of, renumber, entries, records, record_list}

-- ---- what a message means

-- the entries of a dictionary, as trees
abbrev pub tables_in : Value dictionary → Tables
tables_in d T = map (tree (entry T)) (entries_in d T)

-- the meanings of a message's records
abbrev pub meaning_of : (k : Shape) → Value (message k) → List Tree
meaning_of k x = map (λ r. resolve (tables_in x.1.0) k (tree k r)) x.0

-- ---- the canonical message of a meaning

-- the entries of a table, and a dictionary of all of them
abbrev pub table_values : Tables → (T : Table) → List (Value (entry T))
table_values d T = map (value (entry T)) (d T)

abbrev pub dictionary_value : Tables → Value dictionary
dictionary_value d = (
  table_values d Mappings,
  (
    table_values d Locations,
    (
      table_values d Functions,
      (
        table_values d Links,
        (table_values d Strings, (table_values d Attributes, (table_values d Stacks, tt))),
      ),
    ),
  ),
)

-- the tables of a list of records' meanings
abbrev pub tables_for : Shape → List Tree → Tables
tables_for k ms = tables_of (records k) (record_list ms)

-- the records and entries with their new indexes
abbrev pub canonical_value : (k : Shape) → List Tree → Value (message k)
canonical_value k ms = let v = tables_for k ms in (map (λ m. value k (renumber v k m)) ms, (dictionary_value (entries v), tt))

-- the canonical bytes of a meaning
abbrev pub meaning_text : Shape → List Tree → List ℕ
meaning_text k ms = spell (message k) (canonical_value k ms)

-- ---- its parts

-- The bytes of an entry: a string's own, and of other entries the spelling.
abbrev pub entry_text : Table → Tree → List ℕ
entry_text Strings e = octets_of e
entry_text T e = spell (entry T) (value (entry T) e)

-- a table's entries, each after its tag and length, also an empty one
abbrev pub table_text : Table → List Tree → List ℕ
table_text T es = items_text (field_of T) (map (entry_text T) es)

-- a dictionary with all its tables
abbrev pub dictionary_text : Tables → List ℕ
dictionary_text d =
    table_text Mappings (d Mappings) ++ (table_text Locations (d Locations) ++ (table_text Functions (d Functions)
    ++ (table_text Links (d Links) ++ (table_text Strings (d Strings) ++ (table_text Attributes (d Attributes) ++ table_text Stacks (d Stacks))))))

-- the bytes of a record with its new indexes
abbrev pub record_text : Shape → Tree → List ℕ
record_text k x = spell k (value k x)
