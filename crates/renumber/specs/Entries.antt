-- Entries of dictionaries: those of an old one by index, and those that stand for the keys of new tables.
use Rattle.std.specs.Prelude.{◌≡◌, ℕ, pos, ◌+◌, ◌<◌, ◌^◌, List, [], ◌∷◌, length, map, Result, Ok, Err}
use Rattle.schema.specs.Fault.{Fault}
use Rattle.schema.specs.Fits.{Fits}
use Rattle.schema.specs.Merge.{merge}
use Rattle.schema.specs.Messages.{dictionary}
use Rattle.schema.specs.Shape.{Shape, Value, Index, Table, Strings, empty}
use Rattle.schema.specs.Spell.{spell}
use Rattle.schema.specs.Tables.{every_table}
use Rattle.meaning.specs.Canonical.{IsWithin, values}
use Rattle.meaning.specs.Meaning.{HasZeros, entry_at, resolve}
use Rattle.meaning.specs.Message.{entry_text, tables_in}
use Rattle.meaning.specs.Renumbering.{Written}
use Rattle.meaning.specs.Tables.{Tables, entry}
use Rattle.meaning.specs.Tree.{Tree, Integer, Octets, tree}
use Rattle.dict_rec.specs.declared.dictionary.Dictionary.{Dictionary}
use Rattle.dict_rec.specs.Views.{dictionary_view}
use Rattle.key_tables.specs.Keys.{Keys, at}

-- an index into a table
abbrev pub index_into : Table → Shape
index_into T = Index T (entry T)

-- ---- new entries

-- what was read, and the empty value of what is not read
abbrev pub read_as : (s : Shape) → Result (Value s) Fault → Value s
read_as s (Ok x) = x
read_as s (Err fault) = empty s

-- the entry of a key: a string is its key, and any other entry is what its key is read as
abbrev pub entry_of : Table → List ℕ → Tree
entry_of Strings key = Octets key
entry_of T key = tree (entry T) (read_as (entry T) (merge (entry T) (empty (entry T)) 0 key))

-- the entries of new tables
abbrev pub new_entries : Keys → Tables
new_entries keys T = map (entry_of T) (at keys T)

-- a key is the canonical text of its entry, so different keys stand for different entries
abbrev pub IsKey : Table → List ℕ → Type 0
IsKey T key = entry_text T (entry_of T key) ≡ key

-- ---- what is renumbered

-- the entries of an old dictionary
abbrev pub old_entries : Dictionary → Tables
old_entries old = tables_in (dictionary_view old)

-- how many entries these tables have, and how many all have
abbrev pub count_in : Tables → List Table → ℕ
count_in d [] = 0
count_in d (T ∷ Ts) = length (d T) + count_in d Ts

abbrev pub entry_count : Tables → ℕ
entry_count d = count_in d every_table

-- a part of a message with this dictionary: each index is in its table, and the part can be written in few bytes
pub record IsPart (s : Shape) (old : Dictionary) (x : Value s) : Type 0 where
  pub within : IsWithin (old_entries old) s (tree s x)
  pub fits : Fits s x
  pub short : length (spell s x) < 2 ^ 60

-- a dictionary whose entries can be renumbered: its tables begin with zero entries, and it is such a part
pub record IsSource (old : Dictionary) : Type 0 where
  pub zeros : HasZeros (old_entries old)
  pub part : IsPart dictionary old (dictionary_view old)

-- The bytes are a key, and its entry is what the old entry at this place becomes. All that the entry names is in the tables
-- already.
pub record IsKeyOf (T : Table) (old : Dictionary) (keys : Keys) (place : ℕ) (bytes : List ℕ) : Type 0 where
  pub key : IsKey T bytes
  pub written : Written (entry T) (values (new_entries keys)) (values (new_entries keys))
      (resolve (old_entries old) (entry T) (entry_at (old_entries old T) (entry T) (Integer (pos place)))) (entry_of T bytes)
