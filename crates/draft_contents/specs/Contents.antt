-- What a draft holds.
use Rattle.std.specs.Prelude.{◌≡◌, ℕ, ◌<◌, ◌^◌, List, ◌++◌, length}
use Rattle.schema.specs.Each.{Each}
use Rattle.schema.specs.Messages.{resource_profiles}
use Rattle.schema.specs.Shape.{Table}
use Rattle.schema.specs.Texts.{long_field}
use Rattle.meaning.specs.Renumbering.{Drafted}
use Rattle.meaning.specs.Tree.{Tree}
use Rattle.key_tables.specs.Keys.{Keys, at, keys_text}
use Rattle.parts.specs.Parts.{RecordPart, parts_text}
use Rattle.parts.specs.Records.{record_parts}
use Rattle.renumber.specs.Entries.{IsKey, new_entries}

-- the keys of its tables, and the parts of its resource records
pub record Contents : Type 0 where
  pub keys : Keys
  pub parts : List RecordPart

abbrev pub contents : Keys → List RecordPart → Contents
contents keys parts = record { keys = keys; parts = parts }

-- both as the bytes of a message
abbrev pub whole_text : Contents → List ℕ
whole_text d = parts_text d.parts ++ long_field 2 (keys_text d.keys)

-- Seven tables hold the new entries of a meaning, whose records become these. Each key is the text of its entry, and the tables
-- are short.
pub record AreTablesOf (keys : Keys) (ms new_records : List Tree) : Type 0 where
  pub seven : length keys ≡ 7
  pub drafted : Drafted resource_profiles (new_entries keys) ms new_records
  pub texts : (T : Table) → Each (IsKey T) (at keys T)
  pub few : (T : Table) → length (at keys T) < 2 ^ 31

-- the tables are those of a meaning, and the parts those of its new records
pub record IsDraft (d : Contents) (ms : List Tree) : Type 0 where
  pub new_records : List Tree
  pub tables : AreTablesOf d.keys ms new_records
  pub spelled : d.parts ≡ record_parts new_records
