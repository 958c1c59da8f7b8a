-- The spelling of a new dictionary.
use Rattle.std.proofs.Common.{◌≡◌, length, sym, ap}
use Rattle.schema.specs.Each.{Each}
use Rattle.schema.specs.Shape.{Table, Mappings, Locations, Functions, Links, Strings, Attributes, Stacks}
use Rattle.schema.specs.Tables.{field_of}
use Rattle.schema.specs.Texts.{items_text}
use Rattle.meaning.specs.Message.{table_text, dictionary_text}
use Rattle.key_tables.specs.Keys.{Keys, at, keys_text}
use Rattle.key_tables.proofs.Spelling.{text_by_table}
use Rattle.renumber.specs.Entries.{IsKey, new_entries}
use Rattle.renumber.proofs.Keys.{key_texts}

-- the keys of a table, each after its tag and length, are its text
table_is : (keys : Keys) → ((T : Table) → Each (IsKey T) (at keys T)) → (T : Table) → items_text (field_of T) (at keys T) ≡ table_text T (new_entries keys T)
table_is keys h T = ap (items_text (field_of T)) (sym (key_texts T (at keys T) (h T)))

-- and those of all tables are the dictionary's
pub tables_spelled : (keys : Keys) → length keys ≡ 7 → ((T : Table) → Each (IsKey T) (at keys T)) → keys_text keys ≡ dictionary_text (new_entries keys)
tables_spelled keys seven h =
    let all = text_by_table keys seven in
    let a = table_is keys h Mappings in
    let b = table_is keys h Locations in
    let c = table_is keys h Functions in
    let d = table_is keys h Links in
    let f = table_is keys h Strings in
    let g = table_is keys h Attributes in
    let i = table_is keys h Stacks in
    cc
