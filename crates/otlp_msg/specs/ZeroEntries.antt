-- The first entries of the tables, of which each is to be the zero value: every field holds its default, and no index is
-- followed. (opentelemetry-proto, `profiles/v1development/profiles.proto`, the comment on `ProfilesDictionary`.)
use Rattle.std.specs.Prelude.{◌≡◌, List, [], ◌∷◌, Bool, true, Option, Some, None, if◌then◌else◌}
use Rattle.schema.specs.Messages.{dictionary, entries_in, entry}
use Rattle.schema.specs.Shape.{Shape, Value, empty}
use Rattle.meaning.specs.Meaning.{blank}
use Rattle.meaning.specs.Tree.{tree, same}
use Rattle.pb_wire.specs.TableKinds.{table_of}
use Rattle.pb_wire.specs.declared.table_kind.TableKind.{TableKind}
use Rattle.pb_wire.specs.declared.table_kind.TableKind.TheVariants.{Mapping, Location, Function, Link, String, Attribute, Stack}

-- the first entry, if there is one, is the empty one
abbrev pub BeginsWithZero : (s : Shape) → List (Value s) → Type 0
BeginsWithZero s [] = Unit {0}
BeginsWithZero s (e ∷ es) = e ≡ empty s

-- the same as a test
abbrev pub begins_with_zero : (s : Shape) → List (Value s) → Bool
begins_with_zero s [] = true
begins_with_zero s (e ∷ es) = same (tree s e) (blank s)

-- so of a table of a dictionary
abbrev pub HasZeroEntry : Value dictionary → TableKind → Type 0
HasZeroEntry d table = BeginsWithZero (entry (table_of table)) (entries_in d (table_of table))

abbrev pub has_zero_entry : Value dictionary → TableKind → Bool
has_zero_entry d table = begins_with_zero (entry (table_of table)) (entries_in d (table_of table))

-- the tables in the order of the dictionary's fields
abbrev pub all_tables : List TableKind
all_tables = Mapping ∷ Location ∷ Function ∷ Link ∷ String ∷ Attribute ∷ Stack ∷ []

-- the first of these tables that begins with another entry
abbrev pub first_other : Value dictionary → List TableKind → Option TableKind
first_other d [] = None
first_other d (table ∷ tables) = if has_zero_entry d table then first_other d tables else Some table
