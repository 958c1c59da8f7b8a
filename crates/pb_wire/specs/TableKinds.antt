-- The kinds of tables as tables of the schema, and their places.
use Rattle.std.specs.Prelude.{ℕ}
use Rattle.schema.specs.Shape.{Table, Mappings, Locations, Functions, Links, Strings, Attributes, Stacks}
use Rattle.pb_wire.specs.declared.table_kind.TableKind.{TableKind}
use Rattle.pb_wire.specs.declared.table_kind.TableKind.TheVariants as kinds

-- the table of a kind
abbrev pub table_of : TableKind → Table
table_of kinds.Mapping = Mappings
table_of kinds.Location = Locations
table_of kinds.Function = Functions
table_of kinds.Link = Links
table_of kinds.String = Strings
table_of kinds.Attribute = Attributes
table_of kinds.Stack = Stacks

-- the place of a table among the seven, from 0
abbrev pub place_of : Table → ℕ
place_of Mappings = 0
place_of Locations = 1
place_of Functions = 2
place_of Links = 3
place_of Strings = 4
place_of Attributes = 5
place_of Stacks = 6
