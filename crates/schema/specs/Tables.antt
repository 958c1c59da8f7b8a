-- The tables of a dictionary, told apart.
use Rattle.std.specs.Prelude.{ℕ, List, [], ◌∷◌, Bool, ◌==◌}
use Rattle.schema.specs.Shape.{Table, Mappings, Locations, Functions, Links, Strings, Attributes, Stacks}

-- the number of a table's field in the dictionary
abbrev pub field_of : Table → ℕ
field_of Mappings = 1
field_of Locations = 2
field_of Functions = 3
field_of Links = 4
field_of Strings = 5
field_of Attributes = 6
field_of Stacks = 7

-- the test of equality
abbrev pub same_table : Table → Table → Bool
same_table T U = field_of T == field_of U

-- all of them, in the order of the dictionary's fields
abbrev pub every_table : List Table
every_table = Mappings ∷ Locations ∷ Functions ∷ Links ∷ Strings ∷ Attributes ∷ Stacks ∷ []
