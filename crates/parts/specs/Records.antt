-- Records as parts of a flat list.
use Rattle.std.specs.Prelude.{ℕ, List, [], ◌∷◌, ◌++◌, map}
use Rattle.std.specs.List.{flat_map}
use Rattle.schema.specs.Shape.{Shape, Text, End, One, Many}
use Rattle.schema.specs.Messages.{profile, scope, resource, resource_profiles}
use Rattle.schema.specs.Texts.{bytes_field}
use Rattle.meaning.specs.Tree.{Tree, octets_of, head_of, tail_of, elements}
use Rattle.meaning.specs.Message.{record_text}
use Rattle.parts.specs.Parts.{RecordPart, ResourceBegins, ScopeBegins, ProfileText}

-- a record that holds others: 1 its head, 2 what it holds, 3 schema_url
abbrev pub holder : Shape → Shape → Shape
holder h k = One 1 h (Many 2 k (One 3 Text End))

-- what a record holds, and the text in front of that and after it
abbrev pub held : Tree → List Tree
held t = elements (head_of (tail_of t))

abbrev pub front : Shape → Tree → List ℕ
front h t = bytes_field 1 (record_text h (head_of t))

abbrev pub back : Tree → List ℕ
back t = bytes_field 3 (octets_of (head_of (tail_of (tail_of t))))

-- the parts of a record: the head, then those of what it holds; with these shapes of resource, scope and profile
abbrev pub profile_part : Shape → Tree → RecordPart
profile_part p t = ProfileText (record_text p t)

abbrev pub scope_parts : Shape → Shape → Tree → List RecordPart
scope_parts s p t = ScopeBegins (front s t) (back t) ∷ map (profile_part p) (held t)

abbrev pub resource_parts : Shape → Shape → Shape → Tree → List RecordPart
resource_parts r s p t = ResourceBegins (front r t) (back t) ∷ flat_map (scope_parts s p) (held t)

abbrev pub parts_in : Shape → Shape → Shape → List Tree → List RecordPart
parts_in r s p ts = flat_map (resource_parts r s p) ts

-- those of the schema's records, with their indexes
abbrev pub record_parts : List Tree → List RecordPart
record_parts xs = parts_in resource scope profile xs
