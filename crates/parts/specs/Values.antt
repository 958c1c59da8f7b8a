-- The same parts, of records as the code has them.
use Rattle.std.specs.Prelude.{List, ◌∷◌, map}
use Rattle.std.specs.List.{flat_map}
use Rattle.schema.specs.Messages.{profile, scope, resource, scope_profiles, resource_profiles}
use Rattle.schema.specs.Shape.{Value}
use Rattle.schema.specs.Spell.{spell}
use Rattle.schema.specs.Texts.{bytes_field}
use Rattle.parts.specs.Parts.{RecordPart, ResourceBegins, ScopeBegins, ProfileText}

abbrev pub profile_value_part : Value profile → RecordPart
profile_value_part v = ProfileText (spell profile v)

abbrev pub scope_value_parts : Value scope_profiles → List RecordPart
scope_value_parts v = ScopeBegins (bytes_field 1 (spell scope v.0)) (bytes_field 3 v.1.1.0) ∷ map profile_value_part v.1.0

abbrev pub resource_value_parts : Value resource_profiles → List RecordPart
resource_value_parts v = ResourceBegins (bytes_field 1 (spell resource v.0)) (bytes_field 3 v.1.1.0) ∷ flat_map scope_value_parts v.1.0

abbrev pub value_parts : List (Value resource_profiles) → List RecordPart
value_parts xs = flat_map resource_value_parts xs
