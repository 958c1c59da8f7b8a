-- Lists by table, at the table's place.
use Rattle.std.specs.Prelude.{List, [], get_or}
use Rattle.schema.specs.Shape.{Table}
use Rattle.pb_wire.specs.TableKinds.{place_of}

-- the list at the place of a table, and the empty one where there is none
abbrev pub at : {A : Type 0} → List (List A) → Table → List A
at xss T = get_or xss (place_of T) []
