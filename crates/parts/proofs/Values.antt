-- The parts of records in the code are those of their trees.
use Rattle.std.proofs.Common.{◌≡◌, List, [], ◌∷◌, ◌++◌, map, refl, sym, ap, ◌∙◌}
use Rattle.std.specs.List.{flat_map}
use Rattle.schema.specs.Messages.{profile, scope, resource, scope_profiles, resource_profiles}
use Rattle.schema.specs.Shape.{Shape, Value}
use Rattle.schema.specs.Spell.{spell}
use Rattle.schema.specs.Texts.{bytes_field}
use Rattle.meaning.specs.Tree.{Tree, tree, elements, listed}
use Rattle.meaning.proofs.Trees.{value-tree, elements-listed}
use Rattle.parts.specs.Parts.{RecordPart, ResourceBegins, ScopeBegins, ProfileText}
use Rattle.parts.specs.Records.{profile_part, scope_parts, resource_parts, record_parts}
use Rattle.parts.specs.Values.{profile_value_part, scope_value_parts, resource_value_parts, value_parts}

profiles : (ps : List (Value profile)) → map (profile_part profile) (map (tree profile) ps) ≡ map profile_value_part ps
profiles [] = refl
profiles (p ∷ ps) = ap (λ v. ProfileText (spell profile v) ∷ map (profile_part profile) (map (tree profile) ps)) (value-tree profile p) ∙ ap (λ l. profile_value_part p ∷ l) (profiles ps)

scope-is : (v : Value scope_profiles) → scope_parts scope profile (tree scope_profiles v) ≡ scope_value_parts v
scope-is v =
    ap (λ h. ScopeBegins (bytes_field 1 (spell scope h)) (bytes_field 3 v.1.1.0) ∷ map (profile_part profile) (elements (listed (map (tree profile) v.1.0)))) (value-tree scope v.0)
    ∙ ap (λ l. ScopeBegins (bytes_field 1 (spell scope v.0)) (bytes_field 3 v.1.1.0) ∷ map (profile_part profile) l) (elements-listed (map (tree profile) v.1.0))
    ∙ ap (λ l. ScopeBegins (bytes_field 1 (spell scope v.0)) (bytes_field 3 v.1.1.0) ∷ l) (profiles v.1.0)

scopes : (vs : List (Value scope_profiles)) → flat_map (scope_parts scope profile) (map (tree scope_profiles) vs) ≡ flat_map scope_value_parts vs
scopes [] = refl
scopes (v ∷ vs) = ap (λ l. l ++ flat_map (scope_parts scope profile) (map (tree scope_profiles) vs)) (scope-is v) ∙ ap (λ l. scope_value_parts v ++ l) (scopes vs)

resource-is : (v : Value resource_profiles) → resource_parts resource scope profile (tree resource_profiles v) ≡ resource_value_parts v
resource-is v =
    ap (λ h. ResourceBegins (bytes_field 1 (spell resource h)) (bytes_field 3 v.1.1.0) ∷ flat_map (scope_parts scope profile) (elements (listed (map (tree scope_profiles) v.1.0)))) (value-tree resource v.0)
    ∙ ap (λ l. ResourceBegins (bytes_field 1 (spell resource v.0)) (bytes_field 3 v.1.1.0) ∷ flat_map (scope_parts scope profile) l) (elements-listed (map (tree scope_profiles) v.1.0))
    ∙ ap (λ l. ResourceBegins (bytes_field 1 (spell resource v.0)) (bytes_field 3 v.1.1.0) ∷ l) (scopes v.1.0)

pub value-parts : (xs : List (Value resource_profiles)) → record_parts (map (tree resource_profiles) xs) ≡ value_parts xs
value-parts [] = refl
value-parts (x ∷ xs) = ap (λ l. l ++ record_parts (map (tree resource_profiles) xs)) (resource-is x) ∙ ap (λ l. resource_value_parts x ++ l) (value-parts xs)
