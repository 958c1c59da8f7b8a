-- Tables can be told apart, and the schema's shapes are sound.
use Rattle.std.proofs.Common.{◌≡◌, ℕ, zero, suc, [], ◌∷◌, Bool, true, false, cond, refl, sym, ap, ◌∙◌}
use Rattle.std.proofs.lemmas.Bool.{eqb-true}
use Rattle.schema.specs.Each.{Each}
use Rattle.schema.specs.Messages.{string, mapping, location, function, attribute, stack, profile, key_value, scope_profiles, resource_profiles}
use Rattle.schema.specs.Shape.{Table, Mappings, Locations, Functions, Links, Strings, Attributes, Stacks}
use Rattle.meaning.specs.Tree.{Tree}
use Rattle.meaning.specs.Tables.{IsSound, entry, field_of, same_table}

-- ---- tables

-- a table is itself
pub same_table-itself : (T : Table) → same_table T T ≡ true
same_table-itself Mappings = refl
same_table-itself Locations = refl
same_table-itself Functions = refl
same_table-itself Links = refl
same_table-itself Strings = refl
same_table-itself Attributes = refl
same_table-itself Stacks = refl

-- the table of a field number
table_at : ℕ → Table
table_at (suc (suc zero)) = Locations
table_at (suc (suc (suc zero))) = Functions
table_at (suc (suc (suc (suc zero)))) = Links
table_at (suc (suc (suc (suc (suc zero))))) = Strings
table_at (suc (suc (suc (suc (suc (suc zero)))))) = Attributes
table_at (suc (suc (suc (suc (suc (suc (suc n))))))) = Stacks
table_at n = Mappings

-- undoes a table's field number
table_at-field : (T : Table) → table_at (field_of T) ≡ T
unfolding table_at
table_at-field Mappings = refl
table_at-field Locations = refl
table_at-field Functions = refl
table_at-field Links = refl
table_at-field Strings = refl
table_at-field Attributes = refl
table_at-field Stacks = refl

-- tables that pass the test are the same
pub same_table-true : (T U : Table) → same_table T U ≡ true → T ≡ U
same_table-true T U h = sym (table_at-field T) ∙ ap table_at (eqb-true (field_of T) (field_of U) h) ∙ table_at-field U

-- what holds of the one value that an index itself brings
pub each_here : (P : Tree → Type 0) (T U : Table) (t : Tree) → (T ≡ U → P t) → Each P (cond (same_table T U) (t ∷ []) [])
each_here P T U t h = by_test (same_table T U) refl
  where
    by_test : (b : Bool) → same_table T U ≡ b → Each P (cond b (t ∷ []) [])
    by_test true e = (h (same_table-true T U e), tt)
    by_test false e = tt

-- ---- shapes

-- the shapes of the schema, each after those that it names
string_sound : IsSound string
string_sound = (refl, tt)

attribute_sound : IsSound attribute
attribute_sound = (string_sound, (tt, (string_sound, tt)))

function_sound : IsSound function
function_sound = (string_sound, (string_sound, (string_sound, (tt, tt))))

mapping_sound : IsSound mapping
mapping_sound = (tt, (tt, (tt, (string_sound, ((refl, attribute_sound), tt)))))

location_sound : IsSound location
location_sound = ((refl, mapping_sound), (tt, (((refl, function_sound), (tt, (tt, tt))), ((refl, attribute_sound), tt))))

stack_sound : IsSound stack
stack_sound = ((refl, location_sound), tt)

-- each table's entries
pub entry_sound : (T : Table) → IsSound (entry T)
entry_sound Mappings = mapping_sound
entry_sound Locations = location_sound
entry_sound Functions = function_sound
entry_sound Links = (tt, (tt, tt))
entry_sound Strings = tt
entry_sound Attributes = attribute_sound
entry_sound Stacks = stack_sound

-- profiles, and what holds them
pub profile_sound : IsSound profile
profile_sound = (
  (string_sound, (string_sound, tt)),
  (
    ((refl, stack_sound), (tt, ((refl, attribute_sound), ((refl, (tt, (tt, tt))), (tt, tt))))),
    (tt, (tt, ((string_sound, (string_sound, tt)), (tt, (tt, (tt, (tt, (tt, ((refl, attribute_sound), tt))))))))),
  ),
)

key_value_sound : (depth : ℕ) → IsSound (key_value depth)
key_value_sound depth = (tt, (tt, tt))

scope_profiles_sound : IsSound scope_profiles
scope_profiles_sound = ((tt, (tt, (key_value_sound 1, (tt, tt)))), (profile_sound, (tt, tt)))

pub records_sound : IsSound resource_profiles
records_sound = ((key_value_sound 1, (tt, (tt, tt))), (scope_profiles_sound, (tt, tt)))
