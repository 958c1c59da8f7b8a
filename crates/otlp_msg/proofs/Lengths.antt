-- The lengths of tables, as the code counts them.
use Rattle.std.proofs.Common.{◌≡◌, ℕ, suc, cond, List, [], ◌∷◌, length, map, get_or, refl, ap, ◌∙◌, arith}
use Rattle.std.proofs.lemmas.Bool.{ne_eqb}
use Rattle.schema.specs.Messages.{dictionary, entries_in}
use Rattle.schema.specs.Shape.{Value, Table, Mappings, Locations, Functions, Links, Strings, Attributes, Stacks}
use Rattle.schema.specs.Tables.{every_table}
use Rattle.pb_wire.specs.TableKinds.{place_of, table_of}
use Rattle.pb_wire.specs.declared.table_kind.TableKind.{TableKind}
use Rattle.otlp_msg.specs.Lengths.{one_at_least}
use Rattle.otlp_msg.specs.Walk.{count, lengths_in}

-- a length that is at least one is the count of a list
counted : {A : Type 0} (xs : List A) → one_at_least (length xs) ≡ count xs
counted [] = refl
counted (x ∷ xs) = ap (λ b. cond b 1 (suc (length xs))) (ne_eqb (suc (length xs)) 0 (λ e. omega (arith, e)))

-- a list by table has at a table's place what belongs to the table
at_place : (f : Table → ℕ) (T : Table) → get_or (map f every_table) (place_of T) 0 ≡ f T
at_place f Mappings = refl
at_place f Locations = refl
at_place f Functions = refl
at_place f Links = refl
at_place f Strings = refl
at_place f Attributes = refl
at_place f Stacks = refl

-- so the lengths by table are those of a dictionary
pub by_table : (ls : List ℕ) (d : Value dictionary) → ls ≡ map (λ T. length (entries_in d T)) every_table → (table : TableKind)
    → one_at_least (get_or ls (place_of (table_of table)) 0) ≡ lengths_in d table
by_table ls d e table =
    let T = table_of table in
    ap (λ l. one_at_least (get_or l (place_of T) 0)) e ∙ ap one_at_least (at_place (λ U. length (entries_in d U)) T) ∙ counted (entries_in d T)
