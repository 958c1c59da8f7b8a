-- The text of an entry of a table: what it adds to a line or to the lines of a message, wherever it is named.
use Rattle.std.specs.Prelude.{ℕ, List, [], ◌∷◌, ◌++◌, codes, map}
use Rattle.std.specs.Fmt.{decimal, signed_decimal}
use Rattle.std.specs.List.{join_by}
use Rattle.schema.specs.Messages.{function, link, location, entry}
use Rattle.schema.specs.Shape.{Value, Table, Mappings, Locations, Functions, Links, Strings, Attributes, Stacks}
use Rattle.shown.specs.Direct.{direct}
use Rattle.shown.specs.Quoted.{hex_text, quoted}
use Rattle.shown.specs.TextLine.{line_text, lines_text}
use Rattle.shown.specs.ShowText.{attribute_line, mapping_lines, source_line, stack_lines}

-- a function, as it stands in a line of source
abbrev pub function_words : Value (direct function) → List ℕ
function_words f = join_by (λ word. word) (codes " ") (
    codes "start" ∷ signed_decimal f.1.1.1.0 ∷ codes "name" ∷ quoted f.0 ∷ codes "system" ∷ quoted f.1.0 ∷ codes "file" ∷ quoted f.1.1.0 ∷ [])

-- a link, as it stands in the line of a sample
abbrev pub link_words : Value (direct link) → List ℕ
link_words l = hex_text l.0 ++ (codes " " ++ hex_text l.1.0)

-- what stands in the line of a location after its position, and the lines of what it holds
abbrev pub location_rest : Value (direct location) → List ℕ
location_rest l =
    codes " address " ++ (decimal l.1.0 ++ (codes "\n"
    ++ lines_text (mapping_lines l.0 ++ (map source_line l.1.1.0 ++ map (attribute_line 5) l.1.1.1.0))))

-- the text of an entry, without the indentation of an attribute
abbrev pub entry_text : (T : Table) → Value (direct (entry T)) → List ℕ
entry_text Mappings m = lines_text (mapping_lines m)
entry_text Locations l = location_rest l
entry_text Functions f = function_words f
entry_text Links l = link_words l
entry_text Strings t = quoted t
entry_text Attributes a = line_text (attribute_line 0 a)
entry_text Stacks s = lines_text (stack_lines s)
