-- What the records of a message mean, as text: a line for each, with two more spaces for what it holds. The records are values
-- without indexes; the row of number n of a message is `.0` after n - 1 times `.1`, and its name is in the schema.
use Rattle.std.specs.Prelude.{ℕ, List, [], ◌∷◌, ◌++◌, codes, map}
use Rattle.std.specs.Fmt.{decimal, signed_decimal}
use Rattle.schema.specs.Messages.{mapping, location, line, attribute, stack, sample, value_type, profile, scope_profiles, resource_profiles, key_value, message}
use Rattle.schema.specs.Shape.{Value}
use Rattle.meaning.specs.Message.{meaning_of}
use Rattle.meaning.specs.Tree.{value}
use Rattle.shown.specs.Direct.{direct}
use Rattle.shown.specs.Quoted.{hex_text, quoted, bracketed}
use Rattle.shown.specs.AnyText.{any_shown}
use Rattle.shown.specs.TextLine.{TextLine, at_level, lines_text, numbered}

-- ---- attributes

-- an attribute of a resource or a scope: key, value
abbrev pub key_value_line : ℕ → Value (direct (key_value 1)) → TextLine
key_value_line level a = at_level level (codes "attr" ∷ quoted a.0 ∷ any_shown a.1.0 ∷ [])

-- any other attribute: key, value, unit
abbrev pub attribute_line : ℕ → Value (direct attribute) → TextLine
attribute_line level a = at_level level (codes "attr" ∷ quoted a.0 ∷ any_shown a.1.0 ∷ codes "unit" ∷ quoted a.1.1.0 ∷ [])

-- an opaque element of a resource
abbrev pub entity_line : List ℕ → TextLine
entity_line bytes = at_level 1 (codes "entity" ∷ hex_text bytes ∷ [])

-- ---- locations

-- a mapping: start, limit, offset, file name; then its attributes
abbrev pub mapping_lines : Value (direct mapping) → List TextLine
mapping_lines m =
    at_level 5 (codes "mapping" ∷ decimal m.0 ∷ decimal m.1.0 ∷ decimal m.1.1.0 ∷ quoted m.1.1.1.0 ∷ [])
    ∷ map (attribute_line 6) m.1.1.1.1.0

-- a line of a source file: line, column, and of its function start line, name, system name, file name
abbrev pub source_line : Value (direct line) → TextLine
source_line l = let f = l.0 in
    at_level 5 (codes "line" ∷ signed_decimal l.1.0 ∷ signed_decimal l.1.1.0 ∷ codes "start" ∷ signed_decimal f.1.1.1.0
    ∷ codes "name" ∷ quoted f.0 ∷ codes "system" ∷ quoted f.1.0 ∷ codes "file" ∷ quoted f.1.1.0 ∷ [])

-- a location, with its position in the stack: address; then its mapping, its lines, its attributes
abbrev pub location_lines : ℕ → Value (direct location) → List TextLine
location_lines n l =
    at_level 4 (codes "location" ∷ decimal n ∷ codes "address" ∷ decimal l.1.0 ∷ [])
    ∷ (mapping_lines l.0 ++ (map source_line l.1.1.0 ++ map (attribute_line 5) l.1.1.1.0))

-- the locations of a stack
abbrev pub stack_lines : Value (direct stack) → List TextLine
stack_lines s = numbered location_lines 0 s.0

-- ---- samples and profiles

-- a sample, with its position in the profile: values, times, link; then its attributes and its stack
abbrev pub sample_line : ℕ → Value (direct sample) → TextLine
sample_line n s = let link = s.1.1.1.0 in
    at_level 3 (codes "sample" ∷ decimal n ∷ codes "values" ∷ bracketed (map signed_decimal s.1.0)
    ∷ codes "times" ∷ bracketed (map decimal s.1.1.1.1.0) ∷ codes "link" ∷ hex_text link.0 ∷ hex_text link.1.0 ∷ [])

abbrev pub sample_lines : ℕ → Value (direct sample) → List TextLine
sample_lines n s = sample_line n s ∷ (map (attribute_line 4) s.1.1.0 ++ stack_lines s.0)

-- a type and its unit
abbrev pub type_text : Value (direct value_type) → List ℕ
type_text t = quoted t.0 ++ (codes "/" ++ quoted t.1.0)

-- a profile, with its position in the scope record: sample type, period type, period, time, duration, identity, number of
-- dropped attributes, format and bytes of the original payload; then its attributes and its samples
abbrev pub profile_line : ℕ → Value (direct profile) → TextLine
profile_line n p = let period = p.1.1.1.1 in let last = period.1.1 in
    at_level 2 (codes "profile" ∷ decimal n ∷ codes "type" ∷ type_text p.0 ∷ codes "period" ∷ type_text period.0 ∷ signed_decimal period.1.0
    ∷ codes "time" ∷ decimal p.1.1.0 ∷ codes "duration" ∷ decimal p.1.1.1.0 ∷ codes "id" ∷ hex_text last.0
    ∷ codes "dropped" ∷ decimal last.1.0 ∷ codes "format" ∷ quoted last.1.1.0 ∷ codes "payload" ∷ hex_text last.1.1.1.0 ∷ [])

abbrev pub profile_lines : ℕ → Value (direct profile) → List TextLine
profile_lines n p = profile_line n p ∷ (map (attribute_line 3) p.1.1.1.1.1.1.1.1.1.1.0 ++ numbered sample_lines 0 p.1.0)

-- ---- records

-- a scope record, with its position in the resource record: name, version, number of dropped attributes, schema URL; then the
-- attributes of its scope, and its profiles
abbrev pub scope_line : ℕ → Value (direct scope_profiles) → TextLine
scope_line n r = let s = r.0 in
    at_level 1 (codes "scope" ∷ decimal n ∷ codes "name" ∷ quoted s.0 ∷ codes "version" ∷ quoted s.1.0
    ∷ codes "dropped" ∷ decimal s.1.1.1.0 ∷ codes "schema" ∷ quoted r.1.1.0 ∷ [])

abbrev pub scope_lines : ℕ → Value (direct scope_profiles) → List TextLine
scope_lines n r = scope_line n r ∷ (map (key_value_line 2) r.0.1.1.0 ++ numbered profile_lines 0 r.1.0)

-- a resource record, with its position in the message: number of dropped attributes, schema URL; then the attributes and the
-- opaque elements of its resource, and its scope records
abbrev pub resource_line : ℕ → Value (direct resource_profiles) → TextLine
resource_line n r =
    at_level 0 (codes "resource" ∷ decimal n ∷ codes "dropped" ∷ decimal r.0.1.0 ∷ codes "schema" ∷ quoted r.1.1.0 ∷ [])

abbrev pub resource_lines : ℕ → Value (direct resource_profiles) → List TextLine
resource_lines n r =
    resource_line n r ∷ (map (key_value_line 1) r.0.0 ++ (map entity_line r.0.1.1.0 ++ numbered scope_lines 0 r.1.0))

-- ---- the text

-- the lines of records, and their text
abbrev pub show_lines : List (Value (direct resource_profiles)) → List TextLine
show_lines rs = numbered resource_lines 0 rs

abbrev pub show_of : List (Value (direct resource_profiles)) → List ℕ
show_of rs = lines_text (show_lines rs)

-- the text of a message: that of what its records mean
abbrev pub show_text : Value (message resource_profiles) → List ℕ
show_text x = show_of (map (value (direct resource_profiles)) (meaning_of resource_profiles x))
