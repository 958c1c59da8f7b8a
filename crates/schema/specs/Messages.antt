-- The schema: the messages of the OpenTelemetry Profiles signal, a line a message. It is after
-- opentelemetry-proto 1.9.0 (`common/v1`, `resource/v1`, `profiles/v1development` and its collector service), which is
-- under development; this table alone decides the fields and their numbers. A field's name is in the comment.
use Rattle.std.specs.Prelude.{ℕ, List}
use Rattle.schema.specs.Shape.{Shape, Value, Number, Fixed, Bytes, Text, Any, Index, End, One, Many, U32, U64, I32, I64, Table, Mappings, Locations, Functions, Links, Strings, Attributes, Stacks}

-- an index into the string table
abbrev pub string : Shape
string = Index Strings Text

-- the key of a KeyValue
abbrev pub key : Shape
key = Text

-- KeyValue, whose value is an AnyValue of this depth: 1 key, 2 value. The fields of an AnyValue are in `AnyMember`, and those of
-- the messages in it in `AnyMerge`.
abbrev pub key_value : ℕ → Shape
key_value depth = One 1 key (One 2 (Any depth) End)

-- Attr (KeyValueAndUnit): 1 key_strindex, 2 value, 3 unit_strindex
abbrev pub attribute : Shape
attribute = One 1 string (One 2 (Any 1) (One 3 string End))

-- Function: 1 name_strindex, 2 system_name_strindex, 3 filename_strindex, 4 start_line
abbrev pub function : Shape
function = One 1 string (One 2 string (One 3 string (One 4 (Number I64) End)))

-- Mapping: 1 memory_start, 2 memory_limit, 3 file_offset, 4 filename_strindex, 5 attribute_indices
abbrev pub mapping : Shape
mapping = One 1 (Number U64) (One 2 (Number U64) (One 3 (Number U64) (One 4 string (Many 5 (Index Attributes attribute) End))))

-- Line: 1 function_index, 2 line, 3 column
abbrev pub line : Shape
line = One 1 (Index Functions function) (One 2 (Number I64) (One 3 (Number I64) End))

-- Location: 1 mapping_index, 2 address, 3 lines, 4 attribute_indices
abbrev pub location : Shape
location = One 1 (Index Mappings mapping) (One 2 (Number U64) (Many 3 line (Many 4 (Index Attributes attribute) End)))

-- Stack: 1 location_indices
abbrev pub stack : Shape
stack = Many 1 (Index Locations location) End

-- Link: 1 trace_id, 2 span_id
abbrev pub link : Shape
link = One 1 Bytes (One 2 Bytes End)

-- ValueType: 1 type_strindex, 2 unit_strindex
abbrev pub value_type : Shape
value_type = One 1 string (One 2 string End)

-- Sample: 1 stack_index, 2 values, 3 attribute_indices, 4 link_index, 5 timestamps_unix_nano
abbrev pub sample : Shape
sample = One 1 (Index Stacks stack) (Many 2 (Number I64) (Many 3 (Index Attributes attribute) (One 4 (Index Links link) (Many 5 Fixed End))))

-- Profile: 1 sample_type, 2 samples, 3 time_unix_nano, 4 duration_nano, 5 period_type, 6 period, 7 profile_id,
-- 8 dropped_attributes_count, 9 original_payload_format, 10 original_payload, 11 attribute_indices
abbrev pub profile : Shape
profile = One 1 value_type (Many 2 sample (One 3 Fixed (One 4 (Number U64) (One 5 value_type (One 6 (Number I64) (One 7 Bytes (One 8 (Number U32) (One 9 Text (One 10 Bytes (Many 11 (Index Attributes attribute) End))))))))))

-- The records, over the shape that the attributes of their resources and scopes have.

-- Scope: 1 name, 2 version, 3 attributes, 4 dropped_attributes_count
abbrev pub scope_with : Shape → Shape
scope_with attr = One 1 Text (One 2 Text (Many 3 attr (One 4 (Number U32) End)))

-- ScopeProfiles: 1 scope, 2 profiles, 3 schema_url
abbrev pub scope_profiles_with : Shape → Shape
scope_profiles_with attr = One 1 (scope_with attr) (Many 2 profile (One 3 Text End))

-- Resource: 1 attributes, 2 dropped_attributes_count, 3 opaque, whose elements are carried unread
abbrev pub resource_with : Shape → Shape
resource_with attr = Many 1 attr (One 2 (Number U32) (Many 3 Bytes End))

-- ResourceProfiles: 1 resource, 2 scope_profiles, 3 schema_url
abbrev pub resource_profiles_with : Shape → Shape
resource_profiles_with attr = One 1 (resource_with attr) (Many 2 (scope_profiles_with attr) (One 3 Text End))

-- the same where an attribute is a KeyValue
abbrev pub scope : Shape
scope = scope_with (key_value 1)

abbrev pub scope_profiles : Shape
scope_profiles = scope_profiles_with (key_value 1)

abbrev pub resource : Shape
resource = resource_with (key_value 1)

abbrev pub resource_profiles : Shape
resource_profiles = resource_profiles_with (key_value 1)

-- the entries of a table
abbrev pub entry : Table → Shape
entry Mappings = mapping
entry Locations = location
entry Functions = function
entry Links = link
entry Strings = Text
entry Attributes = attribute
entry Stacks = stack

-- Dictionary: 1 mapping_table, 2 location_table, 3 function_table, 4 link_table, 5 string_table, 6 attribute_table,
-- 7 stack_table
abbrev pub dictionary : Shape
dictionary = Many 1 mapping (Many 2 location (Many 3 function (Many 4 link (Many 5 Text (Many 6 attribute (Many 7 stack End))))))

-- the entries of each of its tables
abbrev pub entries_in : Value dictionary → (T : Table) → List (Value (entry T))
entries_in d Mappings = d.0
entries_in d Locations = d.1.0
entries_in d Functions = d.1.1.0
entries_in d Links = d.1.1.1.0
entries_in d Strings = d.1.1.1.1.0
entries_in d Attributes = d.1.1.1.1.1.0
entries_in d Stacks = d.1.1.1.1.1.1.0

-- Envelope (ProfilesData, and the export request), over the shape of its resource records: 1 resource_profiles, 2 dictionary
abbrev pub message : Shape → Shape
message records = Many 1 records (One 2 dictionary End)

abbrev pub envelope_with : Shape → Shape
envelope_with attr = message (resource_profiles_with attr)

abbrev pub envelope : Shape
envelope = envelope_with (key_value 1)

-- Partial success of an export: 1 rejected_profiles, 2 error_message
abbrev pub partial_success : Shape
partial_success = One 1 (Number I64) (One 2 Text End)

-- Export response: 1 partial_success
abbrev pub export_response : Shape
export_response = One 1 partial_success End

-- Rpc status: 1 code, 2 message
abbrev pub rpc_status : Shape
rpc_status = One 1 (Number I32) (One 2 Text End)
