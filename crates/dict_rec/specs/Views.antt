-- The records of the code as values of their shapes.
use Rattle.std.specs.Prelude.{ℤ, List, map}
use Rattle.schema.specs.Messages.{mapping, location, line, function, link, attribute, stack, dictionary}
use Rattle.schema.specs.Shape.{Value}
use Rattle.any_value.specs.Views.{any_view}
use Rattle.dict_rec.specs.declared.mapping.Mapping.{Mapping}
use Rattle.dict_rec.specs.declared.location.Location.{Location}
use Rattle.dict_rec.specs.declared.line.Line.{Line}
use Rattle.dict_rec.specs.declared.function.Function.{Function}
use Rattle.dict_rec.specs.declared.link.Link.{Link}
use Rattle.dict_rec.specs.declared.stack.Stack.{Stack}
use Rattle.dict_rec.specs.declared.attribute.Attr.{Attr}
use Rattle.dict_rec.specs.declared.dictionary.Dictionary.{Dictionary}

-- a list of indexes
abbrev pub indexes_view : List ℤ → List ℤ
indexes_view indexes = map (λ i. i) indexes

abbrev pub line_view : Line → Value line
line_view v = (v.function_index, (v.line, (v.column, tt)))

abbrev pub mapping_view : Mapping → Value mapping
mapping_view v = (v.memory_start, (v.memory_limit, (v.file_offset, (v.filename_strindex, (indexes_view v.attribute_indices, tt)))))

abbrev pub location_view : Location → Value location
location_view v = (v.mapping_index, (v.address, (map line_view v.lines, (indexes_view v.attribute_indices, tt))))

abbrev pub function_view : Function → Value function
function_view v = (v.name_strindex, (v.system_name_strindex, (v.filename_strindex, (v.start_line, tt))))

abbrev pub link_view : Link → Value link
link_view v = (v.trace_id, (v.span_id, tt))

abbrev pub attribute_view : Attr → Value attribute
attribute_view v = (v.key_strindex, (any_view v.value, (v.unit_strindex, tt)))

abbrev pub stack_view : Stack → Value stack
stack_view v = (indexes_view v.location_indices, tt)

abbrev pub dictionary_view : Dictionary → Value dictionary
dictionary_view v = (map mapping_view v.mapping_table, (map location_view v.location_table, (map function_view v.function_table, (map link_view v.link_table, (v.string_table, (map attribute_view v.attribute_table, (map stack_view v.stack_table, tt)))))))
