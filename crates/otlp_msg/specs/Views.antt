-- A message of the code as a value of its shape.
use Rattle.std.specs.Prelude.{map}
use Rattle.schema.specs.Messages.{envelope}
use Rattle.schema.specs.Shape.{Value}
use Rattle.dict_rec.specs.Views.{dictionary_view}
use Rattle.prof_rec.specs.Views.{resource_profiles_view}
use Rattle.otlp_msg.specs.declared.message.Message.{Message}

abbrev pub message_view : Message → Value envelope
message_view v = (map resource_profiles_view v.records, (dictionary_view v.dictionary, tt))
