use Rattle.schema_laws.proofs.Onto.{onto, onto_len}
use Rattle.schema_laws.proofs.spelling.spelling_has_its_length.Goals as goal

pub returns : goal.returns
returns c = record { appended = onto; counted = onto_len }
