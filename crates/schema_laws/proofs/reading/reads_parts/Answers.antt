use Rattle.schema.specs.Merge.{take_field}
use Rattle.schema.specs.MessageFault.{FieldFault}
use Rattle.schema_laws.proofs.Agreement.{agrees}
use Rattle.schema_laws.proofs.Parts.{joined_spelled, parts_bad, parts_found}
use Rattle.schema_laws.proofs.ValueRelation.{parts_from, parts_to}
use Rattle.schema_laws.proofs.reading.reads_parts.Goals as goal

pub returns : goal.returns
returns c = record {
  value = λ s u v parts. (parts_from s u v parts, parts_to s u v parts);
  fault = λ s u parts g. (parts_found (take_field s) (FieldFault s) (agrees s) u parts g, parts_bad (take_field s) (FieldFault s) (agrees s) u parts g);
  joined = joined_spelled;
}
