use Rattle.std.proofs.Common.{ap, ◌∙◌}
use Rattle.schema.specs.Decoding.{field_at}
use Rattle.schema_laws.proofs.OneField.{field_read, field_bad, one_found, one_bad}
use Rattle.schema_laws.proofs.fields.reads_one_field.Goals as goal

pub returns : goal.returns
returns c = record {
  right = λ bytes f rest. (one_found bytes f rest, λ r. ap field_at r.1 ∙ field_read r.0 f rest r.2);
  wrong = λ bytes r lt. (one_bad bytes r lt, field_bad bytes r);
}
