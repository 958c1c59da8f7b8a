use Rattle.schema_laws.proofs.AnyValueRelation.{any_parts_bad, any_parts_found, any_parts_from, any_parts_to}
use Rattle.schema_laws.proofs.any.any_reads_parts.Goals as goal

pub returns : goal.returns
returns c = record {
  value = λ left u v parts. (any_parts_from left u v parts, any_parts_to left u v parts);
  fault = λ left u parts g. (any_parts_found left u parts g, any_parts_bad left u parts g);
}
