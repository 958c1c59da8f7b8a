use Rattle.schema_laws.proofs.AnyValueRelation.{any_from, any_to}
use Rattle.schema_laws.proofs.any.any_reads_the_value.Goals as goal

pub returns : goal.returns
returns c = λ left at end b u v. (any_from left at end b u v, any_to left at end b u v)
