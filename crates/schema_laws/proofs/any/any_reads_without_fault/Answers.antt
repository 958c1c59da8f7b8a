use Rattle.schema_laws.proofs.AnyValueRelation.{any_ok, any_sound}
use Rattle.schema_laws.proofs.any.any_reads_without_fault.Goals as goal

pub returns : goal.returns
returns c = λ left at end b u. (λ e. any_ok left at end b u e.0 e.1, any_sound left at end b u)
