use Rattle.schema_laws.proofs.AnyAgreement.{any_err, any_fault}
use Rattle.schema_laws.proofs.any.any_faults_are_found.Goals as goal

pub returns : goal.returns
returns c = λ left at end b u g. (any_err left at end b u g, any_fault left at end b u g)
