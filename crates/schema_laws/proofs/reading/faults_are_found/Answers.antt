use Rattle.schema_laws.proofs.Agreement.{merge_err, merge_fault}
use Rattle.schema_laws.proofs.reading.faults_are_found.Goals as goal

pub returns : goal.returns
returns c = λ s u base bytes g. (merge_err s u base bytes g, merge_fault s u base bytes g)
