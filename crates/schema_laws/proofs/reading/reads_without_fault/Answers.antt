use Rattle.schema_laws.proofs.Agreement.{merge_ok, merge_sound}
use Rattle.schema_laws.proofs.reading.reads_without_fault.Goals as goal

pub returns : goal.returns
returns c = λ s u base bytes. (λ e. merge_ok s u e.0 base bytes e.1, merge_sound s u base bytes)
