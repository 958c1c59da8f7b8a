use Rattle.schema_laws.proofs.ValueRelation.{read_from, read_to}
use Rattle.schema_laws.proofs.reading.reads_the_value.Goals as goal

pub returns : goal.returns
returns c = λ s u v base bytes. (read_from s u v base bytes, read_to s u v base bytes)
