use Rattle.schema_laws.proofs.ReadingBack.{reads_back}
use Rattle.schema_laws.proofs.Lawfulness.{lawful_from}
use Rattle.pb_wire.proofs.laws.reads_what_is_written.Goals as goal

pub returns : goal.returns
returns g c = λ v fits base. reads_back g.T.Rows.shape g.met.T.Rows.message (lawful_from g.T.Rows.shape g.met.T.Rows.lawful) v fits base
