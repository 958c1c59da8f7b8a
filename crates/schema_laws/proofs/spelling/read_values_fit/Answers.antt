use Rattle.schema_laws.proofs.ReadFits.{read_fits, read_short, parts_fit, parts_short}
use Rattle.schema_laws.proofs.spelling.read_values_fit.Goals as goal

pub returns : goal.returns
returns c = record { whole = read_fits; short = read_short; parts = parts_fit; parts_short = parts_short }
