use Rattle.schema_laws.proofs.AnyGrowth.{any_fits, any_parts_fit, any_parts_short, any_read_again, any_short}
use Rattle.schema_laws.proofs.any.any_read_values_fit.Goals as goal

pub returns : goal.returns
returns c = record { fits = any_fits; short = any_short; again = any_read_again; parts = any_parts_fit; parts_short = any_parts_short }
