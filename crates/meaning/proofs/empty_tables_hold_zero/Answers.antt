use Rattle.meaning.proofs.Zeros.{filled-resolves}
use Rattle.meaning.proofs.empty_tables_hold_zero.Goals as goal

pub returns : goal.returns
returns c = filled-resolves
