use Rattle.renumber.proofs.Texts.{records_short}
use Rattle.renumber.proofs.laws.walked_records_are_short.Goals as goal

pub returns : goal.returns
returns c = records_short
