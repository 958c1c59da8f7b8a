use Rattle.renumber.proofs.Texts.{nothing_met}
use Rattle.renumber.proofs.laws.nothing_met_is_ready.Goals as goal

pub returns : goal.returns
returns c = nothing_met
