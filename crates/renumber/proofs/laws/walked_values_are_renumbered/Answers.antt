use Rattle.renumber.proofs.Texts.{values_renumbered, values_spelled}
use Rattle.renumber.proofs.laws.walked_values_are_renumbered.Goals as goal

pub returns-clause-renumbered : goal.returns-clause-renumbered
returns-clause-renumbered c = values_renumbered

pub returns-clause-spelled : goal.returns-clause-spelled
returns-clause-spelled c = values_spelled
