use Rattle.renumber.proofs.MemoSteps.{goes_itself, goes_over}
use Rattle.renumber.proofs.laws.memos_go_on.Goals as goal

pub returns-clause-same : goal.returns-clause-same
returns-clause-same c = goes_itself

pub returns-clause-over : goal.returns-clause-over
returns-clause-over c = goes_over
