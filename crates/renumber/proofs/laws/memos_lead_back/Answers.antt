use Rattle.renumber.proofs.MemoSteps.{goes_back}
use Rattle.renumber.proofs.laws.memos_lead_back.Goals as goal

pub returns : goal.returns
returns c = goes_back
