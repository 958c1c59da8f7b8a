use Rattle.renumber.proofs.Marks.{can_go_back, marked_back}
use Rattle.renumber.proofs.laws.walks_lead_back.Goals as goal

pub returns : goal.returns
returns c = λ m a b i g. (can_go_back m a b i g, marked_back m a b i g)
