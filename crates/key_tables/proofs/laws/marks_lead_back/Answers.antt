use Rattle.key_tables.proofs.Cuts.{can_be_cut, cut_back}
use Rattle.key_tables.proofs.laws.marks_lead_back.Goals as goal

pub returns : goal.returns
returns c = λ mark base keys m b. (can_be_cut base keys mark m b, cut_back base keys mark m b)
