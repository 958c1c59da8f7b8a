use Rattle.split_merge.proofs.AllParts.{parts_fit}
use Rattle.split_merge.proofs.laws.split_parts_fit.Goals as goal

pub returns : goal.returns
returns c = parts_fit
