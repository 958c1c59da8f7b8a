use Rattle.operations.proofs.OneMore.{group-elsewhere, group-scope, group-profile}
use Rattle.operations.proofs.grouping_goes_on.Goals as goal

pub returns : goal.returns
returns c = record { elsewhere = group-elsewhere; scope = group-scope; profile = group-profile }
