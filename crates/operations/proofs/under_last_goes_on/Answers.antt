use Rattle.operations.proofs.Joining.{under-outline}
use Rattle.operations.proofs.under_last_goes_on.Goals as goal

pub returns : goal.returns
returns c = under-outline
