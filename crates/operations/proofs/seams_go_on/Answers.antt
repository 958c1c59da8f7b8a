use Rattle.operations.proofs.Joining.{seam-outline}
use Rattle.operations.proofs.seams_go_on.Goals as goal

pub returns : goal.returns
returns c = seam-outline
