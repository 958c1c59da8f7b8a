use Rattle.operations.proofs.Meanings.{seam-means, seam-ranges}
use Rattle.operations.proofs.seams_are_meanings.Goals as goal

pub returns : goal.returns
returns c = record { means = seam-means; ranges = seam-ranges }
