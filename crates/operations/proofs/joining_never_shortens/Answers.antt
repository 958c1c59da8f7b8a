use Rattle.operations.proofs.Growing.{seam-longer, under-longer, join-longer, prefix-shorter}
use Rattle.operations.proofs.joining_never_shortens.Goals as goal

pub returns : goal.returns
returns c = record { seam = seam-longer; under = under-longer; join = join-longer; prefix = prefix-shorter }
