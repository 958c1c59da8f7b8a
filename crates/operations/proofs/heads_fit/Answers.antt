use Rattle.operations.proofs.Heads.{message-heads, seam-heads}
use Rattle.operations.proofs.heads_fit.Goals as goal

pub returns : goal.returns
returns c = record { messages = message-heads; seams = seam-heads }
