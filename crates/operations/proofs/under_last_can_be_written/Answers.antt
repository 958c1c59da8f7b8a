use Rattle.operations.proofs.Heads.{under-heads}
use Rattle.operations.proofs.Meanings.{under-means, under-ranges}
use Rattle.operations.proofs.under_last_can_be_written.Goals as goal

pub returns : goal.returns
returns c = record { heads = under-heads; means = under-means; ranges = under-ranges }
