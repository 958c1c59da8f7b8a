use Rattle.shown.proofs.Meant.{index-means, below-means}
use Rattle.shown.proofs.indexes_mean_their_entries.Goals as goal

pub returns : goal.returns
returns c = record { entry = index-means; below = below-means }
