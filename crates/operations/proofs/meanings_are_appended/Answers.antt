use Rattle.operations.proofs.Drafts.{appended_draft}
use Rattle.operations.proofs.Heads.{append-heads}
use Rattle.operations.proofs.Meanings.{append-means, append-ranges}
use Rattle.operations.proofs.meanings_are_appended.Goals as goal

pub returns : goal.returns
returns c = record { drafts = appended_draft; heads = append-heads; means = append-means; ranges = append-ranges }
