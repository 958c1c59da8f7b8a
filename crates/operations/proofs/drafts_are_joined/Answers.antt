use Rattle.operations.proofs.Drafts.{joined_draft}
use Rattle.operations.proofs.drafts_are_joined.Goals as goal

pub returns : goal.returns
returns c = joined_draft
