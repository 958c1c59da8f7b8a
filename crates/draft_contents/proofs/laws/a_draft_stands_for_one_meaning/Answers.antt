use Rattle.draft_contents.proofs.Drafts.{stands_for_one}
use Rattle.draft_contents.proofs.laws.a_draft_stands_for_one_meaning.Goals as goal

pub returns : goal.returns
returns c = stands_for_one
