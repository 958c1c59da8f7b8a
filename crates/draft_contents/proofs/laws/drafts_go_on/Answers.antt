use Rattle.draft_contents.proofs.Marks.{goes_itself, goes_over}
use Rattle.draft_contents.proofs.laws.drafts_go_on.Goals as goal

pub returns : goal.returns
returns c = record { same = goes_itself; over = goes_over }
