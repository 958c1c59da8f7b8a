use Rattle.operations.proofs.Repeated.{repeated-texts, draft-by-texts}
use Rattle.operations.proofs.seams_are_found_by_texts.Goals as goal

pub returns : goal.returns
returns c = record { repeated = repeated-texts; drafts = draft-by-texts }
