use Rattle.operations.proofs.Repeated.{head-texts, under-by-texts}
use Rattle.operations.proofs.under_last_is_found_by_texts.Goals as goal

pub returns : goal.returns
returns c = record { repeated = head-texts; drafts = under-by-texts }
