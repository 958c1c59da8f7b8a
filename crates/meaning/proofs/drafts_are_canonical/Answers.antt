use Rattle.meaning.proofs.Drafts.{draft_canonical}
use Rattle.meaning.proofs.Texts.{draft-text}
use Rattle.meaning.proofs.drafts_are_canonical.Goals as goal

pub returns : goal.returns
returns c = record {
  entries = λ k d ms xs r. (draft_canonical k d ms xs r).0;
  records = λ k d ms xs r. (draft_canonical k d ms xs r).1;
  bytes = draft-text;
}
