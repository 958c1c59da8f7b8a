use Rattle.meaning.proofs.Drafts.{draft_begins, draft_joined, cut_back_each}
use Rattle.meaning.proofs.drafts_grow_and_are_cut_back.Goals as goal

pub returns : goal.returns
returns c = record {
  begin = draft_begins;
  join = λ k d e ms ns xs ys r s w. draft_joined r s w;
  cut = λ k d e ns ys h g w. cut_back_each d e h g w;
}
