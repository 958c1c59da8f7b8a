use Rattle.std.proofs.Common.{[], ◌∙◌, arith}
use Rattle.draft_contents.specs.Contents.{Contents, contents}
use Rattle.draft_contents.proofs.Drafts.{len_is, none_size}
use Rattle.dict_build.proofs.draft.Draft.size.Goals as goal

pub whole_len-requires : goal.whole_len-requires
whole_len-requires g c = omega (arith, c.text_len.ensures.most)

pub returns-clause-is : goal.returns-clause-is
returns-clause-is g c =
    let d : Contents = contents c.self.inside.tables c.self.inside.records in
    rw (← c.self.view_is) (λ ms s. len_is d ms c.whole_len.result c.text_len.result c.text_len.ensures.is c.whole_len.ensures s.draft)

pub returns-clause-most : goal.returns-clause-most
returns-clause-most g c =
    let d : Contents = contents c.self.inside.tables c.self.inside.records in
    let s = c.self.invariant in
    let e = len_is d s.0 c.whole_len.result c.text_len.result c.text_len.ensures.is c.whole_len.ensures s.1.draft in
    let few = s.1.written.small in omega (arith, e, few)

pub returns-clause-empty : goal.returns-clause-empty
returns-clause-empty g c =
    let d : Contents = contents c.self.inside.tables c.self.inside.records in
    rw (← c.self.view_is) (λ s. len_is d [] c.whole_len.result c.text_len.result c.text_len.ensures.is c.whole_len.ensures s.draft ∙ none_size)
