use Rattle.std.proofs.Common.{◌∙◌, sym, subst}
use Rattle.draft_contents.specs.Contents.{Contents, contents}
use Rattle.draft_contents.specs.Meanings.{IsAcceptedAs}
use Rattle.draft_contents.proofs.Drafts.{whole_accepted}
use Rattle.draft_contents.proofs.DraftContents.{whole_is}
use Rattle.dict_build.proofs.Going.{text_with}
use Rattle.dict_build.proofs.adder.ProfileAdder.text.Goals as goal

pub returns-clause-ok : goal.returns-clause-ok
returns-clause-ok g c =
    let state = c.self.inside.state in
    let d : Contents = contents state.walk.keys state.records in
    let e = text_with c.in_ok-bytes.bytes c.tables.result.now state.walk.keys state.records c.in_ok-bytes.ensures c.tables.ensures.keys in
    rw (← c.self.view_is) (λ ms s. e ∙ whole_is d ms s.draft)

pub returns-clause-accepted : goal.returns-clause-accepted
returns-clause-accepted g c =
    let state = c.self.inside.state in
    let d : Contents = contents state.walk.keys state.records in
    let e = text_with c.in_ok-bytes.bytes c.tables.result.now state.walk.keys state.records c.in_ok-bytes.ensures c.tables.ensures.keys in
    rw (← c.self.view_is) (λ ms s. subst (λ b. IsAcceptedAs b ms) (sym e) (whole_accepted d ms s))
