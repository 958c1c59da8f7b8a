use Rattle.std.proofs.Common.{◌∙◌, sym, subst}
use Rattle.draft_contents.specs.Contents.{contents}
use Rattle.draft_contents.specs.Meanings.{IsAcceptedAs}
use Rattle.draft_contents.proofs.Drafts.{whole_accepted}
use Rattle.draft_contents.proofs.DraftContents.{whole_is}
use Rattle.dict_build.proofs.draft.Draft.finish.Goals as goal

pub whole_bytes-requires : goal.whole_bytes-requires
whole_bytes-requires g c = c.self.invariant.1.draft.tables.seven

pub returns-in-Ok-clause-ok : goal.returns-in-Ok-clause-ok
returns-in-Ok-clause-ok g c =
    rw (← c.self.view_is) (λ ms s. c.in-Ok.ensures.ok ∙ whole_is (contents c.self.inside.tables c.self.inside.records) ms s.draft)

pub returns-in-Ok-clause-accepted : goal.returns-in-Ok-clause-accepted
returns-in-Ok-clause-accepted g c =
    rw (← c.self.view_is)
    (λ ms s. subst (λ b. IsAcceptedAs b ms) (sym c.in-Ok.ensures.ok) (whole_accepted (contents c.self.inside.tables c.self.inside.records) ms s))
