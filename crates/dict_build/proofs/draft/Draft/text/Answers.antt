use Rattle.std.proofs.Common.{◌∙◌, sym, subst}
use Rattle.draft_contents.specs.Contents.{contents}
use Rattle.draft_contents.specs.Meanings.{IsAcceptedAs}
use Rattle.draft_contents.proofs.Drafts.{whole_accepted}
use Rattle.draft_contents.proofs.DraftContents.{whole_is}
use Rattle.dict_build.proofs.draft.Draft.text.Goals as goal

pub copied_bytes-requires : goal.copied_bytes-requires
copied_bytes-requires g c = c.self.invariant.1.draft.tables.seven

pub returns-clause-ok : goal.returns-clause-ok
returns-clause-ok g c =
    rw (← c.self.view_is) (λ ms s. c.in_ok-bytes.ensures ∙ whole_is (contents c.self.inside.tables c.self.inside.records) ms s.draft)

pub returns-clause-accepted : goal.returns-clause-accepted
returns-clause-accepted g c =
    rw (← c.self.view_is)
    (λ ms s. subst (λ b. IsAcceptedAs b ms) (sym c.in_ok-bytes.ensures) (whole_accepted (contents c.self.inside.tables c.self.inside.records) ms s))
