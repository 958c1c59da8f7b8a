use Rattle.std.proofs.Common.{subst, sym}
use Rattle.draft_contents.specs.Contents.{Contents}
use Rattle.draft_contents.specs.Draft.{StandsForSome}
use Rattle.draft_contents.specs.Marks.{cut_to}
use Rattle.dict_build.proofs.draft.Draft.back_to.Goals as goal

pub invariant_of-self : goal.invariant_of-self
invariant_of-self g c =
    subst StandsForSome (sym c.cut_back.ensures) (subst (λ (d : Contents). StandsForSome (cut_to c.args.mark d)) (sym c.self.view_is) c.requires.mark.stands)
