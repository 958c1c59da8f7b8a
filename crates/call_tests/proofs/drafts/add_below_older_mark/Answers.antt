use Rattle.std.proofs.Common.{◌∙◌, subst}
use Rattle.draft_contents.specs.Contents.{Contents}
use Rattle.draft_contents.specs.Marks.{GoesOn}
use Rattle.draft_contents.proofs.Marks.{can_go_back, goes_over, marked_back}
use Rattle.call_tests.proofs.drafts.add_below_older_mark.Goals as goal

pub back_to-requires : goal.back_to-requires
back_to-requires g c =
    let grown : GoesOn c.args.draft.now c.add-refused.new.draft = goes_over c.args.draft.now c.add-first.new.draft c.add-refused.new.draft c.add-first.ensures
    (goes_over c.add-first.new.draft c.add-again.new.draft c.add-refused.new.draft
    (subst (λ (d : Contents). GoesOn d c.add-again.new.draft) c.add_and_go_back-second.ensures c.add-again.ensures) c.add-refused.ensures) in
    can_go_back c.mark-older.result c.args.draft.now c.add-refused.new.draft c.mark-older.ensures grown

pub returns : goal.returns
returns g c =
    let grown : GoesOn c.args.draft.now c.add-refused.new.draft = goes_over c.args.draft.now c.add-first.new.draft c.add-refused.new.draft c.add-first.ensures
    (goes_over c.add-first.new.draft c.add-again.new.draft c.add-refused.new.draft
    (subst (λ (d : Contents). GoesOn d c.add-again.new.draft) c.add_and_go_back-second.ensures c.add-again.ensures) c.add-refused.ensures) in
    c.back_to.ensures ∙ marked_back c.mark-older.result c.args.draft.now c.add-refused.new.draft c.mark-older.ensures grown
