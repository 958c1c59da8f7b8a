use Rattle.draft_contents.proofs.Marks.{can_go_back}
use Rattle.call_tests.proofs.drafts.add_and_go_back.Goals as goal

pub back_to-requires : goal.back_to-requires
back_to-requires g c = can_go_back c.mark-mark.result c.args.draft.now c.add-added.new.draft c.mark-mark.ensures c.add-added.ensures
