use Rattle.split_merge.specs.PartSteps.{messages_in}
use Rattle.split_merge.proofs.Growth.{grown, whole_in_limit}
use Rattle.split_merge.proofs.cutting.add_after.Goals as goal

pub returns-in-Ok-clause-growth : goal.returns-in-Ok-clause-growth
returns-in-Ok-clause-growth g c =
    let input = c.args.input.now in
    grown (messages_in input) input.limit c.args.last c.args.place c.args.over.now.adder.draft c.add_at.new.over.adder.draft c.requires.last c.requires.next c.joining_after-joining.result
    c.joining_after-joining.ensures c.in-Ok.ensures.ok

pub returns-in-Err-OutputLimit-clause-growth : goal.returns-in-Err-OutputLimit-clause-growth
returns-in-Err-OutputLimit-clause-growth g c =
    let input = c.args.input.now in
    let f = rw c.in-Err-OutputLimit.field-0-is at c.in-Err-OutputLimit.ensures.fault in
    whole_in_limit (messages_in input) input.limit c.args.last c.args.place c.args.over.now.adder.draft c.add_at.new.over.adder.draft c.in-Err-OutputLimit.field-0-0 c.requires.last c.requires.next
    c.in-Err-OutputLimit.ensures.same c.joining_after-joining.result c.joining_after-joining.ensures f
