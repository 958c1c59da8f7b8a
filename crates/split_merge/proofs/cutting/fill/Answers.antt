use Rattle.split_merge.specs.PartSteps.{messages_in}
use Rattle.split_merge.proofs.CutParts.{refused_first}
use Rattle.split_merge.proofs.Growth.{begun}
use Rattle.split_merge.proofs.cutting.fill.Goals as goal

pub returns-in-Err-clause-refused : goal.returns-in-Err-clause-refused
returns-in-Err-clause-refused g c =
    let input = c.args.input.now in
    refused_first (messages_in input) c.args.first c.requires.place input.limit c.requires.limit c.args.over.now.adder.draft c.in-Err.fault c.requires.empty c.in-Err.ensures.fault

pub grow-requires-clause-growing : goal.grow-requires-clause-growing
grow-requires-clause-growing g c =
    let input = c.args.input.now in
    begun (messages_in input) input.limit c.args.first c.args.over.now.adder.draft c.add_at.new.over.adder.draft c.requires.place c.requires.empty c.in_default.ensures.ok
