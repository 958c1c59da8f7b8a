use Rattle.split_merge.specs.Canonical.{IsAcceptedAs, IsOnlyOf}
use Rattle.split_merge.specs.Merged.{IsMerge, joined_meaning, merged}
use Rattle.collector.proofs.Held.{built_of_held, true_of_held}
use Rattle.collector.proofs.merge_command.merged_file.Goals as goal

pub returns-clause-computed : goal.returns-clause-computed
returns-clause-computed g c messages held =
    c.output_of_built.ensures.computed (merged messages) (built_of_held c.finish.result messages (IsMerge c.args.merging) held c.finish.ensures.ok c.finish.ensures.refused)

pub returns-clause-rebuilt : goal.returns-clause-rebuilt
returns-clause-rebuilt g c messages held =
    c.output_of_built.ensures.rebuilt (joined_meaning messages)
    (true_of_held c.finish.result messages (IsMerge c.args.merging) (λ ms b. IsAcceptedAs b (joined_meaning ms)) held c.finish.ensures.accepted)
    (true_of_held c.finish.result messages (IsMerge c.args.merging) (λ ms b. IsOnlyOf b (joined_meaning ms)) held c.finish.ensures.unique)
