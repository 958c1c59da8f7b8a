use Rattle.split_merge.specs.Merged.{IsMerge}
use Rattle.collector.proofs.Joining.{joined_more, joined_stop}
use Rattle.collector.proofs.merge_command.join_files.Goals as goal

pub returns-in-Err : goal.returns-in-Err
returns-in-Err g c =
    joined_stop _ _ _ _ _ _ _ c.loop-name.invariant.0 _ c.loop-name-test.true c.name-item.is c.loop-name.invariant.1 c.in-Err.ensures

pub loop-name-preserved : goal.loop-name-preserved
loop-name-preserved g c =
    joined_more _ _ _ _ _ _ _ (IsMerge c.args.merging.now) (IsMerge c.loop-name.merging) (IsMerge c.join_file.new.merging) c.loop-name.invariant.0 c.in_default.ensures.0
    c.loop-name-test.true c.name-item.is c.loop-name.invariant.1 c.loop-name.invariant.2 c.in_default.ensures.1 c.in_default.ensures.2
