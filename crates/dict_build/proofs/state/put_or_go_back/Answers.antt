use Rattle.std.proofs.Common.{◌∙◌}
use Rattle.renumber.proofs.Marks.{can_go_back, marked_back}
use Rattle.dict_build.proofs.Going.{records_back, records_can_go_back}
use Rattle.dict_build.proofs.state.put_or_go_back.Goals as goal

pub back_to-requires : goal.back_to-requires
back_to-requires g c = can_go_back c.mark-mark.result c.args.walk.now c.put_within.new.walk c.mark-mark.ensures c.put_within.ensures.grown

pub back_to-requires-in-Err : goal.back_to-requires-in-Err
back_to-requires-in-Err g c = records_can_go_back c.mark-records_mark.result c.args.records.now c.put_within.new.records c.mark-records_mark.ensures c.put_within.ensures.front

pub returns-in-Err-clause-same_walk : goal.returns-in-Err-clause-same_walk
returns-in-Err-clause-same_walk g c = c.back_to.ensures ∙ marked_back c.mark-mark.result c.args.walk.now c.put_within.new.walk c.mark-mark.ensures c.put_within.ensures.grown

pub returns-in-Err-clause-same_records : goal.returns-in-Err-clause-same_records
returns-in-Err-clause-same_records g c =
    c.back_to-in-Err.ensures ∙ records_back c.mark-records_mark.result c.args.records.now c.put_within.new.records c.mark-records_mark.ensures c.put_within.ensures.front
