use Rattle.std.proofs.Common.{◌∙◌, ◌++◌, ap}
use Rattle.collector.proofs.CheckLines.{lines_read, lines_stop}
use Rattle.collector.proofs.RunSteps.{out_of_memory}
use Rattle.collector.proofs.check_command.lines_of_files.Goals as goal

pub returns-in-Err : goal.returns-in-Err
returns-in-Err g c = lines_stop _ _ _ _ _ _ _ _ _ c.loop-name-test.true c.name-item.is c.loop-name.invariant c.in-Err.ensures

pub loop-name-preserved : goal.loop-name-preserved
loop-name-preserved g c = lines_read _ _ _ _ _ _ _ _ _ _ c.loop-name-test.true c.name-item.is c.loop-name.invariant c.in-Ok.ensures
    (c.in_default.ensures.ok ∙ ap (λ t. c.loop-name.lines ++ t) c.as_str.ensures)

pub returns-in-Err-append : goal.returns-in-Err-append
returns-in-Err-append g c = out_of_memory _ _ _ _ _ _ _ _ _ _ c.loop-name.invariant.reads c.in-Ok.ensures.reads
