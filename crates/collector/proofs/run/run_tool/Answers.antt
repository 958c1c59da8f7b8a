use Rattle.collector.proofs.FaultNames.{write_named}
use Rattle.collector.proofs.run.run_tool.Goals as goal

pub returns-in-Err-clause-failed_write : goal.returns-in-Err-clause-failed_write
returns-in-Err-clause-failed_write g c =
    write_named _ _ _ _ _ _ _ _ _ _ _ c.in-Err.stop c.tell.ensures.status c.tell.ensures.line c.in-Err.ensures.fault c.in-Err.ensures.failed
