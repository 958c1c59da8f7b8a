use Rattle.std.proofs.Common.{take, Ok}
use Rattle.collector.specs.CheckAnswer.{lines_at}
use Rattle.collector.specs.RunSteps.{IsRead}
use Rattle.collector.proofs.check_command.lines_of_files.Given as goal

-- the files so far are read, and their lines stand in order
abbrev pub invariant-loop-name : goal.invariant-loop-name
invariant-loop-name g l = IsRead g.F.Files l.fn.files l.files (take l.name-index l.names) (λ m. lines_at m (take l.name-index l.names)) (Ok l.lines)
