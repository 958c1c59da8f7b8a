use Rattle.std.proofs.Common.{take, Result, Ok}
use Rattle.split_merge.specs.Merged.{IsMerge}
use Rattle.collector.specs.MergeAnswer.{Gains}
use Rattle.collector.specs.Messages.{each, message_at}
use Rattle.collector.specs.RunSteps.{ReadsTo}
use Rattle.collector.specs.declared.stop.Stop.{Stop}
use Rattle.collector.proofs.merge_command.join_files.Given as goal

-- the files so far are read, and their messages are joined in order
abbrev pub invariant-loop-name : goal.invariant-loop-name
invariant-loop-name g l =
    ReadsTo g.F.Files l.fn.files l.files (take l.name-index l.names) (λ m. each (message_at m) (take l.name-index l.names))
    (λ messages _. Gains (IsMerge l.fn.merging) (IsMerge l.merging) messages) (let r : Result (Unit {0}) Stop = Ok tt in r)
