use Rattle.std.proofs.Common.{take}
use Rattle.collector.specs.KeptFiles.{AreKept}
use Rattle.collector.proofs.kept.read_files.Given as goal

-- the files so far are kept
abbrev pub invariant-loop-name : goal.invariant-loop-name
invariant-loop-name g l = AreKept g.F.Files l.fn.files l.files (take l.name-index l.names) l.kept
