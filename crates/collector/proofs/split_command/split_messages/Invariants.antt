use Rattle.std.proofs.Common.{length, map}
use Rattle.otlp_msg.specs.Checked.{value_of}
use Rattle.collector.proofs.SplitParts.{PartsSoFar}
use Rattle.collector.proofs.split_command.split_messages.Given as goal

-- the parts so far are those of the output
abbrev pub invariant-parts : goal.invariant-parts
invariant-parts g l = PartsSoFar l.fn.limit l.fn.prefix (map value_of l.fn.messages) l.splitter l.output

-- profiles that are in no part yet
abbrev pub decreases-parts : goal.decreases-parts
decreases-parts g l = length l.splitter.left
