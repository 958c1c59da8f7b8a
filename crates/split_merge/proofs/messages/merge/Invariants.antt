use Rattle.std.proofs.Common.{map, take}
use Rattle.otlp_msg.specs.Checked.{value_of}
use Rattle.split_merge.specs.Merged.{IsMerge}
use Rattle.split_merge.proofs.messages.merge.Given as goal

abbrev pub invariant-loop-message : goal.invariant-loop-message
invariant-loop-message g l = IsMerge l.merging (map value_of (take l.message-index l.message-items))
