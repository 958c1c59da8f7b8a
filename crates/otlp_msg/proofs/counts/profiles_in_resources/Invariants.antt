use Rattle.std.proofs.Common.{◌≡◌, take}
use Rattle.otlp_msg.specs.Counts.{resources_count}
use Rattle.otlp_msg.proofs.counts.profiles_in_resources.Given as goal

abbrev pub invariant-loop-record : goal.invariant-loop-record
invariant-loop-record l = l.count ≡ resources_count (take l.record-index l.records)
