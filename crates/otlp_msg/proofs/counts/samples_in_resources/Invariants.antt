use Rattle.std.proofs.Common.{◌≡◌, take}
use Rattle.otlp_msg.specs.Counts.{resources_samples}
use Rattle.otlp_msg.proofs.counts.samples_in_resources.Given as goal

abbrev pub invariant-loop-record : goal.invariant-loop-record
invariant-loop-record l = l.count ≡ resources_samples (take l.record-index l.records)
