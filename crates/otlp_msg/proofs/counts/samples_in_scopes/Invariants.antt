use Rattle.std.proofs.Common.{◌≡◌, take}
use Rattle.otlp_msg.specs.Counts.{scopes_samples}
use Rattle.otlp_msg.proofs.counts.samples_in_scopes.Given as goal

abbrev pub invariant-loop-scope : goal.invariant-loop-scope
invariant-loop-scope l = l.count ≡ scopes_samples (take l.scope-index l.scopes)
