use Rattle.std.proofs.Common.{◌≡◌, take}
use Rattle.otlp_msg.specs.Counts.{scopes_count}
use Rattle.otlp_msg.proofs.counts.profiles_in_scopes.Given as goal

abbrev pub invariant-loop-scope : goal.invariant-loop-scope
invariant-loop-scope l = l.count ≡ scopes_count (take l.scope-index l.scopes)
