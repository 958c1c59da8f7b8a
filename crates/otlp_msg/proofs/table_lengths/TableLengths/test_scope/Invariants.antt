use Rattle.prof_rec.specs.Views.{profile_view}
use Rattle.otlp_msg.specs.Lengths.{lengths_view}
use Rattle.otlp_msg.specs.Walk.{profile_spots, within}
use Rattle.otlp_msg.proofs.Walks.{Left}
use Rattle.otlp_msg.proofs.table_lengths.TableLengths.test_scope.Given as goal

abbrev pub invariant-loop-profile : goal.invariant-loop-profile
invariant-loop-profile l = Left (λ i x. within (lengths_view l.self) (profile_spots l.resource l.scope i (profile_view x))) l.profile l.element-items
