use Rattle.prof_rec.specs.Views.{scope_profiles_view}
use Rattle.otlp_msg.specs.Lengths.{lengths_view}
use Rattle.otlp_msg.specs.Walk.{scope_spots, within}
use Rattle.otlp_msg.proofs.Walks.{Left}
use Rattle.otlp_msg.proofs.table_lengths.TableLengths.test_resource.Given as goal

abbrev pub invariant-loop-scope : goal.invariant-loop-scope
invariant-loop-scope l = Left (λ i x. within (lengths_view l.self) (scope_spots l.resource i (scope_profiles_view x))) l.scope l.element-items
