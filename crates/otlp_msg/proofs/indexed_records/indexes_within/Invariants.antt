use Rattle.prof_rec.specs.Views.{resource_profiles_view}
use Rattle.otlp_msg.specs.Lengths.{lengths_view}
use Rattle.otlp_msg.specs.Walk.{resource_spots, within}
use Rattle.otlp_msg.proofs.Walks.{Left}
use Rattle.otlp_msg.proofs.indexed_records.indexes_within.Given as goal

abbrev pub invariant-loop-resource : goal.invariant-loop-resource
invariant-loop-resource l = Left (λ i x. within (lengths_view l.lengths) (resource_spots i (resource_profiles_view x))) l.resource l.element-items
