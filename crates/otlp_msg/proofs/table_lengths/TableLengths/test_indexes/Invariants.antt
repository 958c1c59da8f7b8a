use Rattle.std.proofs.Common.{[], ◌∷◌}
use Rattle.otlp_msg.specs.Lengths.{lengths_view}
use Rattle.otlp_msg.specs.Walk.{spot, within}
use Rattle.otlp_msg.proofs.Walks.{Left}
use Rattle.otlp_msg.proofs.table_lengths.TableLengths.test_indexes.Given as goal

abbrev pub invariant-loop-item : goal.invariant-loop-item
invariant-loop-item l = Left (λ i z. within (lengths_view l.self) (spot l.table z l.holder l.field i ∷ [])) l.item l.indexes
