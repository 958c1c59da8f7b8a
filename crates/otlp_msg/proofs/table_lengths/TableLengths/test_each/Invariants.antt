use Rattle.otlp_msg.specs.Lengths.{lengths_view}
use Rattle.otlp_msg.specs.Walk.{entered}
use Rattle.otlp_msg.specs.Within.{value_within}
use Rattle.otlp_msg.proofs.Walks.{Left}
use Rattle.otlp_msg.proofs.table_lengths.TableLengths.test_each.Given as goal

abbrev pub invariant-loop-item : goal.invariant-loop-item
invariant-loop-item g l = Left (λ i x. value_within g.T.Rows.shape (lengths_view l.self) (entered l.holder l.field i) (g.T.Rows.view x)) l.item l.element-items
