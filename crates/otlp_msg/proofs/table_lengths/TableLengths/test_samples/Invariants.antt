use Rattle.schema.specs.Messages.{sample}
use Rattle.prof_rec.specs.Views.{sample_view}
use Rattle.otlp_msg.specs.Lengths.{lengths_view}
use Rattle.otlp_msg.specs.Walk.{entered}
use Rattle.otlp_msg.specs.Within.{value_within}
use Rattle.otlp_msg.proofs.Walks.{Left}
use Rattle.otlp_msg.proofs.table_lengths.TableLengths.test_samples.Given as goal

abbrev pub invariant-loop-place : goal.invariant-loop-place
invariant-loop-place l = Left (λ i x. value_within sample (lengths_view l.self) (entered l.holder l.field i) (sample_view x)) l.place l.samples
