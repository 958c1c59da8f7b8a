use Rattle.std.proofs.Common.{ap, ◌∙◌}
use Rattle.otlp_msg.specs.declared.path.Holder.{Holder}
use Rattle.otlp_msg.specs.Lengths.{lengths_view}
use Rattle.otlp_msg.specs.Walk.{entry_holder}
use Rattle.otlp_msg.specs.Within.{value_within}
use Rattle.otlp_msg.proofs.Places.{placed_at}
use Rattle.otlp_msg.proofs.Walks.{goes_on_seen, stops_seen, ends_seen}
use Rattle.otlp_msg.proofs.table_lengths.TableLengths.test_entries.Goals as goal

pub indexes_within-requires : goal.indexes_within-requires
indexes_within-requires g c =
    placed_at g.T.Rows.shape g.T.Rows.view c.args.entries.now c.as_slice-record-items.result.now c.loop-entry.entry c.record-item.result c.as_slice-record-items.ensures c.requires.each c.loop-entry-test.true c.record-item.is

pub returns-in-Err : goal.returns-in-Err
returns-in-Err g c =
    stops_seen (λ i. value_within g.T.Rows.shape (lengths_view c.args.self.now) (entry_holder c.args.table i)) g.T.Rows.view c.args.entries.now c.as_slice-record-items.result.now
    c.loop-entry.entry c.record-item.result c.indexes_within.result c.in-Err.refusal c.as_slice-record-items.ensures c.loop-entry-test.true c.record-item.is c.loop-entry.invariant
    (c.indexes_within.ensures ∙ ap (λ (h : Holder). value_within g.T.Rows.shape (lengths_view c.args.self.now) h (g.T.Rows.view c.record-item.result)) c.of_entry-holder.ensures) c.in-Err.is

pub loop-entry-preserved : goal.loop-entry-preserved
loop-entry-preserved g c =
    goes_on_seen (λ i. value_within g.T.Rows.shape (lengths_view c.args.self.now) (entry_holder c.args.table i)) g.T.Rows.view c.as_slice-record-items.result.now
    c.loop-entry.entry c.record-item.result c.indexes_within.result c.loop-entry-test.true c.record-item.is c.loop-entry.invariant
    (c.indexes_within.ensures ∙ ap (λ (h : Holder). value_within g.T.Rows.shape (lengths_view c.args.self.now) h (g.T.Rows.view c.record-item.result)) c.of_entry-holder.ensures) c.in_default.is

pub returns : goal.returns
returns g c =
    ends_seen (λ i. value_within g.T.Rows.shape (lengths_view c.args.self.now) (entry_holder c.args.table i)) g.T.Rows.view c.args.entries.now c.as_slice-record-items.result.now
    c.loop-entry.entry c.as_slice-record-items.ensures c.loop-entry-test.false c.loop-entry.invariant
