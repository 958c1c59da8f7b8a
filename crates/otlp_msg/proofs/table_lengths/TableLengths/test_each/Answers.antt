use Rattle.std.proofs.Common.{ap, ◌∙◌}
use Rattle.otlp_msg.specs.declared.path.Holder.{Holder}
use Rattle.otlp_msg.specs.Lengths.{lengths_view}
use Rattle.otlp_msg.specs.Walk.{entered}
use Rattle.otlp_msg.specs.Within.{value_within}
use Rattle.otlp_msg.proofs.Places.{placed_at}
use Rattle.otlp_msg.proofs.Walks.{goes_on_seen, stops_seen, ends_seen}
use Rattle.otlp_msg.proofs.table_lengths.TableLengths.test_each.Goals as goal

pub indexes_within-requires : goal.indexes_within-requires
indexes_within-requires g c =
    placed_at g.T.Rows.shape g.T.Rows.view c.args.elements.now c.as_slice-element-items.result.now c.loop-item.item c.element-item.result c.as_slice-element-items.ensures c.requires.each c.loop-item-test.true c.element-item.is

pub returns-in-Err : goal.returns-in-Err
returns-in-Err g c =
    stops_seen (λ i. value_within g.T.Rows.shape (lengths_view c.args.self.now) (entered c.args.holder c.args.field i)) g.T.Rows.view c.args.elements.now c.as_slice-element-items.result.now
    c.loop-item.item c.element-item.result c.indexes_within.result c.in-Err.refusal c.as_slice-element-items.ensures c.loop-item-test.true c.element-item.is c.loop-item.invariant
    (c.indexes_within.ensures ∙ ap (λ (h : Holder). value_within g.T.Rows.shape (lengths_view c.args.self.now) h (g.T.Rows.view c.element-item.result)) c.entered-holder.ensures) c.in-Err.is

pub loop-item-preserved : goal.loop-item-preserved
loop-item-preserved g c =
    goes_on_seen (λ i. value_within g.T.Rows.shape (lengths_view c.args.self.now) (entered c.args.holder c.args.field i)) g.T.Rows.view c.as_slice-element-items.result.now
    c.loop-item.item c.element-item.result c.indexes_within.result c.loop-item-test.true c.element-item.is c.loop-item.invariant
    (c.indexes_within.ensures ∙ ap (λ (h : Holder). value_within g.T.Rows.shape (lengths_view c.args.self.now) h (g.T.Rows.view c.element-item.result)) c.entered-holder.ensures) c.in_default.is

pub returns : goal.returns
returns g c =
    ends_seen (λ i. value_within g.T.Rows.shape (lengths_view c.args.self.now) (entered c.args.holder c.args.field i)) g.T.Rows.view c.args.elements.now c.as_slice-element-items.result.now
    c.loop-item.item c.as_slice-element-items.ensures c.loop-item-test.false c.loop-item.invariant
