use Rattle.std.proofs.Common.{refl, arith}
use Rattle.draft_contents.specs.Adding.{added_moved}
use Rattle.draft_contents.proofs.Additions.{measured_grows, measured_size}
use Rattle.draft_contents.proofs.adding.measured.Goals as goal

pub returns-then-size-limit-clause-fault : goal.returns-then-size-limit-clause-fault
returns-then-size-limit-clause-fault g c = (
  measured_size c.args.tables.now c.args.tables.now c.args.records.now (added_moved (g.I.NewIndexes.to c.args.indexes.now) c.args.added.now) c.totals.result
      c.in_ok-sums.sums c.total-total.result c.whole_len-size.result c.totals.ensures c.in_ok-sums.ensures c.total-total.ensures.is refl c.whole_len-size.ensures,
  omega (arith, c.if-size-limit.true),
)

pub overflow_sub-result : goal.overflow_sub-result
overflow_sub-result g c =
    measured_grows c.args.records.now (added_moved (g.I.NewIndexes.to c.args.indexes.now) c.args.added.now) c.totals.result c.in_ok-sums.sums c.total-total.result
    c.text_len.result c.totals.ensures c.in_ok-sums.ensures c.total-total.ensures.is c.text_len.ensures.is

pub returns-clause-small : goal.returns-clause-small
returns-clause-small g c =
    let e = measured_size c.args.tables.now c.args.tables.now c.args.records.now (added_moved (g.I.NewIndexes.to c.args.indexes.now) c.args.added.now) c.totals.result
    c.in_ok-sums.sums c.total-total.result c.whole_len-size.result c.totals.ensures c.in_ok-sums.ensures c.total-total.ensures.is refl c.whole_len-size.ensures in
    omega (arith, e, c.if-size-limit.false)
