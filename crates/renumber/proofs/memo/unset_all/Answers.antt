use Rattle.std.proofs.Common.{◌+◌, ◌-◌, ap, length, take, ◌∙◌}
use Rattle.renumber.specs.Memos.{unset_each}
use Rattle.renumber.proofs.MemoSteps.{unset_fewer, unset_many}
use Rattle.renumber.proofs.memo.unset_all.Goals as goal

pub loop-done-preserved : goal.loop-done-preserved
loop-done-preserved c =
    let ss = c.args.spots.now in
    let done = c.loop-done.done in
    record {
      seven = unset_many c.loop-done.tables c.unset.new.tables (λ v. v.items) _ c.unset.ensures ∙ c.loop-done.invariant.seven;
      rest = ap (unset_each (take (length ss - (done + 1)) ss)) c.unset.ensures ∙ unset_fewer ss done _ _ c.loop-done-test.true ∙ c.loop-done.invariant.rest;
    }
