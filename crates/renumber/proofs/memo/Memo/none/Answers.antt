use Rattle.std.proofs.Common.{◌≡◌, ap, arith, length, map, ◌∙◌}
use Rattle.std.proofs.lemmas.List.{take_all}
use Rattle.schema.specs.Tables.{every_table}
use Rattle.renumber.proofs.Beginning.{none_by_table, none_of, none_unmet, size_in}
use Rattle.renumber.proofs.memo.Memo.none.Goals as goal

pub returns-clause-none : goal.returns-clause-none
returns-clause-none c =
    let ns = c.lengths-lengths.result in
    let e : ns ≡ map (size_in c.args.dictionary.now) every_table = c.lengths-lengths.ensures in
    rw c.from_vec.ensures
    (none_by_table c.args.dictionary.now _
    (c.loop-len.invariant ∙ ap none_of (take_all c.loop-len.len-index ns (omega (arith, ap length e, c.loop-len-test.false)) ∙ e)))

pub returns-clause-unmet : goal.returns-clause-unmet
returns-clause-unmet c =
    let ns = c.lengths-lengths.result in
    let e : ns ≡ map (size_in c.args.dictionary.now) every_table = c.lengths-lengths.ensures in
    rw c.from_vec.ensures
    (none_unmet c.args.dictionary.now _
    (c.loop-len.invariant ∙ ap none_of (take_all c.loop-len.len-index ns (omega (arith, ap length e, c.loop-len-test.false)) ∙ e)))
