use Rattle.std.proofs.Common.{◌-◌, arith, sym, ap, ◌∙◌}
use Rattle.tables.specs.KeyRun.{begin_from}
use Rattle.tables.proofs.KeyRuns.{begin_first, begin_read}
use Rattle.tables.proofs.key_row.begin_of.Goals as goal

pub returns-then-place-eq0 : goal.returns-then-place-eq0
returns-then-place-eq0 c = sym (ap (begin_from 0 c.args.rows.now) c.if-place-eq0.true ∙ begin_first 0 c.args.rows.now)

pub returns-else-place-eq0 : goal.returns-else-place-eq0
returns-else-place-eq0 c =
    sym (begin_read 0 c.args.rows.now c.args.place (c.args.place - 1) _ (omega (arith, c.if-place-eq0.false)) (omega (arith, c.if-place-eq0.false, c.requires)))
