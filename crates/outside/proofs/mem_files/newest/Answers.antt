use Rattle.std.proofs.Common.{ap, sym, ◌∙◌}
use Rattle.std.specs.Ordering.{nat_cmp}
use Rattle.std.specs.Cmp.Lexicographic.{slice_cmp}
use Rattle.std.specs.FinMap.{find}
use Rattle.outside.proofs.NewestWrite.{find_step}
use Rattle.outside.proofs.mem_files.newest.Goals as goal

pub loop-held-init : goal.loop-held-init
loop-held-init c = ap (find (slice_cmp nat_cmp) c.args.name.now) (sym c.into_iter-held-iterator.ensures.into_iter_gives.0)

pub loop-held-preserved : goal.loop-held-preserved
loop-held-preserved c = find_step _ _ _ _ _ _ _ c.loop-held.invariant c.in-Some.ensures.steps c.as_str.ensures (sym c.if-eq.false ∙ c.eq.ensures)

pub returns-then-eq : goal.returns-then-eq
returns-then-eq c = sym (find_step _ _ _ _ _ _ _ c.loop-held.invariant c.in-Some.ensures.steps c.as_str.ensures (sym c.if-eq.true ∙ c.eq.ensures))
