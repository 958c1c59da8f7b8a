use Rattle.std.proofs.Common.{Option, subst, arith}
use Rattle.otlp_msg.specs.declared.path.ProfilePos.{ProfilePos}
use Rattle.draft_contents.specs.Repeats.{HeadsStandIf}
use Rattle.draft_contents.proofs.Repeats.{stands_known_both, stands_known_resource}
use Rattle.draft_contents.proofs.known.known_heads.Goals as goal

pub returns-then-last-pos-2 : goal.returns-then-last-pos-2
returns-then-last-pos-2 c parts m h =
    stands_known_both c.in-Some.last c.args.pos parts m (subst (λ (l : Option ProfilePos). HeadsStandIf l parts m) c.in-Some.is h) (omega (arith, c.if-last-pos.false))
    (omega (arith, c.if-last-pos-2.true))

pub returns-else-last-pos-2 : goal.returns-else-last-pos-2
returns-else-last-pos-2 c parts m h =
    stands_known_resource c.in-Some.last c.args.pos parts m (subst (λ (l : Option ProfilePos). HeadsStandIf l parts m) c.in-Some.is h) (omega (arith, c.if-last-pos.false))
