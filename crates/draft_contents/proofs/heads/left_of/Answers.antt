use Rattle.std.proofs.Common.{subst}
use Rattle.draft_contents.specs.Repeats.{AreKnown}
use Rattle.draft_contents.specs.Singles.{coming}
use Rattle.draft_contents.specs.declared.incoming.Incoming.{Incoming}
use Rattle.draft_contents.proofs.heads.left_of.Goals as goal

pub left_of_single-requires-clause-known : goal.left_of_single-requires-clause-known
left_of_single-requires-clause-known g c = subst (λ (x : Incoming). AreKnown c.args.known c.args.records.now (coming x)) c.in-Profile.is c.requires.known
