use Rattle.draft_contents.proofs.Repeats.{scope_known}
use Rattle.draft_contents.proofs.heads.repeats_scope.Goals as goal

pub returns-in-Both-clause-is : goal.returns-in-Both-clause-is
returns-in-Both-clause-is g c = scope_known (g.I.NewIndexes.to c.args.indexes.now) c.args.records.now c.args.single.now c.args.known c.requires.known c.in-Both.is
