use Rattle.parts.specs.LastHeads.{last_heads}
use Rattle.draft_contents.proofs.LeftOut.{no_scopes}
use Rattle.draft_contents.proofs.unrepeated.unrepeated_in.Goals as goal

pub returns-in_default-clause-is : goal.returns-in_default-clause-is
returns-in_default-clause-is g c = no_scopes (g.I.NewIndexes.to c.args.indexes.now) (last_heads c.args.records.now).scope c.args.found.now c.args.resources.now c.in_default.len_below
