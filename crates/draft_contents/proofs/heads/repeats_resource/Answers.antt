use Rattle.std.proofs.Common.{refl}
use Rattle.draft_contents.proofs.Repeats.{resource_known}
use Rattle.draft_contents.proofs.heads.repeats_resource.Goals as goal

pub returns-in-Resource : goal.returns-in-Resource
returns-in-Resource g c =
    record { is = resource_known (g.I.NewIndexes.to c.args.indexes.now) c.args.records.now c.args.single.now c.args.known c.requires.known c.in-Resource.is; same = refl }
