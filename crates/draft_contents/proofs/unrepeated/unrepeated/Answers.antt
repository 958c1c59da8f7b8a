use Rattle.std.proofs.Common.{refl}
use Rattle.draft_contents.proofs.LeftOut.{after_first}
use Rattle.draft_contents.proofs.unrepeated.unrepeated.Goals as goal

pub returns-then-branch-clause-is : goal.returns-then-branch-clause-is
returns-then-branch-clause-is g c =
    after_first (g.I.NewIndexes.to c.args.indexes.now) c.args.records.now c.is_last_resource.new.self c.first-item.result c.args.found.now _ c.in_ok-is_last_resource.field-0
    c.as_slice.result.now c.unrepeated_in.result c.in-len1-up.len_at_least c.first-item.is refl c.as_slice.ensures c.in_ok-is_last_resource.ensures.same
    c.in_ok-is_last_resource.ensures.is c.if-branch.true c.unrepeated_in.ensures.is
