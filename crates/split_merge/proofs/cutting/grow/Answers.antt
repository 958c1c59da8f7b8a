use Rattle.std.proofs.Common.{subst}
use Rattle.split_merge.specs.PartSteps.{GrowsPart, messages_in}
use Rattle.split_merge.specs.Places.{place_index}
use Rattle.split_merge.specs.declared.cutting.Growth.{Growth}
use Rattle.split_merge.proofs.cutting.grow.Goals as goal

pub returns-in-Ends-clause-whole : goal.returns-in-Ends-clause-whole
returns-in-Ends-clause-whole g c =
    let input = c.args.input.now in
    let ms = messages_in input in
    subst (λ (growth : Growth). GrowsPart ms input.limit c.profiles.last c.profiles.over.adder.draft c.add_next.new.over.adder.draft growth) c.in-Ends.is c.in-Ok.ensures.growth
    (place_index ms c.args.first) c.profiles.invariant.growing
