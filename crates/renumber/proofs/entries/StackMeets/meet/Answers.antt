use Rattle.std.proofs.Common.{refl}
use Rattle.schema.specs.Shape.{End}
use Rattle.dict_rec.specs.Views.{stack_view}
use Rattle.renumber.proofs.Walks.{walked_nothing, walked_rows}
use Rattle.renumber.proofs.Parts.{stack_indexes}
use Rattle.renumber.proofs.entries.StackMeets.meet.Goals as goal

pub indexes-requires : goal.indexes-requires
indexes-requires g c = λ k. ((refl, (refl, tt)), rw c.as_slice.ensures (stack_indexes c.args.walk.now.source (stack_view c.args.self.now) c.requires))

pub returns-clause-walked : goal.returns-clause-walked
returns-clause-walked g c =
    let x = stack_view c.args.self.now in
    walked_rows c.args.walk.now c.indexes.new.self c.indexes.new.self x (rw c.as_slice.ensures at c.in_ok-indexes.ensures.walked) (walked_nothing End refl tt c.indexes.new.self)
