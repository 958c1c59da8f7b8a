use Rattle.std.proofs.Common.{refl}
use Rattle.schema.specs.Messages.{resource}
use Rattle.schema.specs.Shape.{End, One, Text}
use Rattle.prof_rec.specs.Views.{resource_profiles_view}
use Rattle.renumber.proofs.Parts.{resource_parts}
use Rattle.renumber.proofs.Walks.{walked_nothing, walked_row, walked_rows}
use Rattle.renumber.proofs.records.ResourceProfilesMeets.meet.Goals as goal

pub each-requires : goal.each-requires
each-requires g c = rw c.as_slice.ensures ((resource_parts c.args.walk.now.source (resource_profiles_view c.args.self.now) c.requires).1)

pub returns-clause-walked : goal.returns-clause-walked
returns-clause-walked g c =
    let x = resource_profiles_view c.args.self.now in
    walked_row _ _ _ x (walked_nothing resource refl x.0 _)
    (walked_rows _ _ _ x.1 (rw c.as_slice.ensures at c.in_ok-each.ensures.walked) (walked_nothing (One 3 Text End) refl x.1.1 _))
