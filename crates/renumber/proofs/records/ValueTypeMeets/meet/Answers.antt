use Rattle.std.proofs.Common.{refl}
use Rattle.schema.specs.Shape.{End}
use Rattle.prof_rec.specs.Views.{value_type_view}
use Rattle.renumber.proofs.Walks.{walked_nothing, walked_row}
use Rattle.renumber.proofs.records.ValueTypeMeets.meet.Goals as goal

pub returns-clause-walked : goal.returns-clause-walked
returns-clause-walked g c =
    let x = value_type_view c.args.self.now in
    walked_row _ _ _ x c.in_ok-string.ensures.walked
    (walked_row _ _ _ x.1 c.in_ok-string-2.ensures.walked (walked_nothing End refl tt _))
