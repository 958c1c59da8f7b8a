use Rattle.std.proofs.Common.{refl}
use Rattle.schema.specs.Shape.{Any, End}
use Rattle.dict_rec.specs.Views.{attribute_view}
use Rattle.renumber.proofs.Walks.{walked_nothing, walked_row}
use Rattle.renumber.proofs.entries.AttrMeets.meet.Goals as goal

pub returns-clause-walked : goal.returns-clause-walked
returns-clause-walked g c =
    let x = attribute_view c.args.self.now in
    walked_row _ _ _ x c.in_ok-string.ensures.walked
    (walked_row _ _ _ x.1 (walked_nothing (Any 1) refl x.1.0 _)
    (walked_row _ _ _ x.1.1 c.in_ok-string-2.ensures.walked (walked_nothing End refl tt _)))
