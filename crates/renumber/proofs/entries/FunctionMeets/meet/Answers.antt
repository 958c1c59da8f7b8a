use Rattle.std.proofs.Common.{refl}
use Rattle.schema.specs.Shape.{Number, End, One, I64}
use Rattle.dict_rec.specs.Views.{function_view}
use Rattle.renumber.proofs.Walks.{walked_nothing, walked_row}
use Rattle.renumber.proofs.entries.FunctionMeets.meet.Goals as goal

pub returns-clause-walked : goal.returns-clause-walked
returns-clause-walked g c =
    let x = function_view c.args.self.now in
    walked_row _ _ _ x c.in_ok-string.ensures.walked
    (walked_row _ _ _ x.1 c.in_ok-string-2.ensures.walked
    (walked_row _ _ _ x.1.1 c.in_ok-string-3.ensures.walked (walked_nothing (One 4 (Number I64) End) refl x.1.1.1 _)))
