use Rattle.renumber.proofs.Marks.{marked}
use Rattle.renumber.proofs.walk.Walk.mark.Goals as goal

pub returns : goal.returns
returns g c = rw (← c.self.view_is) (marked _ _ c.self.invariant.0 c.self.invariant.1 c.mark.ensures c.mark-2.ensures)
