use Rattle.std.proofs.Common.{refl}
use Rattle.renumber.specs.Marks.{CanBeWalkedBack, state_with}
use Rattle.renumber.specs.Walk.{State}
use Rattle.renumber.proofs.Marks.{noted_there, ready_there, state_same, tables_there}
use Rattle.renumber.proofs.walk.Walk.back_to.Goals as goal

pub back_to-requires-clause-mark : goal.back_to-requires-clause-mark
back_to-requires-clause-mark g c =
    let w : State = state_with c.self.inside.source.now c.self.inside.tables c.self.inside.memo in
    let there : CanBeWalkedBack c.args.mark w = rw (← c.self.view_is) at c.requires in
    tables_there c.args.mark w there

pub back_to-requires-2-clause-mark : goal.back_to-requires-2-clause-mark
back_to-requires-2-clause-mark g c =
    let w : State = state_with c.self.inside.source.now c.self.inside.tables c.self.inside.memo in
    let there : CanBeWalkedBack c.args.mark w = rw (← c.self.view_is) at c.requires in
    noted_there c.args.mark w there

pub invariant_of-self : goal.invariant_of-self
invariant_of-self g c =
    let w : State = state_with c.self.inside.source.now c.self.inside.tables c.self.inside.memo in
    let there : CanBeWalkedBack c.args.mark w = rw (← c.self.view_is) at c.requires in
    (c.self.invariant.0, ready_there c.args.mark w there c.back_to.new.self c.back_to-2.new.self c.back_to.ensures c.back_to-2.ensures)

pub returns : goal.returns
returns g c =
    rw (← c.self.view_is)
    (state_same c.self.inside.source.now c.self.inside.source.now c.back_to.new.self _ c.back_to-2.new.self _ refl c.back_to.ensures c.back_to-2.ensures)
