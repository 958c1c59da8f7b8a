use Rattle.dict_build.proofs.adder.ProfileAdder.add.Goals as goal

pub returns-clause-ok : goal.returns-clause-ok
returns-clause-ok g c = rw (← c.self.view_is) c.add_at.ensures.ok

pub returns-clause-stands : goal.returns-clause-stands
returns-clause-stands g c = rw (← c.self.view_is) c.self.invariant.grown.stands
