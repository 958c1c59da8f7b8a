use Rattle.split_merge.proofs.Merges.{merged_fault}
use Rattle.split_merge.proofs.merging.Merging.finish.Goals as goal

pub returns-in-None-clause-ok : goal.returns-in-None-clause-ok
returns-in-None-clause-ok g c = rw (← c.self.view_is) (rw c.in-None.is c.finished.ensures.ok)

pub returns-in-None-clause-refused : goal.returns-in-None-clause-refused
returns-in-None-clause-refused g c = rw (← c.self.view_is) (rw c.in-None.is c.finished.ensures.refused)

pub returns-in-None-clause-accepted : goal.returns-in-None-clause-accepted
returns-in-None-clause-accepted g c = rw (← c.self.view_is) (rw c.in-None.is c.finished.ensures.accepted)

pub returns-in-None-clause-unique : goal.returns-in-None-clause-unique
returns-in-None-clause-unique g c = rw (← c.self.view_is) (rw c.in-None.is c.finished.ensures.unique)

pub returns-in-Some-clause-refused : goal.returns-in-Some-clause-refused
returns-in-Some-clause-refused g c = rw (← c.self.view_is) (rw c.in-Some.is (merged_fault c.self.inside.draft c.in-Some.size))
