-- The ledger of the counter of steps.
use Rattle.split_merge.proofs.merging.Merging.add.Given as goal

abbrev pub ghosts-joined : goal.ghosts-joined
ghosts-joined g a = record { name = a.blank.name; parts = a.blank.parts }
