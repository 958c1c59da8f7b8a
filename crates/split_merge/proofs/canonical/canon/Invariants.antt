-- The ledger of the counter of steps.
use Rattle.split_merge.proofs.canonical.canon.Given as goal

abbrev pub ghosts-canon_with : goal.ghosts-canon_with
ghosts-canon_with g a = record { name = a.blank.name; parts = a.blank.parts }
