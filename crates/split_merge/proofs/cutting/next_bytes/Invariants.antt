-- The ledger of the counter of steps.
use Rattle.split_merge.proofs.cutting.next_bytes.Given as goal

abbrev pub ghosts-cut_part : goal.ghosts-cut_part
ghosts-cut_part g a = record { name = a.blank.name; parts = a.blank.parts }
