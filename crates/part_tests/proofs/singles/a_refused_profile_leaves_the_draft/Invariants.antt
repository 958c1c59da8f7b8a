-- The ledger of the test's counter.
use Rattle.part_tests.proofs.singles.a_refused_profile_leaves_the_draft.Given as goal

abbrev pub ghosts-try_refusals : goal.ghosts-try_refusals
ghosts-try_refusals g a = record { name = a.blank.name; parts = a.blank.parts }
