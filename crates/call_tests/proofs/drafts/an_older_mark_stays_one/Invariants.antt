-- The ledger of the test's counter.
use Rattle.call_tests.proofs.drafts.an_older_mark_stays_one.Given as goal

abbrev pub ghosts-try_older_mark : goal.ghosts-try_older_mark
ghosts-try_older_mark g a = record { name = a.blank.name; parts = a.blank.parts }
