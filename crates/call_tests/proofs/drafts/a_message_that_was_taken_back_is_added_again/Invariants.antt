-- The ledger of the test's counter.
use Rattle.call_tests.proofs.drafts.a_message_that_was_taken_back_is_added_again.Given as goal

abbrev pub ghosts-try_back : goal.ghosts-try_back
ghosts-try_back g a = record { name = a.blank.name; parts = a.blank.parts }
