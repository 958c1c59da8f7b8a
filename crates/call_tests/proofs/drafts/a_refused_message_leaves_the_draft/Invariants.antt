-- The ledger of the test's counter.
use Rattle.call_tests.proofs.drafts.a_refused_message_leaves_the_draft.Given as goal

abbrev pub ghosts-try_too_long : goal.ghosts-try_too_long
ghosts-try_too_long g a = record { name = a.blank.name; parts = a.blank.parts }
