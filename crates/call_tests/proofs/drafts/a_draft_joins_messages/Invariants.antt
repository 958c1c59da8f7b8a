-- The ledger of the test's counter.
use Rattle.call_tests.proofs.drafts.a_draft_joins_messages.Given as goal

abbrev pub ghosts-try_two : goal.ghosts-try_two
ghosts-try_two g a = record { name = a.blank.name; parts = a.blank.parts }
