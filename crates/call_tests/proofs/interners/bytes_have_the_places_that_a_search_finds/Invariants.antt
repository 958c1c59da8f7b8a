-- The ledger of the test's counter.
use Rattle.call_tests.proofs.interners.bytes_have_the_places_that_a_search_finds.Given as goal

abbrev pub ghosts-try_both : goal.ghosts-try_both
ghosts-try_both g a = record { name = a.blank.name; parts = a.blank.parts }
