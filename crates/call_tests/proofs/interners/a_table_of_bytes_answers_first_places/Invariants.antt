-- The ledger of the test's counter.
use Rattle.call_tests.proofs.interners.a_table_of_bytes_answers_first_places.Given as goal

abbrev pub ghosts-try_bytes : goal.ghosts-try_bytes
ghosts-try_bytes g a = record { name = a.blank.name; parts = a.blank.parts }
