-- The ledger of the test's counter.
use Rattle.part_tests.proofs.singles.single_profiles_are_joined_as_asked.Given as goal

abbrev pub ghosts-try_joinings : goal.ghosts-try_joinings
ghosts-try_joinings g a = record { name = a.blank.name; parts = a.blank.parts }
