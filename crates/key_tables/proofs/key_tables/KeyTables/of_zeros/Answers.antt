use Rattle.key_tables.proofs.Spelling.{zeros_measured}
use Rattle.key_tables.proofs.key_tables.KeyTables.of_zeros.Goals as goal

pub invariant_of-result : goal.invariant_of-result
invariant_of-result g c = zeros_measured c.args.tables c.requires
