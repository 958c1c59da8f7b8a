use Rattle.std.proofs.Common.{◌∙◌}
use Rattle.key_tables.proofs.Spelling.{none_measured}
use Rattle.key_tables.proofs.key_tables.KeyTables.take.Goals as goal

pub invariant_of-replace : goal.invariant_of-replace
invariant_of-replace g c = none_measured c.from_vec.result (c.from_vec.ensures ∙ c.new.ensures.items)
