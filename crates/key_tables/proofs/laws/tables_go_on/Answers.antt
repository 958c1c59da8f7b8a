use Rattle.key_tables.proofs.Cuts.{prefixes_itself, prefixes_over}
use Rattle.key_tables.proofs.laws.tables_go_on.Goals as goal

pub returns : goal.returns
returns c = record { same = prefixes_itself; over = prefixes_over }
