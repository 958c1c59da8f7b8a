use Rattle.meaning.proofs.Closure.{record_within, entries_within}
use Rattle.meaning.proofs.indexes_in_tables.Goals as goal

pub returns : goal.returns
returns c = record { records = record_within; entries = entries_within }
