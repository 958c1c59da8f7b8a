use Rattle.meaning.proofs.Entries.{written_apart}
use Rattle.meaning.proofs.entries_tell_values_apart.Goals as goal

pub returns : goal.returns
returns c = written_apart
