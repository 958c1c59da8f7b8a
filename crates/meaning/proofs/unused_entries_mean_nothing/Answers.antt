use Rattle.meaning.proofs.UnusedEntries.{unused}
use Rattle.meaning.proofs.unused_entries_mean_nothing.Goals as goal

pub returns : goal.returns
returns c d h more s i t w = unused d more h s i t w
