use Rattle.meaning.proofs.Texts.{entries-apart}
use Rattle.meaning.proofs.entry_bytes_tell_entries_apart.Goals as goal

pub returns : goal.returns
returns c = entries-apart
