use Rattle.meaning.proofs.Message.{text_back}
use Rattle.meaning.proofs.canonical_bytes_are_read.Goals as goal

pub returns : goal.returns
returns c = text_back
