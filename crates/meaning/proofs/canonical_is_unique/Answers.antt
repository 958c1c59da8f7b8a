use Rattle.meaning.proofs.Resolution.{unique}
use Rattle.meaning.proofs.canonical_is_unique.Goals as goal

pub returns : goal.returns
returns c = unique
