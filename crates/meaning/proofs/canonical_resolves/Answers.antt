use Rattle.meaning.proofs.Resolution.{canonical}
use Rattle.meaning.proofs.canonical_resolves.Goals as goal

pub returns : goal.returns
returns c = canonical
