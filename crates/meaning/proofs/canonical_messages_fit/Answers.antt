use Rattle.meaning.proofs.Ranges.{canonical_fits, meanings_fit, messages_range}
use Rattle.meaning.proofs.canonical_messages_fit.Goals as goal

pub returns : goal.returns
returns c = record { meanings = meanings_fit; ranges = messages_range; messages = canonical_fits }
