use Rattle.meaning.proofs.Texts.{text-parts, dictionary-text}
use Rattle.meaning.proofs.canonical_bytes_have_their_parts.Goals as goal

pub returns : goal.returns
returns c = record { whole = text-parts; dictionary = dictionary-text }
