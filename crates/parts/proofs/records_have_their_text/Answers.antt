use Rattle.parts.proofs.Values.{value-parts}
use Rattle.parts.proofs.Spelling.{records-text}
use Rattle.parts.proofs.records_have_their_text.Goals as goal

pub returns : goal.returns
returns c = record { text = records-text; values = value-parts }
