use Rattle.shown.proofs.Appended.{sample-text, sample-length, sample-positions, location-positions}
use Rattle.shown.proofs.samples_have_their_parts.Goals as goal

pub returns : goal.returns
returns c = record { text = sample-text; sum = sample-length; samples = sample-positions; locations = location-positions }
