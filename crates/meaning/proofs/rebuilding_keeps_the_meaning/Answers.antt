use Rattle.std.proofs.Common.{ap}
use Rattle.meaning.specs.Message.{meaning_text}
use Rattle.meaning.proofs.Message.{means_the_same, rebuilt}
use Rattle.meaning.proofs.Ranges.{rebuilt_whole}
use Rattle.meaning.proofs.rebuilding_keeps_the_meaning.Goals as goal

pub returns : goal.returns
returns c = record { read = rebuilt; whole = rebuilt_whole; again = λ k i ms h. ap (meaning_text k) (means_the_same k i ms h) }
