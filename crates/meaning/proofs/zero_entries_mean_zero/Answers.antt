use Rattle.meaning.proofs.Zeros.{blank-resolves, zero-index, zero-again}
use Rattle.meaning.proofs.zero_entries_mean_zero.Goals as goal

pub returns : goal.returns
returns c = record { empty = blank-resolves; index = zero-index; renumbered = zero-again }
