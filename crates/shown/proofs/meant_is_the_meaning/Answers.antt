use Rattle.shown.proofs.Meant.{meant-is}
use Rattle.shown.proofs.meant_is_the_meaning.Goals as goal

pub returns : goal.returns
returns c = meant-is
