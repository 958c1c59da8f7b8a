use Rattle.operations.proofs.Bare.{flat-under}
use Rattle.operations.proofs.under_last_has_the_same_profiles.Goals as goal

pub returns : goal.returns
returns c = flat-under
