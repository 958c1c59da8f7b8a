use Rattle.operations.proofs.Bare.{flat-join}
use Rattle.operations.proofs.joined_meanings_have_the_same_profiles.Goals as goal

pub returns : goal.returns
returns c = flat-join
