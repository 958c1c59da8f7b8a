use Rattle.operations.proofs.PartProfiles.{parts-flat, each-flat}
use Rattle.operations.proofs.parts_have_the_same_profiles.Goals as goal

pub returns : goal.returns
returns c = record { all = parts-flat; each = each-flat }
