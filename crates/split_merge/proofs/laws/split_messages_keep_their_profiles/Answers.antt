use Rattle.split_merge.proofs.AllParts.{kept}
use Rattle.split_merge.proofs.laws.split_messages_keep_their_profiles.Goals as goal

pub returns : goal.returns
returns c = kept
