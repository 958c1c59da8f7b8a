use Rattle.split_merge.proofs.Joined.{same_profiles}
use Rattle.split_merge.proofs.laws.merged_messages_keep_their_profiles.Goals as goal

pub returns : goal.returns
returns c = same_profiles
