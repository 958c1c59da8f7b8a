use Rattle.std.proofs.Common.{◌≡◌, take}
use Rattle.otlp_msg.specs.Counts.{profiles_samples}
use Rattle.otlp_msg.proofs.counts.samples_in_profiles.Given as goal

abbrev pub invariant-loop-profile : goal.invariant-loop-profile
invariant-loop-profile l = l.count ≡ profiles_samples (take l.profile-index l.profiles)
