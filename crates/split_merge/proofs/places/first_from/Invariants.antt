use Rattle.std.proofs.Common.{◌≡◌, map, take}
use Rattle.otlp_msg.specs.Checked.{value_of}
use Rattle.split_merge.specs.Places.{profiles_of_all}
use Rattle.split_merge.proofs.places.first_from.Given as goal

abbrev pub invariant-loop-message : goal.invariant-loop-message
invariant-loop-message l = profiles_of_all (take l.message (map value_of l.messages)) ≡ profiles_of_all (take l.from (map value_of l.messages))
