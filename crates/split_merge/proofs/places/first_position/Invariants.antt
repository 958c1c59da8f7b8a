use Rattle.std.proofs.Common.{◌≡◌, map, take}
use Rattle.prof_rec.specs.Views.{resource_profiles_view}
use Rattle.split_merge.specs.Places.{profiles_in_records}
use Rattle.split_merge.proofs.places.first_position.Given as goal

abbrev pub invariant-loop-resource : goal.invariant-loop-resource
invariant-loop-resource l =
    profiles_in_records (take l.resource (map resource_profiles_view l.records)) ≡ profiles_in_records (take l.from (map resource_profiles_view l.records))
