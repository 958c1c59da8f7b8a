use Rattle.std.proofs.Common.{◌≡◌, ◌-◌}
use Rattle.split_merge.specs.PartSteps.{IsGrowing, IsOver, messages_in}
use Rattle.split_merge.specs.Places.{place_index, profiles_of_all}
use Rattle.split_merge.proofs.cutting.grow.Given as goal

abbrev pub invariant-profiles : goal.invariant-profiles
invariant-profiles g l = record {
  over : IsOver (messages_in l.input) l.over.number l.over.adder;
  start : l.over.adder.start ≡ l.initial.over.adder.start;
  growing : IsGrowing (messages_in l.input) l.input.limit (place_index (messages_in l.input) l.fn.first) l.last l.over.adder.draft;
}

abbrev pub decreases-profiles : goal.decreases-profiles
decreases-profiles g l = profiles_of_all (messages_in l.input) - place_index (messages_in l.input) l.last
