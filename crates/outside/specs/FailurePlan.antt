-- Which calls of an object are to fail.
use Rattle.std.specs.Prelude.{◌≡◌, ◌↔◌, ◌+◌, ◌-◌, ◌^◌, ℕ, List, min, Contains, Option, Some, None}

-- the numbers of the calls that are to fail, counted from 0, and the number of the next call
abbrev pub FailurePlan : Type 0
FailurePlan = List ℕ × ℕ

-- one call was numbered, and it failed exactly where its number is in the list, where a plan is told
abbrev pub FollowsPlan : Option FailurePlan → Option FailurePlan → Type 0 → Type 0
FollowsPlan None new failed = Unit {0}
FollowsPlan (Some plan) new failed =
    (failed ↔ Contains plan.0 plan.1) × (new ≡ Some (plan.0, min (plan.1 + 1) (2 ^ 64 - 1)))
