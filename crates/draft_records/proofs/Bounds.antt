-- Sums that are small.
use Rattle.std.proofs.Common.{ℕ, ◌+◌, ◌≤◌, ◌^◌, Option, Some, None, arith}
use Rattle.parts.specs.Sums.{Sums, scope_size, resource_size, sum_of}
use Rattle.draft_records.specs.Running.{AreFew, IsFew}

scope_least : (o : Option ℕ) (n : ℕ) → n ≤ scope_size o n
scope_least None n = omega arith
scope_least (Some f) n = omega arith

resource_least : (o : Option ℕ) (n : ℕ) → n ≤ resource_size o n
resource_least None n = omega arith
resource_least (Some f) n = omega arith

scope_few : (o : Option ℕ) (n : ℕ) → scope_size o n ≤ 2 ^ 59 → IsFew o
scope_few None n h = tt
scope_few (Some f) n h = omega arith

resource_few : (o : Option ℕ) (n : ℕ) → resource_size o n ≤ 2 ^ 59 → IsFew o
resource_few None n h = tt
resource_few (Some f) n h = omega arith

-- where the whole is small, each sum is
pub few_of : (s : Sums) → sum_of s ≤ 2 ^ 59 → AreFew s
few_of s h =
    let a = scope_least s.scope s.profiles in
    let b = resource_least s.resource (s.inner + scope_size s.scope s.profiles) in
    record {
      closed = omega arith;
      resource = resource_few s.resource (s.inner + scope_size s.scope s.profiles) (omega arith);
      inner = omega arith;
      scope = scope_few s.scope s.profiles (omega arith);
      profiles = omega arith;
    }
