-- Running sums in the program.
use Rattle.std.specs.Prelude.{ℕ, ◌+◌, ◌≤◌, ◌^◌, Option, Some, None}
use Rattle.schema.specs.AnySpell.{long_length}
use Rattle.parts.specs.Sums.{Sums, scope_size, sum_of}
use Rattle.draft_records.specs.declared.running.RunningSums.{RunningSums}

-- they are those of parts, and those of parts are they
abbrev pub sums_in : RunningSums → Sums
sums_in r = record { closed = r.closed; resource = r.resource; inner = r.inner; scope = r.scope; profiles = r.profiles }

abbrev pub running_of : Sums → RunningSums
running_of s = record { closed = s.closed; resource = s.resource; inner = s.inner; scope = s.scope; profiles = s.profiles }

-- with one more profile of so many bytes, and with one more scope record or resource record whose head has so many
abbrev pub profile_added : Sums → ℕ → Sums
profile_added s n =
    record { closed = s.closed; resource = s.resource; inner = s.inner; scope = s.scope; profiles = s.profiles + long_length 2 n }

abbrev pub scope_added : Sums → ℕ → Sums
scope_added s n =
    record { closed = s.closed; resource = s.resource; inner = s.inner + scope_size s.scope s.profiles; scope = Some n; profiles = 0 }

abbrev pub resource_added : Sums → ℕ → Sums
resource_added s n = record { closed = sum_of s; resource = Some n; inner = 0; scope = None; profiles = 0 }

-- sums that are far from the end of 64 bits
abbrev pub IsFew : Option ℕ → Type 0
IsFew None = Unit {0}
IsFew (Some n) = n ≤ 2 ^ 60

pub record AreFew (s : Sums) : Type 0 where
  pub closed : s.closed ≤ 2 ^ 60
  pub resource : IsFew s.resource
  pub inner : s.inner ≤ 2 ^ 60
  pub scope : IsFew s.scope
  pub profiles : s.profiles ≤ 2 ^ 60
