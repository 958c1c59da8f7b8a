-- How much there is in records of the code.
use Rattle.std.specs.Prelude.{ℕ, List, length, sum_by}
use Rattle.prof_rec.specs.declared.profile.Profile.{Profile}
use Rattle.prof_rec.specs.declared.scope_profiles.ScopeProfiles.{ScopeProfiles}
use Rattle.prof_rec.specs.declared.resource_profiles.ResourceProfiles.{ResourceProfiles}

-- the profiles of some scopes, and of some resources
abbrev pub scopes_count : List ScopeProfiles → ℕ
scopes_count scopes = sum_by (λ s. length s.profiles) scopes

abbrev pub resources_count : List ResourceProfiles → ℕ
resources_count records = sum_by (λ r. scopes_count r.scope_profiles) records

-- the samples of some profiles, of some scopes, and of some resources
abbrev pub profiles_samples : List Profile → ℕ
profiles_samples profiles = sum_by (λ p. length p.samples) profiles

abbrev pub scopes_samples : List ScopeProfiles → ℕ
scopes_samples scopes = sum_by (λ s. profiles_samples s.profiles) scopes

abbrev pub resources_samples : List ResourceProfiles → ℕ
resources_samples records = sum_by (λ r. scopes_samples r.scope_profiles) records
