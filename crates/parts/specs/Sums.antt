-- Running sums that give the length of a flat list's text: a fold from the left.
use Rattle.std.specs.Prelude.{ℕ, ◌+◌, List, [], ◌∷◌, length, Option, Some, None}
use Rattle.schema.specs.AnySpell.{long_length}
use Rattle.parts.specs.Parts.{RecordPart, ResourceBegins, ScopeBegins, ProfileText}

-- The length of what is closed, the resource records before the last one; of the last one's text round its scope records; of its
-- closed scope records; of the last one's text round its profiles; and of these.
pub record Sums : Type 0 where
  pub closed : ℕ
  pub resource : Option ℕ
  pub inner : ℕ
  pub scope : Option ℕ
  pub profiles : ℕ

abbrev pub scope_size : Option ℕ → ℕ → ℕ
scope_size None n = n
scope_size (Some f) n = long_length 2 (f + n)

abbrev pub resource_size : Option ℕ → ℕ → ℕ
resource_size None n = n
resource_size (Some f) n = long_length 1 (f + n)

abbrev pub sum_of : Sums → ℕ
sum_of s = s.closed + resource_size s.resource (s.inner + scope_size s.scope s.profiles)

abbrev pub with_sum : Sums → RecordPart → Sums
with_sum s (ProfileText p) =
    record { closed = s.closed; resource = s.resource; inner = s.inner; scope = s.scope; profiles = s.profiles + long_length 2 (length p) }
with_sum s (ScopeBegins f b) =
    record { closed = s.closed; resource = s.resource; inner = s.inner + scope_size s.scope s.profiles; scope = Some (length f + length b); profiles = 0 }
with_sum s (ResourceBegins f b) = record { closed = sum_of s; resource = Some (length f + length b); inner = 0; scope = None; profiles = 0 }

abbrev pub sums_from : Sums → List RecordPart → Sums
sums_from s [] = s
sums_from s (p ∷ ps) = sums_from (with_sum s p) ps

abbrev pub no_sums : Sums
no_sums = record { closed = 0; resource = None; inner = 0; scope = None; profiles = 0 }

abbrev pub sums_of : List RecordPart → Sums
sums_of ps = sums_from no_sums ps
