-- Where the last heads stand in the two runs.
use Rattle.std.specs.Prelude.{ℕ, ◌+◌, ◌≤◌, List, take, drop, Option, Some, None}
use Rattle.parts.specs.LastHeads.{LastHeads}
use Rattle.part_text.specs.declared.extent.Extent.{Extent}
use Rattle.part_text.specs.declared.extent.Extent.TheVariants as extents
use Rattle.draft_records.specs.declared.places.HeadPlace.{HeadPlace}
use Rattle.draft_records.specs.declared.places.HeadPlaces.{HeadPlaces}

-- the two texts at a place
abbrev pub head_at : Option HeadPlace → List ℕ → List ℕ → Option (List ℕ × List ℕ)
head_at None t u = None
head_at (Some p) t u = Some (take p.front (drop p.front_at t), take p.back (drop p.back_at u))

abbrev pub heads_at : HeadPlaces → List ℕ → List ℕ → LastHeads
heads_at h t u = record { resource = head_at h.resource t u; scope = head_at h.scope t u }

-- a place does not pass so many bytes of the two runs
abbrev pub IsInside : Option HeadPlace → ℕ → ℕ → Type 0
IsInside None m n = Unit {0}
IsInside (Some p) m n = (p.front_at + p.front ≤ m) × (p.back_at + p.back ≤ n)

pub record AreInside (h : HeadPlaces) (m n : ℕ) : Type 0 where
  pub resource : IsInside h.resource m n
  pub scope : IsInside h.scope m n

-- with one more extent, whose texts begin here: a resource record has no scope record yet
abbrev pub places_after : HeadPlaces → Extent → ℕ → ℕ → HeadPlaces
places_after h (extents.Resource f b) m n = record { resource = Some (record { front_at = m; front = f; back_at = n; back = b }); scope = None }
places_after h (extents.Scope f b) m n = record { resource = h.resource; scope = Some (record { front_at = m; front = f; back_at = n; back = b }) }
places_after h (extents.Profile k) m n = h
