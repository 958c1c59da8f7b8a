-- The heads that come last in a list of parts, and how many parts of a list after it repeat them.
use Rattle.std.specs.Prelude.{ℕ, suc, List, [], ◌∷◌, Option, Some, None, Bool, false, ◌&&◌, cond}
use Rattle.std.specs.Str.{bytes_eq}
use Rattle.parts.specs.Parts.{RecordPart, ResourceBegins, ScopeBegins, ProfileText}

-- the two texts of the last resource record, and those of the last scope record in it
pub record LastHeads : Type 0 where
  pub resource : Option (List ℕ × List ℕ)
  pub scope : Option (List ℕ × List ℕ)

abbrev pub no_heads : LastHeads
no_heads = record { resource = None; scope = None }

abbrev pub with_head : LastHeads → RecordPart → LastHeads
with_head l (ResourceBegins f b) = record { resource = Some (f, b); scope = None }
with_head l (ScopeBegins f b) = record { resource = l.resource; scope = Some (f, b) }
with_head l (ProfileText p) = l

-- a fold from the left
abbrev pub heads_from : LastHeads → List RecordPart → LastHeads
heads_from l [] = l
heads_from l (p ∷ ps) = heads_from (with_head l p) ps

abbrev pub last_heads : List RecordPart → LastHeads
last_heads ps = heads_from no_heads ps

-- these are the two texts
abbrev pub is_head : Option (List ℕ × List ℕ) → List ℕ → List ℕ → Bool
is_head None f b = false
is_head (Some h) f b = bytes_eq h.0 f && bytes_eq h.1 b

-- 1 if the first part begins a scope record with these texts
abbrev pub repeated_scope : Option (List ℕ × List ℕ) → List RecordPart → ℕ
repeated_scope o (ScopeBegins f b ∷ ps) = cond (is_head o f b) 1 0
repeated_scope o ps = 0

-- How many of the first parts have the texts of the last heads: none, what begins the resource record, or also what begins the
-- first scope record in it.
abbrev pub repeated_parts : LastHeads → List RecordPart → ℕ
repeated_parts l (ResourceBegins f b ∷ ps) = cond (is_head l.resource f b) (suc (repeated_scope l.scope ps)) 0
repeated_parts l ps = 0

-- 1 if the first part begins a resource record with the texts of the last one, else 0
abbrev pub repeated_head : LastHeads → List RecordPart → ℕ
repeated_head l (ResourceBegins f b ∷ ps) = cond (is_head l.resource f b) 1 0
repeated_head l ps = 0
