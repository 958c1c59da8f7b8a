-- The profiles of meanings as a flat list, and the records that such a list makes.
use Rattle.std.specs.Prelude.{◌≡◌, ℕ, suc, ◌+◌, List, [], ◌∷◌, ◌++◌, map, get_or, ◌==◌, if◌then◌else◌}
use Rattle.std.specs.List.{flat_map}
use Rattle.meaning.specs.Tree.{Tree, Nil}
use Rattle.parts.specs.Records.{held}
use Rattle.operations.specs.Outlines.{head, holding, Item, ResourceItem, ScopeItem, ProfileItem}

-- A profile with the heads of its resource record and of its scope record, and the places of these: the number of the resource
-- record among all, and that of the scope record in it.
pub record FlatProfile : Type 0 where
  pub resource : Tree
  pub scope : Tree
  pub profile : Tree
  pub resource_place : ℕ
  pub scope_place : ℕ

abbrev pub flat_profile : Tree → Tree → ℕ → ℕ → Tree → FlatProfile
flat_profile r s i j p = record { resource = r; scope = s; profile = p; resource_place = i; scope_place = j }

-- those of scope records under a resource head, with the place of the resource record and that of the first scope record
abbrev pub flat_scopes : Tree → ℕ → ℕ → List Tree → List FlatProfile
flat_scopes r i j [] = []
flat_scopes r i j (s ∷ ss) = map (flat_profile r (head s) i j) (held s) ++ flat_scopes r i (suc j) ss

-- those of resource records, with the place of the first
abbrev pub flat_resources : ℕ → List Tree → List FlatProfile
flat_resources i [] = []
flat_resources i (r ∷ rs) = flat_scopes (head r) i 0 (held r) ++ flat_resources (suc i) rs

-- the profiles of several meanings, in order
abbrev pub flat : List (List Tree) → List FlatProfile
flat ms = flat_resources 0 (flat_map (λ m. m) ms)

-- a profile and its heads, without places
abbrev pub bare : FlatProfile → Tree × (Tree × Tree)
bare e = (e.resource, (e.scope, e.profile))

-- the same profile with the place of its resource record raised by a number
abbrev pub later : ℕ → FlatProfile → FlatProfile
later n e = flat_profile e.resource e.scope (n + e.resource_place) e.scope_place e.profile

-- the record with this number among these
abbrev pub record_at : List Tree → ℕ → Tree
record_at rs n = get_or rs n Nil

-- A flat profile has the heads of the records at its places, among these resource records.
pub record HasHeadsOf (rs : List Tree) (e : FlatProfile) : Type 0 where
  pub resource_head : e.resource ≡ head (record_at rs e.resource_place)
  pub scope_head : e.scope ≡ head (record_at (held (record_at rs e.resource_place)) e.scope_place)

-- ---- and back

-- the heads that begin between two neighbours: those of records that hold the second and not the first
abbrev pub new_heads : FlatProfile → FlatProfile → List Item
new_heads e f =
    if e.resource_place == f.resource_place
    then (if e.scope_place == f.scope_place then [] else ScopeItem f.scope ∷ [])
    else ResourceItem f.resource ∷ ScopeItem f.scope ∷ []

abbrev pub items_after : FlatProfile → List FlatProfile → List Item
items_after e [] = []
items_after e (f ∷ l) = new_heads e f ++ ProfileItem f.profile ∷ items_after f l

-- a flat list as the lines of an outline
abbrev pub items : List FlatProfile → List Item
items [] = []
items (e ∷ l) = ResourceItem e.resource ∷ ScopeItem e.scope ∷ ProfileItem e.profile ∷ items_after e l

-- What items make, read from the right: the profiles before the first scope head, the scope records before the first resource
-- head, and the resource records.
pub record Gathered : Type 0 where
  pub profiles : List Tree
  pub scopes : List Tree
  pub resources : List Tree

-- An item before these. At a resource head no profiles are left over: those without a scope head don't occur.
abbrev pub with_item : Item → Gathered → Gathered
with_item (ProfileItem p) o = record { profiles = p ∷ o.profiles; scopes = o.scopes; resources = o.resources }
with_item (ScopeItem h) o = record { profiles = []; scopes = holding h o.profiles ∷ o.scopes; resources = o.resources }
with_item (ResourceItem h) o = record { profiles = []; scopes = []; resources = holding h o.scopes ∷ o.resources }

abbrev pub gathered : List Item → Gathered
gathered [] = record { profiles = []; scopes = []; resources = [] }
gathered (i ∷ is) = with_item i (gathered is)

-- Neighbours from one scope record come under one scope head, and those from one resource record under one resource head.
abbrev pub group : List FlatProfile → List Tree
group l = (gathered (items l)).resources

-- a profile with its heads as a resource record: one scope record, and in it one profile
abbrev pub record_of : FlatProfile → Tree
record_of e = holding e.resource (holding e.scope (e.profile ∷ []) ∷ [])

-- ---- what is left of records

-- the record with the head of this one that holds these; none, if these are none
abbrev pub if_holding : Tree → List Tree → List Tree
if_holding t [] = []
if_holding t (u ∷ us) = holding t (u ∷ us) ∷ []

-- the scope records that hold a profile
abbrev pub scopes_with_profiles : List Tree → List Tree
scopes_with_profiles ss = flat_map (λ s. if_holding s (held s)) ss

-- the resource records that hold a profile, each with those of its scope records that hold one
abbrev pub without_empty : List Tree → List Tree
without_empty rs = flat_map (λ r. if_holding r (scopes_with_profiles (held r))) rs
