-- One profile of a message with its heads, and what comes to a draft.
use Rattle.std.specs.Prelude.{ℕ, ◌+◌, ◌<◌, List, [], ◌∷◌, length, map, get_or, take, sum_by, Bool, true, false}
use Rattle.schema.specs.Messages.{profile, scope_profiles, resource_profiles}
use Rattle.schema.specs.Shape.{Value, empty}
use Rattle.prof_rec.specs.Views.{profile_view, resource_profiles_view, scope_profiles_view}
use Rattle.otlp_msg.specs.declared.path.ProfilePos.{ProfilePos}
use Rattle.otlp_msg.specs.Message.{Message, profiles_in_scopes}
use Rattle.draft_contents.specs.declared.incoming.Incoming.{Incoming}
use Rattle.draft_contents.specs.declared.incoming.Incoming.TheVariants.{Records, Profile}
use Rattle.draft_contents.specs.declared.incoming.Joining.{Joining}
use Rattle.draft_contents.specs.declared.incoming.Joining.TheVariants.{Resource, Seam}
use Rattle.draft_contents.specs.declared.single.Single.{Single}

-- ---- positions

-- the records and the profile at a position
abbrev pub resource_at : List (Value resource_profiles) → ProfilePos → Value resource_profiles
resource_at rs pos = get_or rs pos.resource (empty resource_profiles)

abbrev pub scope_at : List (Value resource_profiles) → ProfilePos → Value scope_profiles
scope_at rs pos = get_or (resource_at rs pos).1.0 pos.scope (empty scope_profiles)

abbrev pub profile_at : List (Value resource_profiles) → ProfilePos → Value profile
profile_at rs pos = get_or (scope_at rs pos).1.0 pos.profile (empty profile)

-- there is a profile at the position
pub record IsPosition (rs : List (Value resource_profiles)) (pos : ProfilePos) : Type 0 where
  pub resource : pos.resource < length rs
  pub scope : pos.scope < length (resource_at rs pos).1.0
  pub profile : pos.profile < length (scope_at rs pos).1.0

-- the number of profiles before it, in order
abbrev pub flat_index : List (Value resource_profiles) → ProfilePos → ℕ
flat_index rs pos =
    sum_by (λ r. profiles_in_scopes r.1.0) (take pos.resource rs) + (profiles_in_scopes (take pos.scope (resource_at rs pos).1.0) + pos.profile)

-- ---- one profile alone

-- the record with the head of this one that holds this alone
abbrev pub scope_alone : Value scope_profiles → Value profile → Value scope_profiles
scope_alone s p = (s.0, (p ∷ [], s.1.1))

abbrev pub resource_alone : Value resource_profiles → Value scope_profiles → Value resource_profiles
resource_alone r s = (r.0, (s ∷ [], r.1.1))

-- the profile at a position with its heads, as a record
abbrev pub record_alone : List (Value resource_profiles) → ProfilePos → Value resource_profiles
record_alone rs pos = resource_alone (resource_at rs pos) (scope_alone (scope_at rs pos) (profile_at rs pos))

-- and as a message of its own, with the same dictionary
abbrev pub alone : Message → ProfilePos → Message
alone m pos = (record_alone m.0 pos ∷ [], m.1)

-- ---- what comes to a draft

-- the scope record and the resource record of one profile
abbrev pub single_scope : Single → Value scope_profiles
single_scope s = scope_alone (scope_profiles_view s.scope.now) (profile_view s.profile.now)

abbrev pub single_record : Single → Value resource_profiles
single_record s = resource_alone (resource_profiles_view s.resource.now) (single_scope s)

-- the records that come
abbrev pub coming : Incoming → List (Value resource_profiles)
coming (Records rs) = map resource_profiles_view rs.now
coming (Profile s how) = single_record s ∷ []

-- and which of their heads are left out
abbrev pub joining_of : Incoming → Joining
joining_of (Records rs) = Seam
joining_of (Profile s how) = how

-- a profile that is added begins a resource record, or closes the seam
abbrev pub joining_if : Bool → Joining
joining_if true = Resource
joining_if false = Seam
