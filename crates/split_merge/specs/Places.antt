-- The places of profiles in messages.
use Rattle.std.specs.Prelude.{◌≡◌, ℕ, ◌+◌, ◌<◌, List, length, get_or, take, sum_by, Option, Some, None}
use Rattle.schema.specs.Messages.{envelope, scope_profiles, resource_profiles}
use Rattle.schema.specs.Shape.{Value, empty}
use Rattle.otlp_msg.specs.declared.path.ProfilePos.{ProfilePos}
use Rattle.otlp_msg.specs.Message.{Message, profiles_in_scopes, profiles_of, records_of}
use Rattle.draft_contents.specs.Singles.{IsPosition, alone, flat_index}
use Rattle.split_merge.specs.declared.places.Place.{Place}

-- the message with this number
abbrev pub message_at : List Message → ℕ → Message
message_at ms number = get_or ms number (empty envelope)

-- the number of profiles of messages
abbrev pub profiles_of_all : List Message → ℕ
profiles_of_all ms = sum_by profiles_of ms

-- there is a profile at the place
pub record IsPlace (ms : List Message) (place : Place) : Type 0 where
  pub message : place.message < length ms
  pub position : IsPosition (records_of (message_at ms place.message)) place.pos

-- the number of profiles before it, in order
abbrev pub place_index : List Message → Place → ℕ
place_index ms place = profiles_of_all (take place.message ms) + flat_index (records_of (message_at ms place.message)) place.pos

-- the profile there as a message of its own
abbrev pub alone_at : List Message → Place → Message
alone_at ms place = alone (message_at ms place.message) place.pos

-- The place of the profile with so many before it; none, if there are no more.
abbrev pub IsPlaceOf : List Message → ℕ → Option Place → Type 0
IsPlaceOf ms n (Some place) = IsPlace ms place × (place_index ms place ≡ n)
IsPlaceOf ms n None = profiles_of_all ms ≡ n

-- ---- in the records of one message

-- the number of profiles of resource records
abbrev pub profiles_in_records : List (Value resource_profiles) → ℕ
profiles_in_records rs = sum_by (λ r. profiles_in_scopes r.1.0) rs

-- the position of the profile with so many before it; none, if there are no more
abbrev pub IsPositionOf : List (Value resource_profiles) → ℕ → Option ProfilePos → Type 0
IsPositionOf rs n (Some pos) = IsPosition rs pos × (flat_index rs pos ≡ n)
IsPositionOf rs n None = profiles_in_records rs ≡ n

-- these numbers are those of a profile with so many before it
pub record AreNumbersOf (rs : List (Value resource_profiles)) (n a b c : ℕ) : Type 0 where
  pub resource : a < length rs
  pub scope : b < length (get_or rs a (empty resource_profiles)).1.0
  pub profile : c < length (get_or (get_or rs a (empty resource_profiles)).1.0 b (empty scope_profiles)).1.0
  pub before : profiles_in_records (take a rs) + (profiles_in_scopes (take b (get_or rs a (empty resource_profiles)).1.0) + c) ≡ n

-- a scope record that holds a profile, with so many profiles before it; none, if there are no more
abbrev pub IsScopeOf : List (Value scope_profiles) → ℕ → Option ℕ → Type 0
IsScopeOf ss n (Some b) = (b < length ss) × (0 < length (get_or ss b (empty scope_profiles)).1.0) × (profiles_in_scopes (take b ss) ≡ n)
IsScopeOf ss n None = profiles_in_scopes ss ≡ n
