-- A part that grows: the profiles of it that are in a draft, and where the next one is.
use Rattle.std.specs.Prelude.{◌≡◌, ℕ, suc, ◌+◌, ◌<◌, ◌≤◌, ◌⊎◌, List, [], map, length, take, drop, ◌==◌, if◌then◌else◌, Option, Some, None}
use Rattle.otlp_msg.specs.Checked.{value_of}
use Rattle.otlp_msg.specs.Message.{Message}
use Rattle.operations.specs.Cuts.{first_length, size_of}
use Rattle.operations.specs.Flat.{FlatProfile, flat, group}
use Rattle.draft_contents.specs.Contents.{Contents}
use Rattle.draft_contents.specs.Draft.{StandsFor}
use Rattle.draft_contents.specs.Meanings.{meaning}
use Rattle.draft_contents.specs.declared.incoming.Joining.{Joining}
use Rattle.draft_contents.specs.declared.incoming.Joining.TheVariants.{Resource, Scope, Seam}
use Rattle.dict_build.specs.Adders.{Adding}
use Rattle.split_merge.specs.Places.{IsPlace, IsPlaceOf, message_at, place_index, profiles_of_all}
use Rattle.split_merge.specs.Splits.{Splitting, splitting}
use Rattle.split_merge.specs.declared.cutting.Growth.{Growth}
use Rattle.split_merge.specs.declared.cutting.Growth.TheVariants.{More, Ends}
use Rattle.split_merge.specs.declared.cutting.SplitInput.{SplitInput}
use Rattle.split_merge.specs.declared.places.Place.{Place}

-- the messages that are cut
abbrev pub messages_in : SplitInput → List Message
messages_in input = map value_of input.messages.now

-- their profiles, without so many at the front, each with the heads of its records
abbrev pub left_from : List Message → ℕ → List FlatProfile
left_from ms n = drop n (flat (map meaning ms))

-- the profiles from a place on; none, if there is no place
abbrev pub left_at : List Message → Option Place → List FlatProfile
left_at ms (Some place) = left_from ms (place_index ms place)
left_at ms None = []

-- what is there where the profiles from a place on are in no part yet
abbrev pub splitting_at : SplitInput → Option Place → Splitting
splitting_at input next = splitting input.limit (left_at (messages_in input) next)

-- if there is a place, there is a profile at it
abbrev pub IsPlaceIfAny : List Message → Option Place → Type 0
IsPlaceIfAny ms (Some place) = IsPlace ms place
IsPlaceIfAny ms None = Unit {0}

-- ---- the adder

-- it is over the message with this number
pub record IsOver (ms : List Message) (number : ℕ) (adder : Adding) : Type 0 where
  pub within : number < length ms
  pub message : adder.message ≡ message_at ms number

-- its draft is empty, and was so at the start
pub record IsAtRest (adder : Adding) : Type 0 where
  pub start : adder.draft ≡ adder.start
  pub empty : StandsFor adder.draft []

-- ---- a profile more

-- How a profile comes to the one before it: into the scope record of that, if it is of the same one; else as a scope record under
-- its resource record, if it is of the same one; else as a resource record.
abbrev pub joining_after : Place → Place → Joining
joining_after last place =
    if last.message == place.message
    then (if last.pos.resource == place.pos.resource then (if last.pos.scope == place.pos.scope then Seam else Scope) else Resource)
    else Resource

-- The draft stands for so many profiles, with their meaning, from the one with so many before it on. They are one, or fit.
pub record HoldsPart (ms : List Message) (limit before count : ℕ) (d : Contents) : Type 0 where
  pub some : 0 < count
  pub within : before + count ≤ profiles_of_all ms
  pub stands : StandsFor d (group (take count (left_from ms before)))
  pub fits : (count ≡ 1) ⊎ (size_of (take count (left_from ms before)) ≤ limit)

-- it holds a part that ends with the profile at a place
pub record IsGrowing (ms : List Message) (limit before : ℕ) (last : Place) (d : Contents) : Type 0 where
  pub count : ℕ
  pub place : IsPlace ms last
  pub ends : before + count ≡ suc (place_index ms last)
  pub holds : HoldsPart ms limit before count d

-- it holds the whole part, and this is the place of the profile after it
pub record IsWholePart (ms : List Message) (limit before : ℕ) (next : Option Place) (d : Contents) : Type 0 where
  pub stands : StandsFor d (group (take (first_length limit (left_from ms before)) (left_from ms before)))
  pub follows : IsPlaceOf ms (before + first_length limit (left_from ms before)) next

-- With the next profile a part that was growing grows, or it was whole.
abbrev pub GrowsPart : List Message → ℕ → Place → Contents → Contents → Growth → Type 0
GrowsPart ms limit last c d (More place) =
    (place_index ms place ≡ suc (place_index ms last)) × ((before : ℕ) → IsGrowing ms limit before last c → IsGrowing ms limit before place d)
GrowsPart ms limit last c d (Ends next) = (before : ℕ) → IsGrowing ms limit before last c → IsWholePart ms limit before next d
