-- What is there while parts are cut off messages.
use Rattle.std.specs.Prelude.{◌≡◌, ℕ, List, Option, Some, None, Ok}
use Rattle.otlp_msg.specs.Message.{Message}
use Rattle.dict_build.specs.Adders.{Adding}
use Rattle.split_merge.specs.Canonical.{IsAcceptedAs, IsOnlyOf}
use Rattle.split_merge.specs.PartSteps.{IsAtRest, IsOver, IsPlaceIfAny, messages_in, splitting_at}
use Rattle.split_merge.specs.Splits.{after_next, next_of, next_part}
use Rattle.split_merge.specs.declared.cutting.CutPart.{CutPart}
use Rattle.split_merge.specs.declared.cutting.Cutting.{Cutting}
use Rattle.split_merge.specs.declared.cutting.SplitInput.{SplitInput}
use Rattle.split_merge.specs.declared.places.Place.{Place}

-- the adder is at rest over a message, and there is a profile at the place
pub record IsCuttingOf (ms : List Message) (number : ℕ) (adder : Adding) (next : Option Place) : Type 0 where
  pub over : IsOver ms number adder
  pub rest : IsAtRest adder
  pub place : IsPlaceIfAny ms next

abbrev pub IsCutting : {M H N : Type 0} → List Message → Cutting M H N → Type 0
IsCutting ms c = IsCuttingOf ms c.over.number c.over.adder c.next

-- if any profile is left, its place is here
abbrev pub next_if_any : {M H N : Type 0} → Option (Cutting M H N) → Option Place
next_if_any (Some c) = c.next
next_if_any None = None

abbrev pub IsCuttingIfAny : {M H N : Type 0} → List Message → Option (Cutting M H N) → Type 0
IsCuttingIfAny ms (Some c) = IsCutting ms c
IsCuttingIfAny ms None = Unit {0}

-- ---- a part

-- the bytes are those of the part that begins at a place, and this is the place of the first profile after it
pub record IsCutPart (input : SplitInput) (first : Place) (part : CutPart) : Type 0 where
  pub bytes : next_of (splitting_at input (Some first)) ≡ Ok (Some part.bytes)
  pub accepted : IsAcceptedAs part.bytes (next_part (splitting_at input (Some first)))
  pub unique : IsOnlyOf part.bytes (next_part (splitting_at input (Some first)))
  pub next : splitting_at input part.next ≡ after_next (splitting_at input (Some first))
  pub place : IsPlaceIfAny (messages_in input) part.next
