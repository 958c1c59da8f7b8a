-- The state of an adder: in the middle of a message whose profiles are added to a draft.
use Rattle.std.specs.Prelude.{◌≡◌, ℕ, List, [], length, replicate, Option, None}
use Rattle.schema.specs.Messages.{resource_profiles}
use Rattle.schema.specs.Shape.{Table, Value}
use Rattle.meaning.specs.Message.{tables_in}
use Rattle.dict_rec.specs.Views.{dictionary_view}
use Rattle.otlp_msg.specs.declared.path.ProfilePos.{ProfilePos}
use Rattle.otlp_msg.specs.Checked.{value_of}
use Rattle.otlp_msg.specs.Message.{Message, dictionary_of}
use Rattle.key_tables.specs.Keys.{at}
use Rattle.parts.specs.Parts.{RecordPart}
use Rattle.renumber.specs.Entries.{IsSource, entry_count}
use Rattle.renumber.specs.Memos.{MemoGoesOn, MemoState}
use Rattle.renumber.specs.Walk.{State, memo_of, unmet_of}
use Rattle.draft_contents.specs.Adding.{AreRenumbered, message_with}
use Rattle.draft_contents.specs.Contents.{Contents, contents}
use Rattle.draft_contents.specs.Draft.{StandsForSome, StandsWithin}
use Rattle.draft_contents.specs.Repeats.{HeadsStandIf}
use Rattle.draft_contents.specs.Marks.{CanBeCutTo, cut_to}
use Rattle.draft_contents.specs.declared.mark.DraftMark.{DraftMark}
use Rattle.draft_contents.specs.declared.incoming.Joining.{Joining}
use Rattle.dict_build.specs.Adders.{Adding, adding}
use Rattle.dict_build.specs.declared.state.AdderState.{AdderState}

-- ---- what is held

-- a memo for a message, none of whose entries was met, so that nothing is noted
pub record IsEmptyMemo (m : Message) (memo : MemoState) : Type 0 where
  pub unmet : (T : Table) → at memo.lists T ≡ replicate (length (tables_in (dictionary_of m) T)) None
  pub seven : length memo.lists ≡ 7
  pub nothing : memo.noted ≡ []
  pub count : unmet_of memo.lists ≡ entry_count (tables_in (dictionary_of m))

-- the walk is one over the message, and its memo goes on from nothing
pub record IsWalkOver (m : Message) (w : State) : Type 0 where
  pub dictionary : dictionary_view w.source ≡ dictionary_of m
  pub source : IsSource w.source
  pub first : MemoState
  pub empty : IsEmptyMemo m first
  pub goes_on : MemoGoesOn first (memo_of w)

-- the contents stand for a meaning, and can be cut back to the start
pub record HasGrown (begun : DraftMark) (d : Contents) : Type 0 where
  pub stands : StandsForSome d
  pub back : CanBeCutTo begun d

-- The walk is over the message, and its tables with the parts have grown from the start. If a profile of the message is the newest, its
-- heads are the last ones.
pub record IsStateOf (m : Message) (begun : DraftMark) (w : State) (parts : List RecordPart) (newest : Option ProfilePos) : Type 0 where
  pub walk : IsWalkOver m w
  pub grown : HasGrown begun (contents w.keys parts)
  pub heads : HeadsStandIf newest parts m

-- what comes was put at the end: with it the draft stands within the limit, and the new parts are those of what comes
pub record IsPut (limit : ℕ) (how : Joining) (a b : State) (before after : List RecordPart) (xs : List (Value resource_profiles)) : Type 0 where
  pub stands : StandsWithin limit how (contents a.keys before) (contents b.keys after) (message_with xs a.source)
  pub added : AreRenumbered how a b before after xs

-- ---- the state

-- its message, its draft, and the draft cut back to the start
abbrev pub message_in : {S H : Type 0} → AdderState S H → Message
message_in s = value_of s.message.now

abbrev pub draft_in : {S H : Type 0} → AdderState S H → Contents
draft_in s = contents s.walk.keys s.records

abbrev pub start_in : {S H : Type 0} → AdderState S H → Contents
start_in s = cut_to s.start (draft_in s)

-- what an adder with this state is seen as
abbrev pub seen : {S H : Type 0} → AdderState S H → Adding
seen s = adding (draft_in s) (start_in s) (message_in s)

-- what holds of the state between the calls
abbrev pub IsAdderState : {S H : Type 0} → AdderState S H → Type 0
IsAdderState s = IsStateOf (message_in s) s.start s.walk s.records s.last
