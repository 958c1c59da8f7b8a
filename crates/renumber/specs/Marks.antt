-- Marks of walks: how a walk goes on, and how it goes back.
use Rattle.std.specs.Prelude.{◌≡◌}
use Rattle.dict_rec.specs.declared.dictionary.Dictionary.{Dictionary}
use Rattle.key_tables.specs.Keys.{ArePrefixes, Keys}
use Rattle.key_tables.specs.Keys.{IsMark as IsTablesMark, cut_to as tables_cut_to}
use Rattle.renumber.specs.Entries.{IsSource}
use Rattle.renumber.specs.Memos.{IsMemoMark, MemoGoesOn, MemoState, memo_back}
use Rattle.renumber.specs.Walk.{IsReady, State, memo_of}
use Rattle.renumber.specs.declared.walk_mark.WalkMark.{WalkMark}

-- ---- going on

-- b goes on from a: it has the same dictionary, each table begins with the keys that it has in a, and the memo goes on
pub record WalkGoesOn (a b : State) : Type 0 where
  pub same : b.source ≡ a.source
  pub keys : ArePrefixes a.keys b.keys
  pub memo : MemoGoesOn (memo_of a) (memo_of b)

-- ---- going back

-- a mark of this state, which is ready, of a dictionary that can be renumbered: a mark of its tables and of its memo
pub record IsWalkMark (m : WalkMark) (w : State) : Type 0 where
  pub source : IsSource w.source
  pub ready : IsReady w.source w.keys w.memo
  pub keys : IsTablesMark m.keys w.keys
  pub memo : IsMemoMark m.memo (memo_of w)

-- the state with this dictionary, these keys and this memo
abbrev pub state_with : Dictionary → Keys → MemoState → State
state_with source keys memo = record { source = source; keys = keys; memo = memo.lists; noted = memo.noted }

-- the state cut back to what a mark tells
abbrev pub walked_back : WalkMark → State → State
walked_back m w = state_with w.source (tables_cut_to m.keys.lengths w.keys) (memo_back m.memo (memo_of w))

-- it can be cut back to it where it goes on from the state that the mark is of
pub record CanBeWalkedBack (m : WalkMark) (w : State) : Type 0 where
  pub grown : WalkGoesOn (walked_back m w) w
  pub mark : IsWalkMark m (walked_back m w)
