-- What a walk over a message has, and what it does.
use Rattle.std.specs.Prelude.{◌≡◌, ℕ, suc, ℤ, pos, ◌+◌, ◌<◌, ◌≤◌, ◌^◌, List, [], ◌∷◌, length, get_or, Bool, true, false, Option, Some, None, Result, Ok, Err}
use Rattle.schema.specs.Each.{Each}
use Rattle.schema.specs.Moved.{mentions}
use Rattle.schema.specs.Shape.{Shape, Value, Many, End, Table}
pub use Rattle.schema.specs.Tables.{every_table}
use Rattle.meaning.specs.Canonical.{values}
use Rattle.meaning.specs.Meaning.{resolve, uses}
use Rattle.meaning.specs.Memo.{Keeps, Knows}
use Rattle.meaning.specs.Renumbering.{Ready}
use Rattle.meaning.specs.Tables.{with_new}
use Rattle.meaning.specs.Tree.{tree}
use Rattle.dict_rec.specs.declared.dictionary.Dictionary.{Dictionary}
use Rattle.key_tables.specs.Keys.{ArePrefixes, Keys, at}
use Rattle.renumber.specs.Entries.{IsKey, index_into, new_entries, old_entries}
use Rattle.renumber.specs.Memos.{MemoGoesOn, MemoState}
pub use Rattle.renumber.specs.Memos.{MemoLists}
use Rattle.renumber.specs.declared.spot.Spot.{Spot}

-- ---- the state

-- the dictionary of the message, the keys of the new tables, and the memo: its lists, and the spots that were noted in them
pub record State : Type 0 where
  pub source : Dictionary
  pub keys : Keys
  pub memo : MemoLists
  pub noted : List Spot

-- its memo
abbrev pub memo_of : State → MemoState
memo_of w = record { lists = w.memo; noted = w.noted }

-- The state in the middle of a message with this dictionary: seven tables of keys, whose indexes have 31 bits, and a memo of
-- entries that are in them.
pub record IsReady (old : Dictionary) (keys : Keys) (memo : MemoLists) : Type 0 where
  pub ready : Ready (old_entries old) (new_entries keys) (at memo)
  pub texts : (T : Table) → Each (IsKey T) (at keys T)
  pub few : (T : Table) → length (at keys T) < 2 ^ 31
  pub seven : length keys ≡ 7
  pub seven_memo : length memo ≡ 7

-- ---- steps

-- how many entries of a table were not met, and how many of all
abbrev pub unmet_in : List (Option ℕ) → ℕ
unmet_in [] = 0
unmet_in (None ∷ new_indexes) = suc (unmet_in new_indexes)
unmet_in (Some j ∷ new_indexes) = unmet_in new_indexes

abbrev pub unmet_of : MemoLists → ℕ
unmet_of [] = 0
unmet_of (new_indexes ∷ memo) = unmet_in new_indexes + unmet_of memo

abbrev pub unmet : State → ℕ
unmet w = unmet_of w.memo

-- P holds, unless the test is true
abbrev pub Unless : Bool → Type 0 → Type 0
Unless true P = Unit {0}
Unless false P = P

-- after an error one step may have been counted for an entry that was not met
abbrev pub missed : {A E : Type 0} → Result A E → ℕ
missed (Ok x) = 0
missed (Err e) = 1

-- A walk over values of a shape leads from a to b, and the count of steps from n to m. It keeps the dictionary, what the tables
-- began with and the memo that its own goes on from, and meets no entry of a table that the shape does not mention. Steps and
-- unmet entries together do not rise, but for the extra steps.
pub record Moves (s : Shape) (extra : ℕ) (a b : State) (n m : ℕ) : Type 0 where
  pub same : b.source ≡ a.source
  pub kept : (base : Keys) → ArePrefixes base a.keys → ArePrefixes base b.keys
  pub noted : (base : MemoState) → MemoGoesOn base (memo_of a) → MemoGoesOn base (memo_of b)
  pub still : Each (λ T. Unless (mentions T s) (at b.memo T ≡ at a.memo T)) every_table
  pub most : m + unmet b ≤ n + unmet a + extra

-- ---- what was walked over

-- A value was walked over: the new entries have grown by exactly what its walk meets, the memo keeps what it held, and knows
-- each index of the value.
pub record Walked (s : Shape) (a b : State) (x : Value s) : Type 0 where
  pub same : b.source ≡ a.source
  pub walked : (T : Table) → values (new_entries b.keys) T ≡ with_new (values (new_entries a.keys) T) (uses T s (resolve (old_entries a.source) s (tree s x)))
  pub keeps : Keeps (at a.memo) (at b.memo)
  pub known : Knows (at b.memo) s x

-- and so were the elements of a list
abbrev pub WalkedEach : (s : Shape) → State → State → List (Value s) → Type 0
WalkedEach s a b xs = Walked (Many 1 s End) a b (xs, tt)

-- the place is that of an entry, which was not met
pub record IsOpen (T : Table) (w : State) (place : ℕ) : Type 0 where
  pub within : place < length (old_entries w.source T)
  pub free : get_or (at w.memo T) place None ≡ None

-- an index is known, so that walking over it changes nothing, or it is the place of an entry that was not met
abbrev pub IsUnmet : Table → State → ℤ → Option ℕ → Type 0
IsUnmet T w index None = Walked (index_into T) w w index
IsUnmet T w index (Some place) = (index ≡ pos place) × IsOpen T w place
