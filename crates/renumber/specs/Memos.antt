-- The memo of a walk: what it has, how it goes on, and how it goes back.
use Rattle.std.specs.Prelude.{◌≡◌, ℕ, List, [], ◌∷◌, ◌++◌, length, get_or, set, take, drop, Option, Some, None}
use Rattle.schema.specs.Shape.{Table}
use Rattle.pb_wire.specs.TableKinds.{place_of, table_of}
use Rattle.key_tables.specs.ByPlace.{at}
use Rattle.renumber.specs.declared.spot.Spot.{Spot}

-- ---- what it has

-- the memo as a list for each table: by old index, the new one of each entry that was met
abbrev pub MemoLists : Type 0
MemoLists = List (List (Option ℕ))

-- these lists, and the spots that were noted in them, in order
pub record MemoState : Type 0 where
  pub lists : MemoLists
  pub noted : List Spot

-- the lists with the new index of one more entry
abbrev pub noted_in : Table → ℕ → ℕ → MemoLists → MemoLists
noted_in T place new memo = set memo (place_of T) (set (at memo T) place (Some new))

-- the memo that has noted one more
abbrev pub noted_at : Spot → ℕ → MemoState → MemoState
noted_at s new m = record { lists = noted_in (table_of s.kind) s.place new m.lists; noted = m.noted ++ s ∷ [] }

-- ---- going on

-- each of these spots, one after the other, was that of an entry that was not met, and got a new index: old lists became new ones
abbrev pub NotedEach : List Spot → MemoLists → MemoLists → Type 0
NotedEach [] old new = new ≡ old
NotedEach (s ∷ ss) old new = (get_or (at old (table_of s.kind)) s.place None ≡ None) × ((index : ℕ) × NotedEach ss (noted_in (table_of s.kind) s.place index old) new)

-- b is a, and more was noted
pub record MemoGoesOn (a b : MemoState) : Type 0 where
  pub more : List Spot
  pub noted : b.noted ≡ a.noted ++ more
  pub lists : NotedEach more a.lists b.lists

-- ---- going back

-- the lists where the entry at a spot is not met, and where that of each of these is not, the last one unset first
abbrev pub unset_in : Spot → MemoLists → MemoLists
unset_in s memo = set memo (place_of (table_of s.kind)) (set (at memo (table_of s.kind)) s.place None)

abbrev pub unset_each : List Spot → MemoLists → MemoLists
unset_each [] memo = memo
unset_each (s ∷ ss) memo = unset_in s (unset_each ss memo)

-- a mark of this memo: how much was noted
abbrev pub IsMemoMark : ℕ → MemoState → Type 0
IsMemoMark mark m = mark ≡ length m.noted

-- the memo where what was noted after the mark is unset
abbrev pub memo_back : ℕ → MemoState → MemoState
memo_back mark m = record { lists = unset_each (drop mark m.noted) m.lists; noted = take mark m.noted }
