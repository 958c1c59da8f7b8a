-- The state in the middle of renumbering a message. The steps speak of meanings, wherever these come from.
use Rattle.std.specs.Prelude.{◌≡◌, ℕ, pos, ◌<◌, List, [], ◌∷◌, Bool, true, false, ◌&&◌, cond, Option, Some, None, length, map, get_or, set}
use Rattle.std.specs.List.{flat_map}
use Rattle.schema.specs.Each.{Each}
use Rattle.schema.specs.Shape.{Shape, Index, One, Many, Table, Value}
use Rattle.meaning.specs.Tree.{Tree, Integer, tree}
use Rattle.meaning.specs.Tables.{Tables, entry, same_table, with_new, Distinct}
use Rattle.meaning.specs.Meaning.{blank, resolve, uses}
use Rattle.meaning.specs.Canonical.{zeros, renumber, entries, values, Covers}

-- ---- entries

-- The entries are distinct, they are those of their values, and what a value names is among the values too.
pub record IsDeduplicated (d : Tables) : Type 0 where
  pub distinct : (T : Table) → Distinct (d T)
  pub same : (T : Table) → entries (values d) T ≡ d T
  pub closed : (T : Table) → Each (Covers (values d) (entry T)) (values d T)

-- The entry x goes into the table T, if it is new there: the entries k become k'.
abbrev pub Entered : Table → Tree → Tables → Tables → Type 0
Entered T x k k' = (U : Table) → k' U ≡ with_new (k U) (cond (same_table U T) (x ∷ []) [])

-- ---- steps

-- The meaning m of a shape is written as x, while the lists of values grow from v to w by exactly what its walk meets.
pub record Written (s : Shape) (v w : Tables) (m x : Tree) : Type 0 where
  pub walked : (T : Table) → w T ≡ with_new (v T) (uses T s m)
  pub renumbered : x ≡ renumber w s m

-- The same of the elements of a list, one after the other.
pub record WrittenEach (s : Shape) (v w : Tables) (ms xs : List Tree) : Type 0 where
  pub walked : (T : Table) → w T ≡ with_new (v T) (flat_map (uses T s) ms)
  pub renumbered : xs ≡ map (renumber w s) ms

-- A value x of a message with the dictionary d becomes y: what x means is written as y.
abbrev pub Becomes : (d : Tables) (s : Shape) (v w : Tables) → Value s → Value s → Type 0
Becomes d s v w x y = Written s v w (resolve d s (tree s x)) (tree s y)

-- the same of lists of values
abbrev pub BecomeEach : (d : Tables) (s : Shape) (v w : Tables) → List (Value s) → List (Value s) → Type 0
BecomeEach d s v w xs ys = WrittenEach s v w (map (λ x. resolve d s (tree s x)) xs) (map (tree s) ys)

-- a shape without indexes that are read, whose values are written as they are
abbrev pub is_plain : Shape → Bool
is_plain (Index T k) = false
is_plain (One n k rest) = is_plain k && is_plain rest
is_plain (Many n k rest) = is_plain k && is_plain rest
is_plain s = true

-- ---- the memo

-- by table and old index, the new index of each entry that was met
abbrev pub Memo : Type 0
Memo = Table → List (Option ℕ)

-- each table begins with its zero entry
abbrev pub BeginWithZeros : Tables → Type 0
BeginWithZeros k = (T : Table) → (rest : List Tree) × (k T ≡ blank (entry T) ∷ rest)

-- What a program keeps in the middle of a message with the dictionary d: its new entries k are deduplicated and begin with the zero
-- entries, and each index i that its memo holds was written as j, which adds nothing now.
pub record Ready (d k : Tables) (memo : Memo) : Type 0 where
  pub deduplicated : IsDeduplicated k
  pub zeros : BeginWithZeros k
  pub kept : (T : Table) (i j : ℕ) → i < length (memo T) → get_or (memo T) i None ≡ Some j
      → Written (Index T (entry T)) (values k) (values k) (resolve d (Index T (entry T)) (Integer (pos i))) (Integer (pos j))
  pub all : (T : Table) → length (memo T) ≡ length (d T)

-- the memo has j at the index i of the table T now
abbrev pub Noted : Table → ℕ → ℕ → Memo → Memo → Type 0
Noted T i j memo memo' = (U : Table) → memo' U ≡ cond (same_table U T) (set (memo U) i (Some j)) (memo U)

-- ---- drafts

-- The entries k and the records xs are those of a list of meanings, in this order.
pub record Drafted (s : Shape) (k : Tables) (ms xs : List Tree) : Type 0 where
  pub deduplicated : IsDeduplicated k
  pub written : WrittenEach s zeros (values k) ms xs
