-- Lists of distinct keys, in the order in which the keys were first met, and the places of keys in a list. Places count
-- from 0. Two keys are the same where they are equal as values.
use Rattle.std.specs.Prelude.{◌≡◌, ◌<◌, ◌≤◌, ◌+◌, ◌^◌, ℕ, List, [], ◌∷◌, ◌++◌, length, slice_get, Some, ◌⊎◌, Result, IfOk, OnErr}

-- the key is at this place of the list
abbrev pub IsAt : {K : Type 0} → List K → K → ℕ → Type 0
IsAt keys key place = slice_get keys place ≡ Some key

-- the key is not in the list
abbrev pub IsAbsent : {K : Type 0} → List K → K → Type 0
IsAbsent keys key = (place : ℕ) → ¬ IsAt keys key place

-- the key is at this place, and at none before it
abbrev pub IsPlace : {K : Type 0} → List K → K → ℕ → Type 0
IsPlace keys key place = IsAt keys key place × ((before : ℕ) → before < place → ¬ IsAt keys key before)

-- no key is at two places
abbrev pub AreDistinct : {K : Type 0} → List K → Type 0
AreDistinct {K} keys = (key : K) (i j : ℕ) → IsAt keys key i → IsAt keys key j → i ≡ j

-- the key had this place, and the list is as before
pub record IsFound {K : Type 0} (old : List K) (key : K) (new : List K) (place : ℕ) : Type 0 where
  pub had : IsPlace old key place
  pub same : new ≡ old

-- the key was at no place, and is now the last
pub record IsAdded {K : Type 0} (old : List K) (key : K) (new : List K) (place : ℕ) : Type 0 where
  pub absent : IsAbsent old key
  pub last : place ≡ length old
  pub grown : new ≡ old ++ key ∷ []

-- what is answered for a key, and what the list becomes: its place where it has one, and else a new place at the end
abbrev pub Interned : {K : Type 0} → List K → K → List K → ℕ → Type 0
Interned old key new place = IsFound old key new place ⊎ IsAdded old key new place

-- a key was interned, or else memory was out for a new one; the keys are distinct, and one more at most
pub record IsInterning {K E : Type 0} (old : List K) (key : K) (new : List K) (result : Result ℕ E) : Type 0 where
  pub ok : IfOk result (Interned old key new)
  pub err : OnErr result (new ≡ old)
  pub absent : OnErr result (IsAbsent old key)
  pub distinct : AreDistinct new
  pub kept : length old ≤ length new
  pub one : length new ≤ length old + 1

-- what a table keeps of its keys: they are distinct, and each place fits an index of the format
pub record AreTableKeys {K : Type 0} (keys : List K) : Type 0 where
  pub distinct : AreDistinct keys
  pub few : length keys < 2 ^ 31
