-- The test of the indexes of a message row by row, as a program goes. It is that of the walk's first index that is in no
-- table; that is a law.
use Rattle.std.specs.Prelude.{ℕ, suc, ◌<◌, ◌^◌, List, [], ◌∷◌, length, Result, Ok}
use Rattle.schema.specs.Each.{Each}
use Rattle.schema.specs.Shape.{Shape, Index, One, Many, Value}
use Rattle.schema.specs.Spell.{spell}
use Rattle.schema.specs.Decoding.{◌>>=◌}
use Rattle.pb_wire.specs.declared.table_kind.TableKind.{TableKind}
use Rattle.otlp_msg.specs.declared.path.Holder.{Holder}
use Rattle.otlp_msg.specs.declared.refusal.Refusal.{Refusal}
use Rattle.otlp_msg.specs.Walk.{spot, kind_of, entered, within}

-- the tests passed, or the refusal of the first that did not
abbrev pub Passed : Type 0
Passed = Result (Unit {0}) Refusal

abbrev pub row_within : (s : Shape) → (TableKind → ℕ) → Holder → ℕ → ℕ → (Holder → Value s → Passed) → Value s → Passed
row_within (Index T k) len by field item inner z = within len (spot (kind_of T) z by field item ∷ [])
row_within s len by field item inner v = inner (entered by field item) v

abbrev pub each_within : {A : Type 0} → (ℕ → A → Passed) → ℕ → List A → Passed
each_within test i [] = Ok tt
each_within test i (x ∷ xs) = test i x >>= λ _. each_within test (suc i) xs

abbrev pub value_within : (s : Shape) → (TableKind → ℕ) → Holder → Value s → Passed
value_within (One n k rest) len by v = row_within k len by n 0 (value_within k len) v.0 >>= λ _. value_within rest len by v.1
value_within (Many n k rest) len by v =
    each_within (λ i. row_within k len by n i (value_within k len)) 0 v.0 >>= λ _. value_within rest len by v.1
value_within s len by v = Ok tt

-- each list is so short that a place in it is a number of 32 bits, and each element is spelled with fewer bytes
abbrev pub HasPlaces : (s : Shape) → Value s → Type 0
HasPlaces (One n k rest) v = HasPlaces k v.0 × HasPlaces rest v.1
HasPlaces (Many n k rest) v = (length v.0 < 2 ^ 32) × Each (λ x. HasPlaces k x × (length (spell k x) < 2 ^ 32)) v.0 × HasPlaces rest v.1
HasPlaces s v = Unit {0}
