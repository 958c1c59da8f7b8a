-- A value of a program's types, whose AnyValues are not too deep, is in its range.
use Rattle.std.proofs.Common.{◌≡◌, ℕ, zero, suc, ◌<◌, ◌^◌, List, [], ◌∷◌, length, inl, inr}
use Rattle.std.specs.Prelude.{◌⊎◌}
use Rattle.schema.specs.Each.{Each}
use Rattle.schema.specs.AnyMerge.{any_levels}
use Rattle.schema.specs.AnySpell.{AnyInRange, PairInRange, any_text}
use Rattle.schema.specs.AnyValue.{AnyValue, Values, NoValues, AddValue, KeyValues, NoPairs, AddPair, list_of, pair_list}
use Rattle.schema.specs.Fits.{Lawful}
use Rattle.schema.specs.ReadBack.{IsAnyReadBack, IsReadBack}
use Rattle.schema.specs.Shape.{Shape, Any, One, Many, Value, IsMessage}
use Rattle.schema.specs.Spell.{spell}
use Rattle.schema.specs.Typed.{ArePairsTyped, AreTyped, EachHasLevels, HasLevels, IsShallow, IsTyped, IsTypedAny, PairHasLevels}
use Rattle.schema_laws.proofs.AnyReadingBack.{again_in}
use Rattle.schema_laws.proofs.ReadingBack.{reads_back}
use Rattle.schema_laws.proofs.Growth.{AlsoIn, InRange}
use Rattle.schema_laws.proofs.ReadFits.{fits_from}

-- ---- AnyValues

-- what is shown of an AnyValue with so many levels
abbrev Ranged : ℕ → Type 0
Ranged left = (v : AnyValue) → IsTypedAny v → HasLevels left v → AnyInRange left v

-- elements
items_ranged : (left : ℕ) → Ranged left → (vs : Values) → AreTyped vs → Each (HasLevels left) (list_of vs) → Each (AnyInRange left) (list_of vs)
items_ranged left f NoValues t h = tt
items_ranged left f (AddValue v vs) t h = (f v t.0 h.0, items_ranged left f vs t.1 h.1)

-- a value that may be left out
written : (left : ℕ) → Ranged left → (v : AnyValue) → IsTypedAny v → (v ≡ AnyValue.Empty) ⊎ HasLevels left v → (v ≡ AnyValue.Empty) ⊎ AnyInRange left v
written left f v t (inl e) = inl e
written left f v t (inr h) = inr (f v t h)

-- keys with values
pairs_ranged : (left : ℕ) → Ranged left → (kvs : KeyValues) → ArePairsTyped kvs → Each (PairHasLevels (HasLevels left)) (pair_list kvs)
    → Each (PairInRange (AnyInRange left)) (pair_list kvs)
pairs_ranged left f NoPairs t h = tt
pairs_ranged left f (AddPair k v kvs) t h = ((t.0, written left f v t.1 h.0), pairs_ranged left f kvs t.2 h.1)

any_ranged : (left : ℕ) → Ranged left
any_ranged zero v t h = absurd h
any_ranged (suc left) AnyValue.Empty t h = tt
any_ranged (suc left) (AnyValue.Text b) t h = t
any_ranged (suc left) (AnyValue.Flag x) t h = tt
any_ranged (suc left) (AnyValue.Int z) t h = t
any_ranged (suc left) (AnyValue.Double b) t h = t
any_ranged (suc left) (AnyValue.Items vs) t h = items_ranged left (any_ranged left) vs t h
any_ranged (suc left) (AnyValue.Pairs kvs) t h = pairs_ranged left (any_ranged left) kvs t h
any_ranged (suc left) (AnyValue.Raw b) t h = tt

-- ---- values of a shape

anys_ranged : (left : ℕ) (vs : List AnyValue) → Each IsTypedAny vs → Each (HasLevels left) vs → Each (AnyInRange left) vs
anys_ranged left [] t h = tt
anys_ranged left (v ∷ vs) t h = (any_ranged left v t.0 h.0, anys_ranged left vs t.1 h.1)

also_ranged : (k : Shape) (vs : List (Value k)) → Each (IsTyped k) vs → EachHasLevels k vs → AlsoIn k vs
also_ranged (Any depth) vs t h = anys_ranged (any_levels depth) vs t h
also_ranged k vs t h = tt

each_ranged : (k : Shape) → ((x : Value k) → IsTyped k x → IsShallow k x → InRange k x) → (xs : List (Value k)) → Each (IsTyped k) xs → Each (IsShallow k) xs → Each (InRange k) xs
each_ranged k f [] t h = tt
each_ranged k f (x ∷ xs) t h = (f x t.0 h.0, each_ranged k f xs t.1 h.1)

pub typed_in_range : (s : Shape) (x : Value s) → IsTyped s x → IsShallow s x → InRange s x
typed_in_range (Any depth) x t h = written (any_levels depth) (any_ranged (any_levels depth)) x t h
typed_in_range (One n k rest) x t h = (typed_in_range k x.0 t.0 h.0, typed_in_range rest x.1 t.1 h.1)
typed_in_range (Many n k rest) x t h = (each_ranged k (typed_in_range k) x.0 t.0 h.0, also_ranged k x.0 t.0 h.1, typed_in_range rest x.1 t.1 h.2)
typed_in_range s x t h = t

-- ---- such a value is read back of its spelling

pub typed_read_back : (s : Shape) → IsMessage s → Lawful s → (v : Value s) → IsTyped s v → length (spell s v) < 2 ^ 64 → IsReadBack s v
typed_read_back s m l v t short = λ h base. reads_back s m l v (fits_from s m l v (typed_in_range s v t h) short) base

pub typed_any_read_back : (v : AnyValue) → IsTypedAny v → length (any_text v) < 2 ^ 64 → IsAnyReadBack v
typed_any_read_back v t short = λ left h at end. again_in left v (any_ranged left v t h) short at end
