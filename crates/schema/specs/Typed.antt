-- What a program's types say of a value, and the levels of the AnyValues in it.
use Rattle.std.specs.Prelude.{◌≡◌, ℕ, zero, suc, ◌<◌, ◌^◌, List, length, true, ◌⊎◌}
use Rattle.std.specs.Str.{is_utf8}
use Rattle.schema.specs.Each.{Each}
use Rattle.schema.specs.AnyMerge.{any_levels}
use Rattle.schema.specs.AnyValue.{AnyValue, Values, NoValues, AddValue, KeyValues, NoPairs, AddPair, KeyValue, list_of, pair_list}
use Rattle.schema.specs.Shape.{Shape, Number, Fixed, Text, Any, Index, One, Many, I32, I64, Value}
use Rattle.schema.specs.Texts.{FitsNumber}

-- ---- types

-- texts and keys are UTF-8, integers have 64 bits, and a double has eight bytes
abbrev mutual
  pub IsTypedAny : AnyValue → Type 0
  IsTypedAny AnyValue.Empty = Unit {0}
  IsTypedAny (AnyValue.Text b) = is_utf8 b ≡ true
  IsTypedAny (AnyValue.Flag x) = Unit {0}
  IsTypedAny (AnyValue.Int z) = FitsNumber I64 z
  IsTypedAny (AnyValue.Double b) = length b ≡ 8
  IsTypedAny (AnyValue.Items vs) = AreTyped vs
  IsTypedAny (AnyValue.Pairs kvs) = ArePairsTyped kvs
  IsTypedAny (AnyValue.Raw b) = Unit {0}

  pub AreTyped : Values → Type 0
  AreTyped NoValues = Unit {0}
  AreTyped (AddValue v vs) = IsTypedAny v × AreTyped vs

  pub ArePairsTyped : KeyValues → Type 0
  ArePairsTyped NoPairs = Unit {0}
  ArePairsTyped (AddPair k v kvs) = (is_utf8 k ≡ true) × IsTypedAny v × ArePairsTyped kvs

-- numbers are in their range, texts are UTF-8, and AnyValues are such
abbrev pub IsTyped : (s : Shape) → Value s → Type 0
IsTyped (Number w) x = FitsNumber w x
IsTyped (Index T k) x = FitsNumber I32 x
IsTyped Fixed x = x < 2 ^ 64
IsTyped Text x = is_utf8 x ≡ true
IsTyped (Any depth) x = IsTypedAny x
IsTyped (One n k rest) x = IsTyped k x.0 × IsTyped rest x.1
IsTyped (Many n k rest) x = Each (IsTyped k) x.0 × IsTyped rest x.1
IsTyped s x = Unit {0}

-- ---- levels

-- those inside of a value; a key without a value takes none
abbrev pub PairHasLevels : (AnyValue → Type 0) → KeyValue → Type 0
PairHasLevels Inner kv = (kv.1 ≡ AnyValue.Empty) ⊎ Inner kv.1

abbrev pub MemberHasLevels : (AnyValue → Type 0) → AnyValue → Type 0
MemberHasLevels Inner (AnyValue.Items vs) = Each Inner (list_of vs)
MemberHasLevels Inner (AnyValue.Pairs kvs) = Each (PairHasLevels Inner) (pair_list kvs)
MemberHasLevels Inner v = Unit {0}

-- the value is no deeper than so many levels
abbrev pub HasLevels : ℕ → AnyValue → Type 0
HasLevels zero v = ⊥
HasLevels (suc left) v = MemberHasLevels (HasLevels left) v

-- in a repeated row each AnyValue is written, so each takes a level
abbrev pub EachHasLevels : (k : Shape) → List (Value k) → Type 0
EachHasLevels (Any depth) vs = Each (HasLevels (any_levels depth)) vs
EachHasLevels k vs = Unit {0}

-- no AnyValue in the value of a shape is deeper than a file may have it, 64 levels where it is in no other
abbrev pub IsShallow : (s : Shape) → Value s → Type 0
IsShallow (Any depth) x = (x ≡ AnyValue.Empty) ⊎ HasLevels (any_levels depth) x
IsShallow (One n k rest) x = IsShallow k x.0 × IsShallow rest x.1
IsShallow (Many n k rest) x = Each (IsShallow k) x.0 × EachHasLevels k x.0 × IsShallow rest x.1
IsShallow s x = Unit {0}
