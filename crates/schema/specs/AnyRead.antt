-- The value of an AnyValue, as a relation over whole field lists (Protocol Buffers, "Encoding", "Last One Wins"; proto3,
-- "Oneof"). All fields that are no member are dropped. Of the others the last run of members with one number counts: for a
-- scalar, a text or bytes it is the last of that run, and for a message the value of the joined payloads of that run.
use Rattle.std.specs.Prelude.{◌≡◌, ℕ, zero, suc, List, [], ◌∷◌, ◌++◌, ◌⊎◌}
use Rattle.std.specs.List.{flat_map}
use Rattle.schema.specs.Field.{Field}
use Rattle.schema.specs.Each.{Each}
use Rattle.schema.specs.FirstFault.{Sound}
use Rattle.schema.specs.Shape.{I64, Flag, number_from}
use Rattle.schema.specs.Spelling.{Spells}
use Rattle.schema.specs.Parts.{Part, ReadInParts}
use Rattle.schema.specs.RowValue.{of_number, bytes_in, IsLast, JoinedOf, MessagesOf, Concats}
use Rattle.schema.specs.AnyValue.{AnyValue, KeyValue, items, items_in, pairs, pairs_in}
use Rattle.schema.specs.AnyMember.{Member, TextIn, FlagIn, IntIn, DoubleIn, ItemsIn, PairsIn, RawIn, number_of, message_of, members}
use Rattle.schema.specs.AnyFaults.{MemberFault, AnyFault}

-- ---- what is inside; `Inner u fs v` says that v is the value u with the fields fs

-- the elements of an ArrayValue
abbrev pub ItemsOf : (AnyValue → List Field → AnyValue → Type 0) → List Field → List AnyValue → Type 0
ItemsOf Inner fs vs = Concats (MessagesOf (Inner AnyValue.Empty)) (of_number 1 fs) vs

-- A KeyValue: its key is the last that fits, and its value that of the joined payloads of its field 2.
abbrev pub PairOf : (AnyValue → List Field → AnyValue → Type 0) → KeyValue → List Field → KeyValue → Type 0
PairOf Inner u fs v = IsLast bytes_in (of_number 1 fs) u.0 v.0 × JoinedOf Inner (of_number 2 fs) u.1 v.1

-- the elements of a KeyValueList
abbrev pub PairsOf : (AnyValue → List Field → AnyValue → Type 0) → List Field → List KeyValue → Type 0
PairsOf Inner fs kvs = Concats (MessagesOf (PairOf Inner ([], AnyValue.Empty))) (of_number 1 fs) kvs

-- ---- runs

-- the last of the members, if there is one, has another number than n
abbrev pub OtherLast : ℕ → List Member → Type 0
OtherLast n [] = Unit {0}
OtherLast n (m ∷ []) = number_of m ≡ n → ⊥
OtherLast n (m ∷ (k ∷ ms)) = OtherLast n (k ∷ ms)

-- The last run of the members: a last one, and those with its number right before it.
pub record LastRun (ms : List Member) : Type 0 where
  pub before : List Member
  pub front : List Member
  pub last : Member
  pub is : ms ≡ before ++ (front ++ last ∷ [])
  pub one_number : Each (λ m. number_of m ≡ number_of last) front
  pub other : OtherLast (number_of last) before

-- a run that is the first goes on from the value so far, and any other begins anew
abbrev pub begins_from : List Member → AnyValue → AnyValue
begins_from [] u = u
begins_from (m ∷ ms) u = AnyValue.Empty

-- v is what the members of one run say, of which this is the last, over w
abbrev pub RunSays : (AnyValue → List Field → AnyValue → Type 0) → AnyValue → List Member → Member → AnyValue → Type 0
RunSays Inner w run (TextIn b) v = v ≡ AnyValue.Text b
RunSays Inner w run (FlagIn n) v = v ≡ AnyValue.Flag (number_from Flag n)
RunSays Inner w run (IntIn n) v = v ≡ AnyValue.Int (number_from I64 n)
RunSays Inner w run (DoubleIn b) v = v ≡ AnyValue.Double b
RunSays Inner w run (ItemsIn b) v =
    (fs : List Field) × (vs : List AnyValue) × Spells (flat_map message_of run) fs × ItemsOf Inner fs vs × (v ≡ items (items_in w ++ vs))
RunSays Inner w run (PairsIn b) v =
    (fs : List Field) × (kvs : List KeyValue) × Spells (flat_map message_of run) fs × PairsOf Inner fs kvs × (v ≡ pairs (pairs_in w ++ kvs))
RunSays Inner w run (RawIn b) v = v ≡ AnyValue.Raw b

-- v is the value u with the members, and u where there is none
abbrev pub MembersSay : (AnyValue → List Field → AnyValue → Type 0) → AnyValue → List Member → AnyValue → Type 0
MembersSay Inner u ms v =
    ((ms ≡ []) × (v ≡ u))
    ⊎ ((run : LastRun ms) × RunSays Inner (begins_from run.before u) (run.front ++ run.last ∷ []) run.last v)

-- v is the value u with the fields, with so many levels left; with none there are no fields
abbrev pub HasAny : ℕ → AnyValue → List Field → AnyValue → Type 0
HasAny zero u fs v = (fs ≡ []) × (v ≡ u)
HasAny (suc left) u fs v = MembersSay (HasAny left) u (members fs) v

-- The payload spells fields of which none has a fault, and v is u with them. So many levels are left for the values inside.
pub record IsReadAny (left : ℕ) (u : AnyValue) (bytes : List ℕ) (v : AnyValue) : Type 0 where
  pub fields : List Field
  pub spelled : Spells bytes fields
  pub sound : Each (Sound (MemberFault (AnyFault left))) fields
  pub value : HasAny (suc left) u fields v

-- the same of the payloads of one AnyValue
abbrev pub IsReadAnyInParts : ℕ → AnyValue → List Part → AnyValue → Type 0
IsReadAnyInParts left u parts v = ReadInParts (MemberFault (AnyFault left)) (λ fs. HasAny (suc left) u fs v) parts
