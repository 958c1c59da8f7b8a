-- The indexes of a message in the order of the walk, and where each is. (opentelemetry-proto,
-- `profiles/v1development/profiles.proto`, says of each index field which table it points into.)
use Rattle.std.specs.Prelude.{ℕ, suc, ℤ, pos, negsuc, List, [], ◌∷◌, ◌++◌, length, Bool, false, nat_lt, ◌==◌, if◌then◌else◌, Result, Ok, Err}
use Rattle.schema.specs.Messages.{mapping, location, function, attribute, stack, profile, scope_profiles, resource_profiles, dictionary, entries_in, envelope}
use Rattle.schema.specs.Shape.{Shape, Index, One, Many, Value, Table, Mappings, Locations, Functions, Links, Strings, Attributes, Stacks}
use Rattle.meaning.specs.Canonical.{IsIndex}
use Rattle.pb_wire.specs.TableKinds.{table_of}
use Rattle.pb_wire.specs.declared.table_kind.TableKind.{TableKind}
use Rattle.pb_wire.specs.declared.table_kind.TableKind.TheVariants as kind
use Rattle.otlp_msg.specs.declared.path.Holder.{Holder}
use Rattle.otlp_msg.specs.declared.path.Holder.TheVariants as holder
use Rattle.otlp_msg.specs.declared.path.Path.{Path}
use Rattle.otlp_msg.specs.declared.refusal.Refusal.{Refusal}
use Rattle.otlp_msg.specs.declared.refusal.Refusal.TheVariants.{Dangling}

-- the tables, as the code names them
abbrev pub kind_of : Table → TableKind
kind_of Mappings = kind.Mapping
kind_of Locations = kind.Location
kind_of Functions = kind.Function
kind_of Links = kind.Link
kind_of Strings = kind.String
kind_of Attributes = kind.Attribute
kind_of Stacks = kind.Stack

-- an index, the table that it points into, and where it is
pub record Spot : Type 0 where
  pub table : TableKind
  pub index : ℤ
  pub path : Path

-- the same, in one line
abbrev pub spot : TableKind → ℤ → Holder → ℕ → ℕ → Spot
spot table index holder field item = record { table = table; index = index; path = record { holder = holder; field = field; item = item } }

-- ---- the walk

-- who holds the indexes of the message that is in a field of another one, at a place of the field's list
abbrev pub entered : Holder → ℕ → ℕ → Holder
entered (holder.Location entry) field item = if field == 3 then holder.Line entry item else holder.Location entry
entered (holder.Profile profile) field item =
    if field == 1 then holder.SampleType profile
    else (if field == 2 then holder.Sample profile item
    else (if field == 5 then holder.PeriodType profile
    else holder.Profile profile))
entered other field item = other

-- of a row, or of an element of a repeated one: the index that it is, or those of the message that it is
abbrev pub row_spots : (s : Shape) → Holder → ℕ → ℕ → (Holder → Value s → List Spot) → Value s → List Spot
row_spots (Index T k) by field item inner z = spot (kind_of T) z by field item ∷ []
row_spots s by field item inner v = inner (entered by field item) v

-- of each element, from this place on
abbrev pub each_spots : {A : Type 0} → (ℕ → A → List Spot) → ℕ → List A → List Spot
each_spots spots_of i [] = []
each_spots spots_of i (x ∷ xs) = spots_of i x ++ each_spots spots_of (suc i) xs

-- The indexes of a message: fields by ascending number, elements in order. The entry that an index names is not entered.
abbrev pub spots : (s : Shape) → Holder → Value s → List Spot
spots (One n k rest) by v = row_spots k by n 0 (spots k) v.0 ++ spots rest by v.1
spots (Many n k rest) by v = each_spots (λ i. row_spots k by n i (spots k)) 0 v.0 ++ spots rest by v.1
spots s by v = []

-- the holder that an entry of a table is; links and strings hold no index, so it is not asked of them
abbrev pub entry_holder : TableKind → ℕ → Holder
entry_holder kind.Mapping entry = holder.Mapping entry
entry_holder kind.Location entry = holder.Location entry
entry_holder kind.Function entry = holder.Function entry
entry_holder kind.Attribute entry = holder.Attr entry
entry_holder kind.Stack entry = holder.Stack entry
entry_holder table entry = holder.Stack entry

-- of the tables in the order of the dictionary's fields
abbrev pub table_spots : (s : Shape) → TableKind → List (Value s) → List Spot
table_spots s table entries = each_spots (λ i. spots s (entry_holder table i)) 0 entries

abbrev pub dictionary_spots : Value dictionary → List Spot
dictionary_spots d =
    table_spots mapping kind.Mapping (entries_in d Mappings)
    ++ (table_spots location kind.Location (entries_in d Locations)
    ++ (table_spots function kind.Function (entries_in d Functions)
    ++ (table_spots attribute kind.Attribute (entries_in d Attributes)
    ++ table_spots stack kind.Stack (entries_in d Stacks))))

-- of the records
abbrev pub profile_spots : ℕ → ℕ → ℕ → Value profile → List Spot
profile_spots r s p v = spots profile (holder.Profile (record { resource = r; scope = s; profile = p })) v

abbrev pub scope_spots : ℕ → ℕ → Value scope_profiles → List Spot
scope_spots r s v = each_spots (profile_spots r s) 0 v.1.0

abbrev pub resource_spots : ℕ → Value resource_profiles → List Spot
resource_spots r v = each_spots (scope_spots r) 0 v.1.0

-- of a whole message: the tables, and then the records
abbrev pub message_spots : Value envelope → List Spot
message_spots m = dictionary_spots m.1.0 ++ each_spots resource_spots 0 m.0

-- ---- the test

-- the length of a table; an empty one counts as its zero entry alone
abbrev pub count : {A : Type 0} → List A → ℕ
count [] = 1
count (x ∷ xs) = suc (length xs)

abbrev pub lengths_in : Value dictionary → TableKind → ℕ
lengths_in d table = count (entries_in d (table_of table))

-- the index is in its table
abbrev pub IsInside : (TableKind → ℕ) → Spot → Type 0
IsInside len x = IsIndex (len x.table) x.index

-- the same as a test
abbrev pub is_index : ℕ → ℤ → Bool
is_index len (pos i) = nat_lt i len
is_index len (negsuc i) = false

-- the refusal of an index that is in no table
abbrev pub dangling : (TableKind → ℕ) → Spot → Refusal
dangling len x = Dangling x.table x.index (len x.table) x.path

-- the refusal of the first index that is in no table
abbrev pub within : (TableKind → ℕ) → List Spot → Result (Unit {0}) Refusal
within len [] = Ok tt
within len (x ∷ xs) = if is_index (len x.table) x.index then within len xs else Err (dangling len x)
