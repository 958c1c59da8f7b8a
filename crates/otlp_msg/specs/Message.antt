-- What the bytes of a file say, or the first reason why they are refused.
use Rattle.std.specs.Prelude.{◌≡◌, ℕ, List, length, sum_by, if◌then◌else◌, nat_lt, Option, Some, None, Result, Ok, Err}
use Rattle.schema.specs.Fault as faults
use Rattle.schema.specs.Fault.{Fault}
use Rattle.schema.specs.Merge.{merge}
use Rattle.schema.specs.Messages.{envelope, resource_profiles, scope_profiles, profile, dictionary}
use Rattle.schema.specs.Shape.{Value, empty}
use Rattle.schema.specs.Decoding.{◌>>=◌}
use Rattle.pb_wire.specs.declared.fault.Reason.{Reason}
use Rattle.pb_wire.specs.declared.fault.Reason.TheVariants as reasons
use Rattle.pb_wire.specs.declared.table_kind.TableKind.{TableKind}
use Rattle.otlp_msg.specs.declared.refusal.Refusal.{Refusal}
use Rattle.otlp_msg.specs.declared.refusal.Refusal.TheVariants.{Size, Wire, ZeroEntry, Dangling, NoMemory}
use Rattle.otlp_msg.specs.Walk.{lengths_in, message_spots, within}
use Rattle.otlp_msg.specs.ZeroEntries.{all_tables, first_other}

-- a message: resource records, and the dictionary
abbrev pub Message : Type 0
Message = Value envelope

-- the greatest number of bytes of a message
abbrev pub message_limit : ℕ
message_limit = 33554432

abbrev pub records_of : Message → List (Value resource_profiles)
records_of m = m.0

abbrev pub dictionary_of : Message → Value dictionary
dictionary_of m = m.1.0

-- how many profiles, and how many samples, there are in some profiles, scopes and resources
abbrev pub samples_in_profiles : List (Value profile) → ℕ
samples_in_profiles profiles = sum_by (λ p. length p.1.0) profiles

abbrev pub profiles_in_scopes : List (Value scope_profiles) → ℕ
profiles_in_scopes scopes = sum_by (λ s. length s.1.0) scopes

abbrev pub samples_in_scopes : List (Value scope_profiles) → ℕ
samples_in_scopes scopes = sum_by (λ s. samples_in_profiles s.1.0) scopes

abbrev pub profiles_of : Message → ℕ
profiles_of m = sum_by (λ r. profiles_in_scopes r.1.0) (records_of m)

abbrev pub samples_of : Message → ℕ
samples_of m = sum_by (λ r. samples_in_scopes r.1.0) (records_of m)

-- the refusal of a fault at this place
abbrev pub wire_refusal : ℕ → Reason → Refusal
wire_refusal place reason = Wire (record { place = place; reason = reason })

abbrev pub refusal_at : ℕ → faults.Reason → Refusal
refusal_at place faults.Truncated = wire_refusal place reasons.Truncated
refusal_at place faults.VarintLong = wire_refusal place reasons.VarintLong
refusal_at place faults.FieldNumber = wire_refusal place reasons.FieldNumber
refusal_at place faults.WireType = wire_refusal place reasons.WireType
refusal_at place faults.NotUtf8 = wire_refusal place reasons.NotUtf8
refusal_at place faults.PackedLength = wire_refusal place reasons.PackedLength
refusal_at place faults.TooDeep = wire_refusal place reasons.TooDeep

-- the tests on what was read: an index that is in no table, where each table begins with its zero entry
abbrev pub with_indexes : Message → Result Message Refusal
with_indexes m = within (lengths_in (dictionary_of m)) (message_spots m) >>= λ _. Ok m

abbrev pub with_zeros : Option TableKind → Message → Result Message Refusal
with_zeros (Some table) m = Err (ZeroEntry table)
with_zeros None m = with_indexes m

abbrev pub tested : Result Message Fault → Result Message Refusal
tested (Ok m) = with_zeros (first_other (dictionary_of m) all_tables) m
tested (Err f) = Err (refusal_at f.place f.reason)

-- The message that the bytes of a file are, or their refusal: their size, else their first fault, else the first table whose
-- first entry isn't zero, else the first index of the walk that is in no table.
abbrev pub message_of : List ℕ → Result Message Refusal
message_of body = if nat_lt message_limit (length body) then Err (Size (length body)) else tested (merge envelope (empty envelope) 0 body)

-- the refusal is the one that is wanted, or out of memory
abbrev pub IsRefusal : {T : Type 0} → Result T Refusal → Refusal → Type 0
IsRefusal want (Size len) = want ≡ Err (Size len)
IsRefusal want (Wire fault) = want ≡ Err (Wire fault)
IsRefusal want (ZeroEntry table) = want ≡ Err (ZeroEntry table)
IsRefusal want (Dangling table index len path) = want ≡ Err (Dangling table index len path)
IsRefusal want NoMemory = Unit {0}
