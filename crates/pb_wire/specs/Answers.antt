-- What calls answer, against what the definitions of `schema` say.
use Rattle.std.specs.Prelude.{◌≡◌, ℕ, ◌+◌, ◌<◌, ◌≤◌, List, length, drop, Result, Ok, Err, Option, Some, None}
use Rattle.schema.specs.Fault as faults
use Rattle.schema.specs.Fault.{Fault}
use Rattle.schema.specs.Decoding.{field_at}
use Rattle.pb_wire.specs.declared.fault.Reason.{Reason}
use Rattle.pb_wire.specs.declared.fault.ReadFault.{ReadFault}
use Rattle.pb_wire.specs.declared.fault.ReadFault.TheVariants.{Wire, NoMemory}
use Rattle.pb_wire.specs.declared.fault.WireFault.{WireFault}
use Rattle.pb_wire.specs.declared.field.Field.{Field}
use Rattle.pb_wire.specs.View.{field_view, reason_view, fault_view}

-- a call that takes no memory answers what is wanted, seen by view
abbrev pub Gives : {X Y : Type 0} → (X → Y) → Result X Reason → Result Y faults.Reason → Type 0
Gives view (Ok x) want = want ≡ Ok (view x)
Gives view (Err reason) want = want ≡ Err (reason_view reason)

-- the fault is the one that is wanted, or out of memory
abbrev pub IsFault : {S : Type 0} → ReadFault → Result S Fault → Type 0
IsFault NoMemory want = Unit {0}
IsFault (Wire f) want = want ≡ Err (fault_view f)

-- the call was not out of memory
abbrev pub TakesNone : {A : Type 0} → Result A ReadFault → Type 0
TakesNone (Ok a) = Unit {0}
TakesNone (Err NoMemory) = ⊥
TakesNone (Err e) = Unit {0}

-- a call that reads answers the value that is wanted, seen by view, or its fault
abbrev pub Reads : {X Y : Type 0} → (X → Y) → Result X ReadFault → Result Y Fault → Type 0
Reads view (Ok x) want = want ≡ Ok (view x)
Reads view (Err e) want = IsFault e want

-- a call that reads onto a value in place leaves the one that is wanted, or answers its fault
abbrev pub Took : {A S : Type 0} → S → Result A ReadFault → Result S Fault → Type 0
Took new (Ok a) want = want ≡ Ok new
Took new (Err e) want = IsFault e want

-- One step over the fields of a body: nothing at its end, else the field that begins there, where it lies and where the
-- next begins, else what is bad there.
abbrev pub FindsNext : ℕ → ℕ → List ℕ → Result (Option (Field × ℕ)) WireFault → Type 0
FindsNext base at body (Ok None) = at ≡ length body
FindsNext base at body (Ok (Some x)) =
    (at < x.1) × (x.1 ≤ length body) × (x.0.at ≡ base + at) × (x.0.end ≡ base + x.1)
    × (field_at (drop at body) ≡ Ok (field_view x.0, drop x.1 body))
FindsNext base at body (Err f) = (at < length body) × (f.place ≡ base + at) × (field_at (drop at body) ≡ Err (reason_view f.reason))
