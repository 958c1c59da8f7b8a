-- A payload that is no bytes is skipped by a message.
use Rattle.std.proofs.Common.{◌≡◌, ℕ, List, Result, Ok, refl, Bor}
use Rattle.schema.specs.Fault.{Fault}
use Rattle.schema.specs.Field.{Field}
use Rattle.schema.specs.Merge.{take_one, take_many}
use Rattle.schema.specs.Shape.{Shape, Value, IsMessage}
use Rattle.schema_laws.proofs.Rows.{IsShort, take_one_short, take_many_short}
use Rattle.pb_wire.specs.declared.field.Payload.{Payload}
use Rattle.pb_wire.specs.declared.field.Payload.TheVariants as payloads
use Rattle.pb_wire.specs.View.{payload_view}

-- it has no length
no_bytes : (p : Payload) → ((x : Bor (List ℕ)) → p ≡ payloads.Bytes x → ⊥) → IsShort (payload_view p)
no_bytes (payloads.Varint n) h = tt
no_bytes (payloads.Fixed64 b) h = tt
no_bytes (payloads.Bytes b) h = h b refl
no_bytes (payloads.Fixed32 b) h = tt

-- by a singular one
pub take_one_other : (s : Shape) (inside : ℕ → ℕ → Field → Value s → Result (Value s) Fault) (at end : ℕ) (p : Payload) (v : Value s) → IsMessage s
    → ((x : Bor (List ℕ)) → p ≡ payloads.Bytes x → ⊥) → take_one s inside at end (payload_view p) v ≡ Ok v
take_one_other s inside at end p v m h = take_one_short s inside at end (payload_view p) v m (no_bytes p h)

-- and by a repeated one
pub take_many_other : (s : Shape) (inside : ℕ → ℕ → Field → Value s → Result (Value s) Fault) (at end : ℕ) (p : Payload) (vs : List (Value s)) → IsMessage s
    → ((x : Bor (List ℕ)) → p ≡ payloads.Bytes x → ⊥) → take_many s inside at end (payload_view p) vs ≡ Ok vs
take_many_other s inside at end p vs m h = take_many_short s inside at end (payload_view p) vs m (no_bytes p h)
