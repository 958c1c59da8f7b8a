-- A value is read exactly where the bytes spell fields without a fault, and it is their value row by row.
use Rattle.std.proofs.Common.{◌≡◌, ℕ, List, [], ◌++◌, Result, Ok, sym, ap, ◌∙◌}
use Rattle.std.proofs.lemmas.List.{append-nil}
use Rattle.schema.specs.Field.{Field}
use Rattle.schema.specs.Fault.{Fault}
use Rattle.schema.specs.Shape.{Shape, Value}
use Rattle.schema.specs.Merge.{merge, take_field}
use Rattle.schema.specs.Each.{Each}
use Rattle.schema.specs.Spelling.{Spells}
use Rattle.schema.specs.MessageFault.{FieldFault}
use Rattle.schema.specs.FirstFault.{Sound}
use Rattle.schema_laws.proofs.FieldLists.{fields_spelled}
use Rattle.schema_laws.proofs.StepFaults.{whole, all_read}
use Rattle.schema_laws.proofs.Agreement.{agrees}
use Rattle.schema_laws.proofs.RowByRow.{value, value_nil, read_then}

-- the same with more fields to come
pub value_then : (s : Shape) (u v : Value s) (base : ℕ) (bytes : List ℕ) (fs gs : List Field) → Spells bytes fs → merge s u base bytes ≡ Ok v → value s u (fs ++ gs) ≡ value s v gs
value_then s u v base bytes fs gs sp e = ap (λ (l : List Field). value s u (l ++ gs)) (sym (fields_spelled base bytes fs sp)) ∙ read_then s u v base bytes gs e

-- what is read is the value of the fields
pub value_read : (s : Shape) (u v : Value s) (base : ℕ) (bytes : List ℕ) (fs : List Field) → Spells bytes fs → merge s u base bytes ≡ Ok v → v ≡ value s u fs
value_read s u v base bytes fs sp e = sym (ap (value s u) (sym (append-nil fs)) ∙ value_then s u v base bytes fs [] sp e ∙ value_nil s v)

-- an Ok has fields without a fault, and their value
pub value_from : (s : Shape) (u v : Value s) (base : ℕ) (bytes : List ℕ) → merge s u base bytes ≡ Ok v
    → (fs : List Field) × Spells bytes fs × Each (Sound (FieldFault s)) fs × (v ≡ value s u fs)
value_from s u v base bytes e =
    let a = agrees s in
    let w = whole (take_field s) (FieldFault s) a.hits a.misses a.steady base bytes u v e in
    (w.0, w.1, w.2, value_read s u v base bytes w.0 w.1 e)

-- fields without a fault are read
pub sound_read : (s : Shape) (u : Value s) (base : ℕ) (bytes : List ℕ) (fs : List Field) → Spells bytes fs → Each (Sound (FieldFault s)) fs → (v : Value s) × (merge s u base bytes ≡ Ok v)
sound_read s u base bytes fs sp sound = let a = agrees s in all_read (take_field s) (FieldFault s) a.hits a.misses a.steady fs base bytes u sp sound

-- and the value of fields without a fault is the Ok
pub value_to : (s : Shape) (u v : Value s) (base : ℕ) (bytes : List ℕ) (fs : List Field) → Spells bytes fs → Each (Sound (FieldFault s)) fs → v ≡ value s u fs → merge s u base bytes ≡ Ok v
value_to s u v base bytes fs sp sound e =
    let r = sound_read s u base bytes fs sp sound in
    r.1 ∙ ap (λ (x : Value s). let q : Result (Value s) Fault = Ok x in q) (value_read s u r.0 base bytes fs sp r.1 ∙ sym e)
