-- The payloads of a row, one after the other.
use Rattle.std.proofs.Common.{◌≡◌, ℕ, Bool, true, false, cond, List, [], ◌∷◌, refl}
use Rattle.std.specs.Prelude.{◌==◌}
use Rattle.std.specs.List.{flat_map}
use Rattle.std.proofs.lemmas.Bool.{eqb-true}
use Rattle.schema.specs.Field.{Field, Payload}
use Rattle.schema.specs.Fault.{Fault}
use Rattle.schema.specs.Each.{Each}
use Rattle.schema.specs.FirstFault.{Sound}
use Rattle.schema.specs.RowValue.{Concats, of_number}

-- the payload has no fault, wherever it lies
abbrev pub PayloadSound : (ℕ → ℕ → Payload → Fault → Type 0) → Payload → Type 0
PayloadSound F p = (at end : ℕ) (h : Fault) → F at end p h → ⊥

-- the payloads of a number have no fault, where theirs is one of the field; by the first field
number_step : (n : ℕ) (F : ℕ → ℕ → Payload → Fault → Type 0) (G : ℕ → ℕ → Field → Fault → Type 0) → ((at end : ℕ) (f : Field) (h : Fault) → f.number ≡ n → F at end f.payload h → G at end f h)
    → (f : Field) (ps : List Payload) (t : Bool) → (t ≡ true → f.number ≡ n) → Sound G f → Each (PayloadSound F) ps → Each (PayloadSound F) (cond t (f.payload ∷ ps) ps)
number_step n F G from f ps true e sound more = (λ at end h i. sound at end h (from at end f h (e refl) i), more)
number_step n F G from f ps false e sound more = more

-- the payloads of a number have no fault
pub number_sound : (n : ℕ) (F : ℕ → ℕ → Payload → Fault → Type 0) (G : ℕ → ℕ → Field → Fault → Type 0) → ((at end : ℕ) (f : Field) (h : Fault) → f.number ≡ n → F at end f.payload h → G at end f h)
    → (fs : List Field) → Each (Sound G) fs → Each (PayloadSound F) (of_number n fs)
number_sound n F G from [] s = tt
number_sound n F G from (f ∷ fs) s = number_step n F G from f (of_number n fs) (f.number == n) (eqb-true f.number n) s.0 (number_sound n F G from fs s.1)

-- `Of` says the elements of one occurrence, and g gives them
pub record Gives {A : Type 0} (F : ℕ → ℕ → Payload → Fault → Type 0) (Of : Payload → List A → Type 0) (g : Payload → List A) : Type 0 where
  pub to : (p : Payload) → PayloadSound F p → Of p (g p)
  pub back : (p : Payload) (one : List A) → PayloadSound F p → Of p one → one ≡ g p

-- what holds of one occurrence holds of them all
pub concats_to : {A : Type 0} (F : ℕ → ℕ → Payload → Fault → Type 0) (Of : Payload → List A → Type 0) (g : Payload → List A) → Gives F Of g
    → (ps : List Payload) → Each (PayloadSound F) ps → (vs : List A) → vs ≡ flat_map g ps → Concats Of ps vs
concats_to F Of g h [] s vs e = e
concats_to F Of g h (p ∷ ps) s vs e = (g p, flat_map g ps, e, h.to p s.0, concats_to F Of g h ps s.1 (flat_map g ps) refl)

-- and the other way
pub concats_back : {A : Type 0} (F : ℕ → ℕ → Payload → Fault → Type 0) (Of : Payload → List A → Type 0) (g : Payload → List A) → Gives F Of g
    → (ps : List Payload) → Each (PayloadSound F) ps → (vs : List A) → Concats Of ps vs → vs ≡ flat_map g ps
concats_back F Of g h [] s vs e = e
concats_back F Of g h (p ∷ ps) s vs c =
    let here = h.back p c.0 s.0 c.3 in
    let more = concats_back F Of g h ps s.1 c.1 c.4 in
    let e = c.2 in cc (e, here, more)
