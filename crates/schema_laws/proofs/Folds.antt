-- Reading field by field, for any step, and what it says of payloads.
use Rattle.std.proofs.Common.{◌≡◌, ℕ, zero, suc, ◌+◌, ◌-◌, List, [], ◌∷◌, ◌++◌, length, Result, Ok, Err, refl, sym, ap, ◌∙◌, append_assoc}
use Rattle.std.specs.Prelude.{Option, Some, None}
use Rattle.std.specs.List.{flat_map}
use Rattle.std.specs.Str.{is_utf8}
use Rattle.schema.specs.Field.{Field, Long, Payload}
use Rattle.schema.specs.Fault.{Fault, NotUtf8, Reason, fault_at}
use Rattle.schema.specs.Decoding.{Bad, Done, Met, Trace, field_at, met, trace, trace_upto}
use Rattle.schema.specs.Run.{one_text, run}
use Rattle.schema.specs.RowValue.{bytes_in}
use Rattle.schema_laws.proofs.Results.{ok_is, bind_ok, checked_ok}
use Rattle.schema_laws.proofs.Traces.{fields}

-- ---- what payloads say

-- what is said, and else what was there before
abbrev pub or_else : {A : Type 0} → Option A → A → A
or_else (Some x) u = x
or_else None u = u

-- what the last payload says that fits, and else what was there before
abbrev pub last_said : {A : Type 0} → (Payload → Option A) → List Payload → A → A
last_said said [] u = u
last_said said (p ∷ ps) u = last_said said ps (or_else (said p) u)

-- the fields that a payload spells
abbrev pub inside : Payload → List Field
inside (Long b) = fields (trace 0 b)
inside payload = []

-- messages, of which `value` gives each
abbrev pub messages_of : {A : Type 0} → (List Field → A) → Payload → List A
messages_of value (Long b) = value (fields (trace 0 b)) ∷ []
messages_of value payload = []

-- ---- places

-- the fields of bytes don't depend on the place
met_place : (a b len : ℕ) (r : Result (Field × List ℕ) Reason) (go : ℕ → List ℕ → Trace) → ((c d : ℕ) (bytes : List ℕ) → fields (go c bytes) ≡ fields (go d bytes)) → fields (met a len r go) ≡ fields (met b len r go)
met_place a b len (Ok f) go h = ap (λ (t : List Field). f.0 ∷ t) (h (a + (len - length f.1)) (b + (len - length f.1)) f.1)
met_place a b len (Err e) go h = refl

-- for so many steps
place_upto : (k a b : ℕ) (bytes : List ℕ) → fields (trace_upto k a bytes) ≡ fields (trace_upto k b bytes)
unfolding trace_upto
place_upto zero a b bytes = refl
place_upto (suc k) a b [] = refl
place_upto (suc k) a b (x ∷ bytes) = met_place a b (length (x ∷ bytes)) (field_at (x ∷ bytes)) (trace_upto k) (place_upto k)

-- the fields at another place are the same
pub fields_place : (a : ℕ) (bytes : List ℕ) → fields (trace a bytes) ≡ fields (trace 0 bytes)
fields_place a bytes = place_upto (length bytes) a 0 bytes

-- ---- one field after the other

-- what holds of one field of any step holds of a trace
pub law_over : {S B : Type 0} (step : ℕ → ℕ → Field → S → Result S Fault) (value : S → List Field → B)
    → ((at end : ℕ) (f : Field) (u v : S) (fs : List Field) → step at end f u ≡ Ok v → value u (f ∷ fs) ≡ value v fs)
    → (t : Trace) (u v : S) (fs : List Field) → run step u t ≡ Ok v → value u (fields t ++ fs) ≡ value v fs
unfolding run
law_over {S = S} step value one Done u v fs e = ap (λ (x : S). value x fs) (ok_is u v e)
law_over step value one (Bad at r) u v fs e = absurd cc
law_over step value one (Met at end f t) u v fs e =
    let b = bind_ok (step at end f u) (λ x. run step x t) v e in
    one at end f u b.0 (fields t ++ fs) b.1 ∙ law_over step value one t b.0 v fs b.2

-- what a payload says of a text, where it is one
pub text_said : (at : ℕ) (p : Payload) (u x : List ℕ) → one_text at p u ≡ Ok x → or_else (bytes_in p) u ≡ x
text_said at (Long b) u x e = (checked_ok (is_utf8 b) b x (fault_at at NotUtf8) e).1
text_said at p u x e = ok_is u x e

-- elements that are taken are no more among those to come
pub fold_many : {A : Type 0} (g : Payload → List A) (p : Payload) (ps : List Payload) (u x : List A) → u ++ g p ≡ x → u ++ flat_map g (p ∷ ps) ≡ x ++ flat_map g ps
fold_many g p ps u x e = sym (append_assoc u (g p) (flat_map g ps)) ∙ ap (λ y. y ++ flat_map g ps) e
