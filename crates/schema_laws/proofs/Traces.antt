-- The fields of bytes, one after the other, and a step over them.
use Rattle.std.proofs.Common.{◌≡◌, ℕ, zero, suc, ◌+◌, ◌-◌, ◌<◌, ◌≤◌, List, [], ◌∷◌, length, Result, Ok, Err, refl, ap, ◌∙◌, arith}
use Rattle.schema.specs.Field.{Field}
use Rattle.schema.specs.Fault.{Reason, Fault, fault_at}
use Rattle.schema.specs.Decoding.{◌>>=◌, field_at, Trace, Done, Bad, Met, met, trace, trace_upto}
use Rattle.schema.specs.Run.{run}
use Rattle.schema_laws.proofs.Sizes.{Leaves, field_size, field_leaves}

-- a first field, and the same after it
met_same : (at len m : ℕ) (r : Result (Field × List ℕ) Reason) (go other : ℕ → List ℕ → Trace) → Leaves field_size (suc m) r
    → ((place : ℕ) (bytes : List ℕ) → length bytes ≤ m → go place bytes ≡ other place bytes) → met at len r go ≡ met at len r other
met_same at len m (Ok f) go other h same = ap (λ (t : Trace). Met at (at + (len - length f.1)) f.0 t) (same (at + (len - length f.1)) f.1 (omega arith))
met_same at len m (Err e) go other h same = refl

-- more steps than there are bytes give the same trace
enough : (k n : ℕ) (at : ℕ) (bytes : List ℕ) → length bytes ≤ k → length bytes ≤ n → trace_upto k at bytes ≡ trace_upto n at bytes
unfolding trace_upto
enough zero zero at bytes p q = refl
enough zero (suc n) at [] p q = refl
enough zero (suc n) at (b ∷ bytes) p q = absurd (omega arith)
enough (suc k) zero at [] p q = refl
enough (suc k) zero at (b ∷ bytes) p q = absurd (omega arith)
enough (suc k) (suc n) at [] p q = refl
enough (suc k) (suc n) at (b ∷ bytes) p q =
    met_same at (suc (length bytes)) (length bytes) (field_at (b ∷ bytes)) (trace_upto k) (trace_upto n) (field_leaves (b ∷ bytes))
    (λ c rest le. enough k n c rest (omega arith) (omega arith))

-- the trace is one field, and the trace of the rest
pub trace_is : (at : ℕ) (bytes : List ℕ) → 0 < length bytes → trace at bytes ≡ met at (length bytes) (field_at bytes) trace
unfolding trace_upto
trace_is at [] h = absurd (omega arith)
trace_is at (b ∷ bytes) h =
    met_same at (suc (length bytes)) (length bytes) (field_at (b ∷ bytes)) (trace_upto (length bytes)) trace (field_leaves (b ∷ bytes))
    (λ c rest le. enough (length bytes) (length rest) c rest le (omega arith))

-- no bytes have no fields
pub trace_end : (at : ℕ) (bytes : List ℕ) → length bytes ≡ 0 → trace at bytes ≡ Done
unfolding trace_upto
trace_end at [] h = refl
trace_end at (b ∷ bytes) h = absurd (omega arith)

-- a field at the front is taken, and then the rest
pub run_field : {S : Type 0} (step : ℕ → ℕ → Field → S → Result S Fault) (s : S) (at : ℕ) (bytes : List ℕ) (f : Field) (after : List ℕ)
    → 0 < length bytes → field_at bytes ≡ Ok (f, after)
    → run step s (trace at bytes) ≡ (step at (at + (length bytes - length after)) f s >>= λ t. run step t (trace (at + (length bytes - length after)) after))
unfolding run
run_field step s at bytes f after some e =
    ap (run step s) (trace_is at bytes some ∙ ap (λ (r : Result (Field × List ℕ) Reason). met at (length bytes) r trace) e)

-- a bad field at the front is the fault
pub run_bad : {S : Type 0} (step : ℕ → ℕ → Field → S → Result S Fault) (s : S) (at : ℕ) (bytes : List ℕ) (r : Reason)
    → 0 < length bytes → field_at bytes ≡ Err r → run step s (trace at bytes) ≡ Err (fault_at at r)
unfolding run
run_bad step s at bytes r some e =
    ap (run step s) (trace_is at bytes some ∙ ap (λ (q : Result (Field × List ℕ) Reason). met at (length bytes) q trace) e)

-- at the end the state stays
pub run_end : {S : Type 0} (step : ℕ → ℕ → Field → S → Result S Fault) (s : S) (at : ℕ) (bytes : List ℕ) → length bytes ≡ 0 → run step s (trace at bytes) ≡ Ok s
unfolding run
run_end step s at bytes e = ap (run step s) (trace_end at bytes e)

-- the fields that a trace has met
abbrev pub fields : Trace → List Field
fields Done = []
fields (Bad at reason) = []
fields (Met at end f rest) = f ∷ fields rest
