-- A loop that goes over the fields of a body.
use Rattle.std.proofs.Common.{◌≡◌, ℕ, ◌+◌, ◌-◌, ◌<◌, ◌≤◌, List, length, drop, Option, Some, None, Result, Ok, Err, sym, ap, ◌∙◌, arith, length-drop, subst}
use Rattle.schema.specs.Field as wire
use Rattle.schema.specs.Field.{bytes_of}
use Rattle.schema.specs.Fault.{Fault, fault_at}
use Rattle.schema.specs.Run.{run}
use Rattle.schema.specs.Decoding.{◌>>=◌, trace}
use Rattle.schema_laws.proofs.Sizes.{size_of_field}
use Rattle.schema_laws.proofs.Traces.{run_field, run_bad, run_end}
use Rattle.pb_wire.specs.declared.field.Field.{Field}
use Rattle.pb_wire.specs.declared.fault.WireFault.{WireFault}
use Rattle.pb_wire.specs.Answers.{FindsNext}
use Rattle.pb_wire.specs.View.{field_view, payload_view, fault_view, reason_view}

-- what the call says of its answer, by what that is
pub of_field : (base at : ℕ) (body : List ℕ) (o : Option (Field × ℕ)) (x : Field × ℕ) → o ≡ Some x → FindsNext base at body (Ok o) → FindsNext base at body (Ok (Some x))
of_field base at body o x e h = subst (λ (p : Option (Field × ℕ)). FindsNext base at body (Ok p)) e h

pub of_none : (base at : ℕ) (body : List ℕ) (o : Option (Field × ℕ)) → o ≡ None → FindsNext base at body (Ok o) → at ≡ length body
of_none base at body o e h = subst (λ (p : Option (Field × ℕ)). FindsNext base at body (Ok p)) e h

-- the payload of the field that is found lies before its end
pub field_inside : (base at : ℕ) (body : List ℕ) (x : Field × ℕ) → FindsNext base at body (Ok (Some x)) → length (bytes_of (payload_view x.0.payload)) ≤ x.0.end
field_inside base at body x h =
    omega (arith, h.0, h.1, h.3, size_of_field (drop at body) (field_view x.0) (drop x.1 body) h.4, length-drop at body, length-drop x.1 body)

-- which is no further than that of the body
pub field_below : (base at : ℕ) (body : List ℕ) (x : Field × ℕ) → FindsNext base at body (Ok (Some x)) → x.0.end ≤ base + length body
field_below base at body x h = omega (arith, h.1, h.3)

-- a field is taken, and then the rest
pub goes_on : {S : Type 0} (step : ℕ → ℕ → wire.Field → S → Result S Fault) (s : S) (base at : ℕ) (body : List ℕ) (x : Field × ℕ) → FindsNext base at body (Ok (Some x))
    → run step s (trace (base + at) (drop at body)) ≡ (step x.0.at x.0.end (field_view x.0) s >>= λ t. run step t (trace (base + x.1) (drop x.1 body)))
goes_on step s base at body x h =
    let some : 0 < length (drop at body) = omega (arith, h.0, h.1, length-drop at body) in
    let place : (base + at) + (length (drop at body) - length (drop x.1 body)) ≡ base + x.1 = omega (arith, h.0, h.1, length-drop at body, length-drop x.1 body) in
    run_field step s (base + at) (drop at body) (field_view x.0) (drop x.1 body) some h.4
    ∙ ap (λ (n : ℕ). step (base + at) n (field_view x.0) s >>= λ t. run step t (trace n (drop x.1 body))) place
    ∙ ap (λ (n : ℕ). step n (base + x.1) (field_view x.0) s >>= λ t. run step t (trace (base + x.1) (drop x.1 body))) (sym h.2)
    ∙ ap (λ (n : ℕ). step x.0.at n (field_view x.0) s >>= λ t. run step t (trace (base + x.1) (drop x.1 body))) (sym h.3)

-- what is bad is the fault
pub stops : {S : Type 0} (step : ℕ → ℕ → wire.Field → S → Result S Fault) (s : S) (base at : ℕ) (body : List ℕ) (f : WireFault) → FindsNext base at body (Err f)
    → run step s (trace (base + at) (drop at body)) ≡ Err (fault_view f)
stops {S} step s base at body f h =
    let some : 0 < length (drop at body) = omega (arith, h.0, length-drop at body) in
    run_bad step s (base + at) (drop at body) (reason_view f.reason) some h.2
    ∙ ap (λ (n : ℕ). let r : Result S Fault = Err (fault_at n (reason_view f.reason)) in r) (sym h.1)

-- and at the end what was taken stays
pub ends : {S : Type 0} (step : ℕ → ℕ → wire.Field → S → Result S Fault) (s : S) (base at : ℕ) (body : List ℕ) → at ≡ length body → run step s (trace (base + at) (drop at body)) ≡ Ok s
ends step s base at body e = run_end step s (base + at) (drop at body) (omega (arith, e, length-drop at body))
