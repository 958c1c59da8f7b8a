-- A loop over the fields of bytes, and the faults that its steps answer.
use Rattle.std.proofs.Common.{◌≡◌, ℕ, ◌<◌, true, false, List, [], ◌∷◌, length, Result, Ok, sym, ap, ◌∙◌, arith}
use Rattle.std.specs.Prelude.{◌==◌}
use Rattle.std.proofs.lemmas.Bool.{eqb-true}
use Rattle.schema.specs.Fault.{Fault}
use Rattle.schema.specs.Decoding.{◌>>=◌}
use Rattle.pb_wire.specs.declared.fault.ReadFault.{ReadFault}
use Rattle.pb_wire.specs.declared.fault.ReadFault.TheVariants as errors
use Rattle.pb_wire.specs.Answers.{IsFault}

-- where the loop goes on, a byte is left
pub not_empty : (bytes : List ℕ) → false ≡ (length bytes == 0) → 0 < length bytes
not_empty [] e = absurd cc
not_empty (b ∷ bytes) e = omega arith

-- and where it ends, none
pub is_empty : (bytes : List ℕ) → true ≡ (length bytes == 0) → length bytes ≡ 0
is_empty bytes e = eqb-true _ _ (sym e)

-- a step that failed is the failure of the whole
pub fault_bind : {S T : Type 0} (e : ReadFault) (r : Result S Fault) (f : S → Result T Fault) (whole : Result T Fault) → (r >>= f) ≡ whole → IsFault e r → IsFault e whole
fault_bind {S = S} errors.NoMemory r f whole h g = tt
fault_bind {S = S} (errors.Wire x) r f whole h g = sym h ∙ ap (λ (q : Result S Fault). q >>= f) g

-- and a step that went well leaves what is still to come
pub ok_bind : {S T : Type 0} (s : S) (r : Result S Fault) (f : S → Result T Fault) (whole : Result T Fault) → (r >>= f) ≡ whole → r ≡ Ok s → f s ≡ whole
ok_bind {S = S} s r f whole h g = sym (ap (λ (q : Result S Fault). q >>= f) g) ∙ h
