-- The first fault, for any step over fields that agrees with a relation.
use Rattle.std.proofs.Common.{◌≡◌, ℕ, zero, suc, ◌+◌, ◌<◌, List, [], ◌∷◌, ◌++◌, length, Result, Ok, Err, refl, sym, ap, subst, ◌∙◌, arith, append_assoc, length-append, inl, inr}
use Rattle.schema.specs.Field.{Field}
use Rattle.schema.specs.Fault.{Fault, fault_at}
use Rattle.schema.specs.Decoding.{Trace, trace, ◌>>=◌}
use Rattle.schema.specs.Run.{run}
use Rattle.schema.specs.Each.{Each}
use Rattle.schema.specs.Spelling.{Spells, SpellsField}
use Rattle.schema.specs.FirstFault.{BadField, FirstFault, Sound, WrongAt}
use Rattle.schema_laws.proofs.Results.{err_is, bind_ok}
use Rattle.schema_laws.proofs.Traces.{trace_end, fields}
use Rattle.schema_laws.proofs.FieldLists.{Start, begins, trace_one, trace_bad}

-- where the step fails, the field has the fault
abbrev pub Hits : {S : Type 0} → (ℕ → ℕ → Field → S → Result S Fault) → (ℕ → ℕ → Field → Fault → Type 0) → Type 0
Hits {S = S} step Inside = (at end : ℕ) (f : Field) (s : S) (g : Fault) → step at end f s ≡ Err g → Inside at end f g

-- and where the field has the fault, the step fails
abbrev pub Misses : {S : Type 0} → (ℕ → ℕ → Field → S → Result S Fault) → (ℕ → ℕ → Field → Fault → Type 0) → Type 0
Misses {S = S} step Inside = (at end : ℕ) (f : Field) (s : S) (g : Fault) → Inside at end f g → step at end f s ≡ Err g

-- whether a field is taken depends on no place
abbrev pub Steady : {S : Type 0} → (ℕ → ℕ → Field → S → Result S Fault) → Type 0
Steady {S = S} step = (at end : ℕ) (f : Field) (s t : S) → step at end f s ≡ Ok t → (c d : ℕ) → step c d f s ≡ Ok t

module _ {S : Type 0} (step : ℕ → ℕ → Field → S → Result S Fault) (Inside : ℕ → ℕ → Field → Fault → Type 0) (hits : Hits step Inside) (misses : Misses step Inside) (steady : Steady step) where
  -- the rest has the fault
  further : (base : ℕ) (bytes one rest : List ℕ) (f : Field) (g : Fault) → bytes ≡ one ++ rest → SpellsField one f → Sound Inside f
      → FirstFault Inside (base + length one) rest g → FirstFault Inside base bytes g
  further base bytes one rest f g is s sound r = record {
    before = one ++ r.before;
    after = r.after;
    fields = f ∷ r.fields;
    is = is ∙ ap (λ (y : List ℕ). one ++ y) r.is ∙ sym (append_assoc one r.before r.after);
    spelled = (one, r.before, refl, s, r.spelled);
    sound = (sound, r.sound);
    wrong = subst (λ (p : ℕ). WrongAt Inside p r.after g) (let e : base + length one + length r.before ≡ base + length (one ++ r.before) = omega (arith, length-append one r.before) in e) r.wrong;
  }

  -- what is wrong in front is the first fault
  at_once : (base : ℕ) (bytes : List ℕ) (g : Fault) → WrongAt Inside base bytes g → FirstFault Inside base bytes g
  at_once base bytes g w = record {
    before = [];
    after = bytes;
    fields = [];
    is = refl;
    spelled = refl;
    sound = tt;
    wrong = subst (λ (p : ℕ). WrongAt Inside p bytes g) (let e : base ≡ base + length {A = ℕ} [] = omega arith in e) w;
  }

  -- by whether the first field is taken
  found_met : (base : ℕ) (bytes one rest : List ℕ) (f : Field) (s : S) (g : Fault) → bytes ≡ one ++ rest → SpellsField one f
      → ((t : S) → run step t (trace (base + length one) rest) ≡ Err g → FirstFault Inside (base + length one) rest g)
      → (r : Result S Fault) → step base (base + length one) f s ≡ r
      → (r >>= λ t. run step t (trace (base + length one) rest)) ≡ Err g → FirstFault Inside base bytes g
  found_met base bytes one rest f s g is sp ih (Err h) q e =
      at_once base bytes g (inr (one, rest, f, is, sp, hits base (base + length one) f s g (q ∙ e)))
  found_met base bytes one rest f s g is sp ih (Ok t) q e =
      further base bytes one rest f g is sp (λ at end h i. let m = misses at end f s h i in let o = steady base (base + length one) f s t q at end in absurd (cc (o, m))) (ih t e)

  -- by what the bytes begin with
  found_step : (base : ℕ) (bytes : List ℕ) (s : S) (g : Fault) → Start base bytes
      → ((c : ℕ) (rest : List ℕ) (t : S) → length rest < length bytes → run step t (trace c rest) ≡ Err g → FirstFault Inside c rest g)
      → run step s (trace base bytes) ≡ Err g → FirstFault Inside base bytes g
  unfolding run
  found_step base bytes s g (Start.over n) ih e = let d = ap (run step s) (sym (trace_end base bytes (ap length n))) ∙ e in absurd cc
  found_step base bytes s g (Start.bad r b q) ih e =
      let d : fault_at base r ≡ g = err_is {A = S} (fault_at base r) g (ap (run step s) (sym q) ∙ e) in
      at_once base bytes g (inl (subst (BadField bytes) (ap (λ (x : Fault). x.reason) d) b, ap (λ (x : Fault). x.place) (sym d)))
  found_step base bytes s g (Start.met_one one rest f is sp lt q) ih e =
      found_met base bytes one rest f s g is sp (λ t u. ih (base + length one) rest t lt u) (step base (base + length one) f s) refl (ap (run step s) (sym q) ∙ e)

  -- for texts up to a length
  found_upto : (k base : ℕ) (bytes : List ℕ) (s : S) (g : Fault) → length bytes < k → run step s (trace base bytes) ≡ Err g → FirstFault Inside base bytes g
  found_upto zero base bytes s g lt e = absurd (omega arith)
  found_upto (suc k) base bytes s g lt e = found_step base bytes s g (begins base bytes) (λ c rest t less u. found_upto k c rest t g (omega arith) u) e

  -- an Err is the first fault
  pub fault_found : (base : ℕ) (bytes : List ℕ) (s : S) (g : Fault) → run step s (trace base bytes) ≡ Err g → FirstFault Inside base bytes g
  fault_found base bytes s g e = found_upto (suc (length bytes)) base bytes s g (omega arith) e

  -- what is wrong in front fails
  wrong_read : (base : ℕ) (bytes : List ℕ) (s : S) (g : Fault) → WrongAt Inside base bytes g → run step s (trace base bytes) ≡ Err g
  unfolding run
  wrong_read base bytes s g (inl w) = ap (run step s) (trace_bad base bytes g.reason w.0) ∙ ap (λ (p : ℕ). let r : Result S Fault = Err (fault_at p g.reason) in r) (sym w.1)
  wrong_read base bytes s g (inr w) =
      let one = w.0 in let rest = w.1 in let f = w.2 in
      ap (run step s) (ap (trace base) w.3 ∙ trace_one base one rest f w.4)
      ∙ ap (λ (r : Result S Fault). r >>= λ t. run step t (trace (base + length one) rest)) (misses base (base + length one) f s g w.5)

  -- a field without a fault is taken, and then the rest fails
  read_met : (base end : ℕ) (f : Field) (rest : Trace) (s : S) (g : Fault) → Sound Inside f
      → ((t : S) → run step t rest ≡ Err g) → (r : Result S Fault) → step base end f s ≡ r → (r >>= λ t. run step t rest) ≡ Err g
  read_met base end f rest s g sound ih (Ok t) q = ih t
  read_met base end f rest s g sound ih (Err h) q = absurd (sound base end h (hits base end f s h q))

  -- fields without a fault, and then what is wrong, fail
  read_upto : (fs : List Field) (base : ℕ) (before after : List ℕ) (s : S) (g : Fault) → Spells before fs → Each (Sound Inside) fs → WrongAt Inside (base + length before) after g
      → run step s (trace base (before ++ after)) ≡ Err g
  unfolding run
  read_upto [] base before after s g right sound wrong =
      ap (λ (y : List ℕ). run step s (trace base (y ++ after))) right
      ∙ wrong_read base after s g (subst (λ (p : ℕ). WrongAt Inside p after g) (let l = ap length right in let e : base + length before ≡ base = omega arith in e) wrong)
  read_upto (f ∷ fs) base before after s g right sound wrong =
      let one = right.0 in let others = right.1 in
      let l : length before ≡ length (one ++ others) = ap length right.2 in
      let e : before ++ after ≡ one ++ (others ++ after) = ap (λ (y : List ℕ). y ++ after) right.2 ∙ append_assoc one others after in
      let w = subst (λ (p : ℕ). WrongAt Inside p after g) (let e : base + length before ≡ base + length one + length others = omega (arith, length-append one others) in e) wrong in
      ap (run step s) (ap (trace base) e ∙ trace_one base one (others ++ after) f right.3)
      ∙ read_met base (base + length one) f (trace (base + length one) (others ++ after)) s g sound.0
      (λ t. read_upto fs (base + length one) others after t g right.4 sound.1 w) (step base (base + length one) f s) refl

  -- the first fault is the Err
  pub fault_read : (base : ℕ) (bytes : List ℕ) (s : S) (g : Fault) → FirstFault Inside base bytes g → run step s (trace base bytes) ≡ Err g
  fault_read base bytes s g r = ap (λ (y : List ℕ). run step s (trace base y)) r.is ∙ read_upto r.fields base r.before r.after s g r.spelled r.sound r.wrong

  -- ---- what is read without a fault

  -- at another place the same is read, by the first field
  moved_step : (base other : ℕ) (bytes : List ℕ) (s t : S) → Start base bytes
      → ((b c : ℕ) (rest : List ℕ) (u : S) → length rest < length bytes → run step u (trace b rest) ≡ Ok t → run step u (trace c rest) ≡ Ok t)
      → run step s (trace base bytes) ≡ Ok t → run step s (trace other bytes) ≡ Ok t
  unfolding run
  moved_step base other bytes s t (Start.over n) ih e = ap (run step s) (trace_end other bytes (ap length n) ∙ sym (trace_end base bytes (ap length n))) ∙ e
  moved_step base other bytes s t (Start.bad r b q) ih e = let d = ap (run step s) (sym q) ∙ e in absurd cc
  moved_step base other bytes s t (Start.met_one one rest f is sp lt q) ih e =
      let x = bind_ok (step base (base + length one) f s) (λ u. run step u (trace (base + length one) rest)) t (ap (run step s) (sym q) ∙ e) in
      ap (run step s) (ap (trace other) is ∙ trace_one other one rest f sp)
      ∙ ap (λ (r : Result S Fault). r >>= λ u. run step u (trace (other + length one) rest)) (steady base (base + length one) f s x.0 x.1 other (other + length one))
      ∙ ih (base + length one) (other + length one) rest x.0 lt x.2

  -- for texts up to a length
  moved_upto : (k base other : ℕ) (bytes : List ℕ) (s t : S) → length bytes < k → run step s (trace base bytes) ≡ Ok t → run step s (trace other bytes) ≡ Ok t
  moved_upto zero base other bytes s t lt e = absurd (omega arith)
  moved_upto (suc k) base other bytes s t lt e = moved_step base other bytes s t (begins base bytes) (λ b c rest u less q. moved_upto k b c rest u t (omega arith) q) e

  -- at another place the same is read
  pub moved : (base other : ℕ) (bytes : List ℕ) (s t : S) → run step s (trace base bytes) ≡ Ok t → run step s (trace other bytes) ≡ Ok t
  moved base other bytes s t e = moved_upto (suc (length bytes)) base other bytes s t (omega arith) e

  -- the bytes spell the fields of the trace, and none has a fault
  abbrev pub Whole : ℕ → List ℕ → Type 0
  Whole base bytes = (fs : List Field) × Spells bytes fs × Each (Sound Inside) fs × (fields (trace base bytes) ≡ fs)

  -- by the first field
  whole_step : (base : ℕ) (bytes : List ℕ) (s t : S) → Start base bytes
      → ((b : ℕ) (rest : List ℕ) (u : S) → length rest < length bytes → run step u (trace b rest) ≡ Ok t → Whole b rest)
      → run step s (trace base bytes) ≡ Ok t → Whole base bytes
  unfolding run
  whole_step base bytes s t (Start.over n) ih e = ([], n, tt, ap fields (trace_end base bytes (ap length n)))
  whole_step base bytes s t (Start.bad r b q) ih e = let d = ap (run step s) (sym q) ∙ e in absurd cc
  whole_step base bytes s t (Start.met_one one rest f is sp lt q) ih e =
      let x = bind_ok (step base (base + length one) f s) (λ u. run step u (trace (base + length one) rest)) t (ap (run step s) (sym q) ∙ e) in
      let w = ih (base + length one) rest x.0 lt x.2 in
      let sound : Sound Inside f = λ at end h i. let m = misses at end f s h i in let o = steady base (base + length one) f s x.0 x.1 at end in absurd (cc (o, m)) in
      (f ∷ w.0, (one, rest, is, sp, w.1), (sound, w.2), ap fields q ∙ ap (λ (l : List Field). f ∷ l) w.3)

  -- for texts up to a length
  whole_upto : (k base : ℕ) (bytes : List ℕ) (s t : S) → length bytes < k → run step s (trace base bytes) ≡ Ok t → Whole base bytes
  whole_upto zero base bytes s t lt e = absurd (omega arith)
  whole_upto (suc k) base bytes s t lt e = whole_step base bytes s t (begins base bytes) (λ b rest u less q. whole_upto k b rest u t (omega arith) q) e

  -- an Ok has read the fields that the bytes spell, and none has a fault
  pub whole : (base : ℕ) (bytes : List ℕ) (s t : S) → run step s (trace base bytes) ≡ Ok t → Whole base bytes
  whole base bytes s t e = whole_upto (suc (length bytes)) base bytes s t (omega arith) e

  -- a field without a fault is taken
  taken : (base end : ℕ) (f : Field) (rest : Trace) (s : S) → Sound Inside f → ((t : S) → (u : S) × (run step t rest ≡ Ok u))
      → (r : Result S Fault) → step base end f s ≡ r → (u : S) × ((r >>= λ t. run step t rest) ≡ Ok u)
  taken base end f rest s sound ih (Ok t) q = ih t
  taken base end f rest s sound ih (Err h) q = absurd (sound base end h (hits base end f s h q))

  -- and what is spelled so is Ok
  pub all_read : (fs : List Field) (base : ℕ) (bytes : List ℕ) (s : S) → Spells bytes fs → Each (Sound Inside) fs → (u : S) × (run step s (trace base bytes) ≡ Ok u)
  unfolding run
  all_read [] base bytes s right sound = (s, ap (run step s) (trace_end base bytes (ap length right)))
  all_read (f ∷ fs) base bytes s right sound =
      let one = right.0 in let rest = right.1 in
      let r = taken base (base + length one) f (trace (base + length one) rest) s sound.0 (λ t. all_read fs (base + length one) rest t right.4 sound.1) (step base (base + length one) f s) refl in
      (r.0, ap (run step s) (ap (trace base) right.2 ∙ trace_one base one rest f right.3) ∙ r.1)
