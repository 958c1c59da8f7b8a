-- A message that lies in parts.
use Rattle.std.proofs.Common.{◌≡◌, ℕ, ◌+◌, ◌*◌, ◌^◌, ◌<◌, ◌≤◌, List, [], ◌∷◌, ◌++◌, length, Result, Ok, Err, refl, sym, ap, subst, ◌∙◌, arith, length-append}
use Rattle.schema.specs.Each.{Each}
use Rattle.schema.specs.Field.{Field}
use Rattle.schema.specs.Fault.{Fault}
use Rattle.schema.specs.FirstFault.{FirstFault, Sound}
use Rattle.schema.specs.Parts.{FaultInParts, Part, ReadInParts, SpellsEach, joined, run_all}
use Rattle.schema.specs.Run.{run}
use Rattle.schema.specs.Spelling.{Spells}
use Rattle.schema.specs.Decoding.{◌>>=◌, trace}
use Rattle.schema_laws.proofs.Folds.{law_over}
use Rattle.schema_laws.proofs.Growing.{Grows, StepKeeps, run_keeps}
use Rattle.schema_laws.proofs.Lists.{Octets, each_append, each_left, each_right}
use Rattle.schema_laws.proofs.Results.{ok_is, bind_ok}
use Rattle.schema_laws.proofs.FieldLists.{fields_spelled, spells_append}
use Rattle.schema_laws.proofs.StepAgreement.{StepAgrees, ok_from}
use Rattle.schema_laws.proofs.StepFaults.{all_read, fault_found, fault_read, whole}

-- what the parts spell is spelled by their joined bytes
pub joined_spelled : (parts : List Part) (fs : List Field) → SpellsEach parts fs → Spells (joined parts) fs
joined_spelled [] fs s = subst (Spells []) (sym s) refl
joined_spelled (p ∷ ps) fs s = subst (Spells (joined (p ∷ ps))) (sym s.2) (spells_append p.bytes (joined ps) s.0 s.1 s.3 (joined_spelled ps s.1 s.4))

module _ {S : Type 0} (step : ℕ → ℕ → Field → S → Result S Fault) (Inside : ℕ → ℕ → Field → Fault → Type 0) (a : StepAgrees step Inside) where
  -- ---- faults

  -- the part has no fault
  abbrev PartSound : Part → Type 0
  PartSound p = (h : Fault) → FirstFault Inside p.base p.bytes h → ⊥

  -- an Err of a part is its first fault
  part_err : (u : S) (p : Part) (g : Fault) → run step u (trace p.base p.bytes) ≡ Err g → FirstFault Inside p.base p.bytes g
  part_err u p g e = fault_found step Inside a.hits a.misses a.steady p.base p.bytes u g e

  -- and its first fault the Err
  part_fault : (u : S) (p : Part) (g : Fault) → FirstFault Inside p.base p.bytes g → run step u (trace p.base p.bytes) ≡ Err g
  part_fault u p g h = fault_read step Inside a.hits a.misses a.steady p.base p.bytes u g h

  -- a part that is read has none
  part_ok : (u v : S) (p : Part) → run step u (trace p.base p.bytes) ≡ Ok v → PartSound p
  part_ok u v p e h f = let q = part_fault u p h f in absurd (cc (e, q))

  -- and one that has none is read
  part_sound : (u : S) (p : Part) → PartSound p → (v : S) × (run step u (trace p.base p.bytes) ≡ Ok v)
  part_sound u p s = ok_from (run step u (trace p.base p.bytes)) (λ g e. s g (part_err u p g e))

  -- parts that fail have the fault, by the first part
  found_part : (u : S) (p : Part) (ps : List Part) (g : Fault) → ((w : S) → run_all step w ps ≡ Err g → FaultInParts Inside ps g)
      → (r : Result S Fault) → run step u (trace p.base p.bytes) ≡ r → (r >>= λ w. run_all step w ps) ≡ Err g → FaultInParts Inside (p ∷ ps) g
  found_part u p ps g ih (Err h) q e = record { before = []; part = p; after = ps; is = refl; sound = tt; wrong = part_err u p g (q ∙ e) }
  found_part u p ps g ih (Ok w) q e =
      let b = ih w e in
      record {
        before = p ∷ b.before;
        part = b.part;
        after = b.after;
        is = ap (λ (l : List Part). p ∷ l) b.is;
        sound = (part_ok u w p q, b.sound);
        wrong = b.wrong;
      }

  -- an Err is the first fault of the parts
  pub parts_found : (u : S) (parts : List Part) (g : Fault) → run_all step u parts ≡ Err g → FaultInParts Inside parts g
  parts_found u [] g e = absurd cc
  parts_found u (p ∷ ps) g e = found_part u p ps g (λ w. parts_found w ps g) (run step u (trace p.base p.bytes)) refl e

  -- parts without a fault, and then one with it, fail
  bad_part : (before : List Part) (u : S) (part : Part) (after : List Part) (g : Fault) → Each PartSound before → FirstFault Inside part.base part.bytes g
      → run_all step u (before ++ part ∷ after) ≡ Err g
  bad_part [] u part after g sound wrong = ap (λ (x : Result S Fault). x >>= λ w. run_all step w after) (part_fault u part g wrong)
  bad_part (p ∷ before) u part after g sound wrong =
      let r = part_sound u p sound.0 in
      ap (λ (x : Result S Fault). x >>= λ w. run_all step w (before ++ part ∷ after)) r.1 ∙ bad_part before r.0 part after g sound.1 wrong

  -- and the first fault of the parts is the Err
  pub parts_bad : (u : S) (parts : List Part) (g : Fault) → FaultInParts Inside parts g → run_all step u parts ≡ Err g
  parts_bad u parts g b = ap (run_all step u) b.is ∙ bad_part b.before u b.part b.after g b.sound b.wrong

  -- ---- values; `value` gives that of fields over a value so far

  -- the value of fields, of which each is taken
  abbrev pub ValueOver : (S → List Field → S) → Type 0
  ValueOver value = ((u : S) → value u [] ≡ u) × ((at end : ℕ) (f : Field) (u v : S) (fs : List Field) → step at end f u ≡ Ok v → value u (f ∷ fs) ≡ value v fs)

  -- fields that were read are no more among the fields to come
  read_over : (value : S → List Field → S) → ValueOver value → (u v : S) (base : ℕ) (b : List ℕ) (fs gs : List Field) → Spells b fs → run step u (trace base b) ≡ Ok v
      → value u (fs ++ gs) ≡ value v gs
  read_over value law u v base b fs gs s e = ap (λ (l : List Field). value u (l ++ gs)) (sym (fields_spelled base b fs s)) ∙ law_over step value law.1 (trace base b) u v gs e

  -- the parts spell fields without a fault, and v is u with them
  abbrev pub PartsRead : (S → List Field → S) → S → List Part → S → Type 0
  PartsRead value u parts v = ReadInParts Inside (λ fs. v ≡ value u fs) parts

  -- parts that are read spell fields without a fault
  pub all_from : (value : S → List Field → S) → ValueOver value → (u v : S) (parts : List Part) → run_all step u parts ≡ Ok v → PartsRead value u parts v
  all_from value law u v [] e = record { fields = []; spelled = refl; sound = tt; value = sym (ok_is u v e) ∙ sym (law.0 u) }
  all_from value law u v (p ∷ ps) e =
      let r = bind_ok (run step u (trace p.base p.bytes)) (λ w. run_all step w ps) v e in
      let here = whole step Inside a.hits a.misses a.steady p.base p.bytes u r.0 r.1 in
      let more = all_from value law r.0 v ps r.2 in
      record {
        fields = here.0 ++ more.fields;
        spelled = (here.0, more.fields, refl, here.1, more.spelled);
        sound = each_append (Sound Inside) here.0 more.fields here.2 more.sound;
        value = more.value ∙ sym (read_over value law u r.0 p.base p.bytes here.0 more.fields here.1 r.1);
      }

  -- and such parts are read
  pub all_to : (value : S → List Field → S) → ValueOver value → (u v : S) (parts : List Part) (fs : List Field) → SpellsEach parts fs → Each (Sound Inside) fs → v ≡ value u fs → run_all step u parts ≡ Ok v
  all_to value law u v [] fs sp sound e = ap (λ (x : S). let r : Result S Fault = Ok x in r) (sym (e ∙ ap (value u) sp ∙ law.0 u))
  all_to value law u v (p ∷ ps) fs sp sound e =
      let both = subst (Each (Sound Inside)) sp.2 sound in
      let r = all_read step Inside a.hits a.misses a.steady sp.0 p.base p.bytes u sp.3 (each_left (Sound Inside) sp.0 sp.1 both) in
      let v_is : v ≡ value r.0 sp.1 = e ∙ ap (value u) sp.2 ∙ read_over value law u r.0 p.base p.bytes sp.0 sp.1 sp.3 r.1 in
      ap (λ (x : Result S Fault). x >>= λ w. run_all step w ps) r.1 ∙ all_to value law r.0 v ps sp.1 sp.4 (each_right (Sound Inside) sp.0 sp.1 both) v_is

-- ---- values in their range

-- parts that are read keep the value in its range
pub parts_keep : {S : Type 0} (step : ℕ → ℕ → Field → S → Result S Fault) (In : S → Type 0) (size : S → ℕ) → StepKeeps step In size → (parts : List Part) (u v : S)
    → Octets (joined parts) → In u → size u + 16 * length (joined parts) < 2 ^ 64 → run_all step u parts ≡ Ok v → Grows In size u (length (joined parts)) v
parts_keep step In size keep [] u v o i room e = subst (λ x. In x × (size x ≤ size u + 16 * 0)) (ok_is u v e) (i, omega arith)
parts_keep step In size keep (p ∷ ps) u v o i room e =
    let r = bind_ok (run step u (trace p.base p.bytes)) (λ w. run_all step w ps) v e in
    let l : length (joined (p ∷ ps)) ≡ length p.bytes + length (joined ps) = length-append p.bytes (joined ps) in
    let g = run_keeps step In size keep p.base p.bytes u r.0 (each_left (λ n. n < 256) p.bytes (joined ps) o) i (omega arith) r.1 in
    let here = g.1 in
    let more = parts_keep step In size keep ps r.0 v (each_right (λ n. n < 256) p.bytes (joined ps) o) g.0 (omega arith) r.2 in
    let there = more.1 in
    (more.0, omega arith)
