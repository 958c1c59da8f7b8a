-- Steps over fields, and readers of payloads, that fail exactly with the faults of a relation.
use Rattle.std.proofs.Common.{◌≡◌, ℕ, ◌-◌, Bool, true, false, cond, List, length, Result, Ok, Err, refl, sym, arith, inl, inr, subst}
use Rattle.std.specs.Prelude.{◌⊎◌}
use Rattle.schema.specs.Field.{Field}
use Rattle.schema.specs.Fault.{Fault}
use Rattle.schema.specs.FirstFault.{FirstFault, Sound}
use Rattle.schema.specs.Run.{message, run}
use Rattle.schema_laws.proofs.Results.{map_err, map_at, map_both}
use Rattle.schema_laws.proofs.StepFaults.{Hits, Misses, Steady, fault_found, fault_read, moved, whole}
use Rattle.schema.specs.Decoding.{◌>>=◌, trace}
use Rattle.schema.specs.Each.{Each}
use Rattle.schema.specs.Spelling.{Spells}
use Rattle.schema_laws.proofs.Traces.{fields}

-- a reader of payloads that fails exactly with its faults, at any place alike
pub record PayloadAgrees {A : Type 0} (read : ℕ → ℕ → List ℕ → Result A Fault) (Inside : ℕ → ℕ → List ℕ → Fault → Type 0) : Type 0 where
  pub hits : (at end : ℕ) (b : List ℕ) (g : Fault) → read at end b ≡ Err g → Inside at end b g
  pub misses : (at end : ℕ) (b : List ℕ) (g : Fault) → Inside at end b g → read at end b ≡ Err g
  pub steady : (at end : ℕ) (b : List ℕ) (x : A) → read at end b ≡ Ok x → (c d : ℕ) → read c d b ≡ Ok x

-- and such a step over fields
pub record StepAgrees {S : Type 0} (step : ℕ → ℕ → Field → S → Result S Fault) (Inside : ℕ → ℕ → Field → Fault → Type 0) : Type 0 where
  pub hits : Hits step Inside
  pub misses : Misses step Inside
  pub steady : Steady step

-- a message whose fields are read so is read so itself
pub message_agrees : {S : Type 0} (step : ℕ → ℕ → Field → S → Result S Fault) (Inside : ℕ → ℕ → Field → Fault → Type 0) → StepAgrees step Inside → (u : S)
    → PayloadAgrees (λ at end b. message step end b u) (λ at end b g. FirstFault Inside (end - length b) b g)
message_agrees step Inside a u = record {
  hits = λ at end b g e. fault_found step Inside a.hits a.misses a.steady (end - length b) b u g e;
  misses = λ at end b g e. fault_read step Inside a.hits a.misses a.steady (end - length b) b u g e;
  steady = λ at end b x e c d. moved step Inside a.hits a.misses a.steady (end - length b) (d - length b) b u x e;
}

-- ---- what has no fault

-- what never fails is right
pub ok_from : {A : Type 0} (r : Result A Fault) → ((g : Fault) → r ≡ Err g → ⊥) → (v : A) × (r ≡ Ok v)
ok_from (Ok v) h = (v, refl)
ok_from (Err g) h = absurd (h g refl)

-- the bytes of a payload have no fault, wherever they lie
abbrev pub BytesSound : (ℕ → ℕ → List ℕ → Fault → Type 0) → List ℕ → Type 0
BytesSound Inside b = (at end : ℕ) (h : Fault) → Inside at end b h → ⊥

-- a message without a fault spells the fields that are read, and none has a fault
pub fields_sound : {S : Type 0} (step : ℕ → ℕ → Field → S → Result S Fault) (Inside : ℕ → ℕ → Field → Fault → Type 0) → StepAgrees step Inside → (u : S) (b : List ℕ)
    → BytesSound (λ at end c g. FirstFault Inside (end - length c) c g) b → Spells b (fields (trace 0 b)) × Each (Sound Inside) (fields (trace 0 b))
fields_sound step Inside a u b sound =
    let e : 0 ≡ length b - length b = omega arith in
    let r = ok_from (run step u (trace 0 b)) (λ g q. sound 0 (length b) g (subst (λ (base : ℕ). FirstFault Inside base b g) e (fault_found step Inside a.hits a.misses a.steady 0 b u g q))) in
    let w = whole step Inside a.hits a.misses a.steady 0 b u r.0 r.1 in
    (subst (Spells b) (sym w.3) w.1, subst (Each (Sound Inside)) (sym w.3) w.2)

-- ---- a step after a test

-- what fails after a test passed it
pub test_hits : {A : Type 0} (t : Bool) (P Q : Type 0) (r : Result A Fault) (s : A) (g : Fault) → (t ≡ true → P) → (r ≡ Err g → Q) → cond t r (Ok s) ≡ Err g → P × Q
test_hits true P Q r s g p q e = (p refl, q e)
test_hits false P Q r s g p q e = absurd cc

-- and what passes it and fails then fails
pub test_misses : {A : Type 0} (t : Bool) (P Q : Type 0) (r : Result A Fault) (s : A) (g : Fault) → (t ≡ false → P → ⊥) → (Q → r ≡ Err g) → P × Q → cond t r (Ok s) ≡ Err g
test_misses true P Q r s g p q w = q w.1
test_misses false P Q r s g p q w = absurd (p refl w.0)

-- and what is right depends on no place
pub test_steady : {A : Type 0} (t : Bool) (r q : Result A Fault) (s w : A) → (r ≡ Ok w → q ≡ Ok w) → cond t r (Ok s) ≡ Ok w → cond t q (Ok s) ≡ Ok w
test_steady true r q s w h e = h e
test_steady false r q s w h e = e

-- ---- rows

-- a row that is tried by the test t, and the rows after it
abbrev pub tried : {A B C : Type 0} → Bool → Result A Fault → Result B Fault → (A → C) → (B → C) → Result C Fault
tried t here there h i = cond t (here >>= λ x. Ok (h x)) (there >>= λ x. Ok (i x))

-- a row that fails has the fault, by whether it was tried
pub row_hits : {A B C : Type 0} (t : Bool) (P Q R : Type 0) (here : Result A Fault) (there : Result B Fault) (h : A → C) (i : B → C) (g : Fault)
    → (t ≡ true → P) → (t ≡ false → P → ⊥) → (here ≡ Err g → Q) → (there ≡ Err g → R) → tried t here there h i ≡ Err g → (P × Q) ⊎ ((P → ⊥) × R)
row_hits true P Q R here there h i g same never a b e = inl (same refl, a (map_err here h g e))
row_hits false P Q R here there h i g same never a b e = inr (never refl, b (map_err there i g e))

-- and a row that has the fault fails
pub row_misses : {A B C : Type 0} (t : Bool) (P Q R : Type 0) (here : Result A Fault) (there : Result B Fault) (h : A → C) (i : B → C) (g : Fault)
    → (t ≡ true → P) → (t ≡ false → P → ⊥) → (Q → here ≡ Err g) → (R → there ≡ Err g) → (P × Q) ⊎ ((P → ⊥) × R) → tried t here there h i ≡ Err g
row_misses true P Q R here there h i g same never a b (inl w) = map_at here h g (a w.1)
row_misses true P Q R here there h i g same never a b (inr w) = absurd (w.0 (same refl))
row_misses false P Q R here there h i g same never a b (inl w) = absurd (never refl w.0)
row_misses false P Q R here there h i g same never a b (inr w) = map_at there i g (b w.1)

-- and a row that is taken doesn't depend on the place
pub row_steady : {A B C : Type 0} (t : Bool) (here here2 : Result A Fault) (there there2 : Result B Fault) (h : A → C) (i : B → C) (w : C)
    → ((x : A) → here ≡ Ok x → here2 ≡ Ok x) → ((x : B) → there ≡ Ok x → there2 ≡ Ok x) → tried t here there h i ≡ Ok w → tried t here2 there2 h i ≡ Ok w
row_steady true here here2 there there2 h i w a b e = map_both here here2 h w a e
row_steady false here here2 there there2 h i w a b e = map_both there there2 i w b e
