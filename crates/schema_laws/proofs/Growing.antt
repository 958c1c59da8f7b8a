-- Values that stay in their range, and grow by no more than sixteen times the bytes that are read.
use Rattle.std.proofs.Common.{◌≡◌, ℕ, zero, suc, ◌+◌, ◌*◌, ◌^◌, ◌<◌, ◌≤◌, Bool, true, false, cond, List, [], ◌++◌, length, Result, Ok, refl, sym, ap, subst, ◌∙◌, arith, length-append}
use Rattle.std.specs.Str.{is_utf8}
use Rattle.schema.specs.Field.{Field, Long, Payload, greatest_number}
use Rattle.schema.specs.Fault.{Fault, NotUtf8, fault_at}
use Rattle.schema.specs.Decoding.{trace, ◌>>=◌}
use Rattle.schema.specs.Merge.{one_bytes}
use Rattle.schema.specs.Run.{one_text, run}
use Rattle.schema.specs.Texts.{bytes_field, long_field}
use Rattle.schema_laws.proofs.Results.{ok_is, bind_ok, checked_ok}
use Rattle.schema_laws.proofs.Traces.{trace_end}
use Rattle.schema_laws.proofs.FieldLists.{Start, begins}
use Rattle.schema_laws.proofs.Lists.{Octets, each_left, each_right}
use Rattle.schema_laws.proofs.Ranges.{FieldInRange, field_cost, field_in_range}
use Rattle.schema_laws.proofs.Lengths.{long_field_len, bytes_field_len, bytes_field_le}

-- ---- values in their range; `In` says which are, and `size` how long they are

-- v is in its range, and no more longer than u than so many bytes may make it
abbrev pub Grows : {A : Type 0} → (A → Type 0) → (A → ℕ) → A → ℕ → A → Type 0
Grows In size u cost v = In v × (size v ≤ size u + 16 * cost)

-- a value that stays does not grow
pub stays : {A : Type 0} (In : A → Type 0) (size : A → ℕ) (u v : A) (cost : ℕ) → u ≡ v → In u → Grows In size u cost v
stays {A} In size u v cost e i = subst (λ (y : A). Grows In size u cost y) e (i, omega arith)

-- a value that becomes another in its range
pub becomes : {A : Type 0} (In : A → Type 0) (size : A → ℕ) (u x v : A) (cost : ℕ) → x ≡ v → In x → size x ≤ size u + 16 * cost → Grows In size u cost v
becomes {A} In size u x v cost e i le = subst (λ (y : A). Grows In size u cost y) e (i, le)

-- a step over fields that keeps the value in its range
abbrev pub StepKeeps : {S : Type 0} → (ℕ → ℕ → Field → S → Result S Fault) → (S → Type 0) → (S → ℕ) → Type 0
StepKeeps {S = S} step In size = (at end : ℕ) (f : Field) (u v : S) → FieldInRange f → In u → size u + 16 * field_cost f.payload < 2 ^ 64
    → step at end f u ≡ Ok v → Grows In size u (field_cost f.payload) v

-- ---- a message

module _ {S : Type 0} (step : ℕ → ℕ → Field → S → Result S Fault) (In : S → Type 0) (measure : S → ℕ) (keep : StepKeeps step In measure) where
  -- fields that are read keep the value in its range, by the first one
  keeps_step : (base : ℕ) (bytes : List ℕ) (u v : S) → Start base bytes
      → ((b : ℕ) (rest : List ℕ) (w : S) → length rest < length bytes → Octets rest → In w → measure w + 16 * length rest < 2 ^ 64 → run step w (trace b rest) ≡ Ok v → Grows In measure w (length rest) v)
      → Octets bytes → In u → measure u + 16 * length bytes < 2 ^ 64 → run step u (trace base bytes) ≡ Ok v → Grows In measure u (length bytes) v
  unfolding run
  keeps_step base bytes u v (Start.over n) ih o i room e =
      stays In measure u v (length bytes) (ok_is u v (ap (run step u) (sym (trace_end base bytes (ap length n))) ∙ e)) i
  keeps_step base bytes u v (Start.bad r b q) ih o i room e = let d = ap (run step u) (sym q) ∙ e in absurd cc
  keeps_step base bytes u v (Start.met_one one rest f is sp lt q) ih o i room e =
      let x = bind_ok (step base (base + length one) f u) (λ w. run step w (trace (base + length one) rest)) v (ap (run step u) (sym q) ∙ e) in
      let both = subst Octets is o in
      let r = field_in_range one f sp (each_left (λ n. n < 256) one rest both) in
      let l : length bytes ≡ length one + length rest = ap length is ∙ length-append one rest in
      let small = r.1 in
      let g = keep base (base + length one) f u x.0 r.0 i (omega arith) x.1 in
      let here = g.1 in
      let more = ih (base + length one) rest x.0 lt (each_right (λ n. n < 256) one rest both) g.0 (omega arith) x.2 in
      let there = more.1 in
      (more.0, omega arith)

  -- for texts up to a length
  keeps_upto : (k base : ℕ) (bytes : List ℕ) (u v : S) → length bytes < k → Octets bytes → In u → measure u + 16 * length bytes < 2 ^ 64
      → run step u (trace base bytes) ≡ Ok v → Grows In measure u (length bytes) v
  keeps_upto zero base bytes u v lt o i room e = absurd (omega arith)
  keeps_upto (suc k) base bytes u v lt o i room e =
      keeps_step base bytes u v (begins base bytes) (λ b rest w less oct inr room e. keeps_upto k b rest w v (omega arith) oct inr room e) o i room e

  -- bytes that are read keep the value in its range
  pub run_keeps : (base : ℕ) (bytes : List ℕ) (u v : S) → Octets bytes → In u → measure u + 16 * length bytes < 2 ^ 64
      → run step u (trace base bytes) ≡ Ok v → Grows In measure u (length bytes) v
  run_keeps base bytes u v o i room e = keeps_upto (suc (length bytes)) base bytes u v (omega arith) o i room e

-- ---- fields

-- bytes in place of others
bytes_grow : (n : ℕ) → n ≤ greatest_number → (a b : List ℕ) → length (bytes_field n a) + 16 * (length b + 2) < 2 ^ 64 → length (bytes_field n b) ≤ length (bytes_field n a) + 16 * (length b + 2)
bytes_grow n le a b room = let l = bytes_field_len n b le (omega arith) in omega arith

-- singular bytes
pub bytes_keep : (In : List ℕ → Type 0) (n : ℕ) → n ≤ greatest_number → (p : Payload) (u v : List ℕ) → In u → length (bytes_field n u) + 16 * field_cost p < 2 ^ 64
    → one_bytes p u ≡ v → In v → Grows In (λ x. length (bytes_field n x)) u (field_cost p) v
bytes_keep In n le (Long b) u v i room e j = becomes In (λ x. length (bytes_field n x)) u b v (length b + 2) e (subst In (sym e) j) (bytes_grow n le u b room)
bytes_keep In n le p u v i room e j = stays In (λ x. length (bytes_field n x)) u v (field_cost p) e i

-- a singular text
pub text_keeps : (n : ℕ) → n ≤ greatest_number → (at : ℕ) (p : Payload) (u v : List ℕ) → is_utf8 u ≡ true → length (bytes_field n u) + 16 * field_cost p < 2 ^ 64
    → one_text at p u ≡ Ok v → Grows (λ x. is_utf8 x ≡ true) (λ x. length (bytes_field n x)) u (field_cost p) v
text_keeps n le at (Long b) u v i room e =
    let t = checked_ok (is_utf8 b) b v (fault_at at NotUtf8) e in
    bytes_keep (λ x. is_utf8 x ≡ true) n le (Long b) u v i room t.1 (ap is_utf8 (sym t.1) ∙ t.0)
text_keeps n le at p u v i room e = stays (λ x. is_utf8 x ≡ true) (λ x. length (bytes_field n x)) u v (field_cost p) (ok_is u v e) i

-- a message, or an AnyValue, that grows in place
pub message_grows : (n : ℕ) → n ≤ greatest_number → (a c : List ℕ) (more : ℕ) → length (bytes_field n a) + 16 * (more + 2) < 2 ^ 64 → length c ≤ length a + 16 * more
    → length (bytes_field n c) ≤ length (bytes_field n a) + 16 * (more + 2)
message_grows n le a c more room h = let g = bytes_field_le n a in let l = bytes_field_len n c le (omega arith) in omega arith

-- one more element after a tag and a length
pub item_grows : (n : ℕ) → n ≤ greatest_number → (a b c : List ℕ) (cost : ℕ) → c ≡ a ++ (long_field n b ++ []) → 20 + length b ≤ 16 * cost → 16 * cost < 2 ^ 64
    → length c ≤ length a + 16 * cost
item_grows n le a b c cost e short room =
    let l = long_field_len n b le (omega arith) in
    omega (arith, ap length e, length-append a (long_field n b ++ []), length-append (long_field n b) [])

-- ---- rows

-- where the row grows and the rows after it stay, both grow so
row_first : {A B : Type 0} (In : A → Type 0) (RestIn : B → Type 0) (text : A → List ℕ) (more : B → List ℕ) (u : A) (cost : ℕ) (v : A) (b : B) → Grows In (λ x. length (text x)) u cost v → RestIn b
    → In v × RestIn b × (length (text v ++ more b) ≤ length (text u ++ more b) + 16 * cost)
row_first In RestIn text more u cost v b g j = let h = g.1 in (g.0, j, omega (arith, length-append (text v) (more b), length-append (text u) (more b)))

-- and where the rows after it grow
row_rest : {A B : Type 0} (In : A → Type 0) (RestIn : B → Type 0) (text : A → List ℕ) (more : B → List ℕ) (a : A) (u : B) (cost : ℕ) (v : B) → Grows RestIn (λ x. length (more x)) u cost v → In a
    → In a × RestIn v × (length (text a ++ more v) ≤ length (text a ++ more u) + 16 * cost)
row_rest In RestIn text more a u cost v g j = let h = g.1 in (j, g.0, omega (arith, length-append (text a) (more v), length-append (text a) (more u)))

-- a row, and the rows after it
pub row_keeps : {A B : Type 0} (In : A → Type 0) (RestIn : B → Type 0) (text : A → List ℕ) (more : B → List ℕ) (t : Bool) (here : Result A Fault) (there : Result B Fault) (a : A) (b : B) (cost : ℕ) (v : A × B)
    → In a → RestIn b → length (text a ++ more b) + 16 * cost < 2 ^ 64
    → (t ≡ true → (x : A) → length (text a) + 16 * cost < 2 ^ 64 → here ≡ Ok x → Grows In (λ x. length (text x)) a cost x)
    → ((y : B) → length (more b) + 16 * cost < 2 ^ 64 → there ≡ Ok y → Grows RestIn (λ x. length (more x)) b cost y)
    → cond t (here >>= λ x. Ok (x, b)) (there >>= λ y. Ok (a, y)) ≡ Ok v
    → In v.0 × RestIn v.1 × (length (text v.0 ++ more v.1) ≤ length (text a ++ more b) + 16 * cost)
row_keeps {A} {B} In RestIn text more true here there a b cost v i j room h g e =
    let x = bind_ok here (λ (x : A). let w : A × B = (x, b) in Ok w) v e in
    let p : (let w : A × B = (x.0, b) in w ≡ v) = ok_is (x.0, b) v x.2 in
    let r = row_first In RestIn text more a cost x.0 b (h refl x.0 (omega (arith, length-append (text a) (more b))) x.1) j in
    subst (λ (w : A × B). In w.0 × RestIn w.1 × (length (text w.0 ++ more w.1) ≤ length (text a ++ more b) + 16 * cost)) p r
row_keeps {A} {B} In RestIn text more false here there a b cost v i j room h g e =
    let y = bind_ok there (λ (y : B). let w : A × B = (a, y) in Ok w) v e in
    let p : (let w : A × B = (a, y.0) in w ≡ v) = ok_is (a, y.0) v y.2 in
    let r = row_rest In RestIn text more a b cost y.0 (g y.0 (omega (arith, length-append (text a) (more b))) y.1) i in
    subst (λ (w : A × B). In w.0 × RestIn w.1 × (length (text w.0 ++ more w.1) ≤ length (text a ++ more b) + 16 * cost)) p r
