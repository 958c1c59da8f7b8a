-- Texts that a step takes, whatever follows them.
use Rattle.std.proofs.Common.{◌≡◌, ℕ, ◌+◌, ◌-◌, ◌^◌, ◌<◌, true, false, List, [], ◌∷◌, ◌++◌, length, Result, Ok, Err, refl, sym, ap, ◌∙◌, arith, append_assoc, length-append, inl, inr}
use Rattle.std.specs.Prelude.{◌==◌}
use Rattle.std.specs.List.{flat_map}
use Rattle.std.specs.Str.{is_utf8}
use Rattle.std.proofs.lemmas.Bool.{cases_eq, eq-eqb, ne_eqb, cond-true}
use Rattle.std.proofs.lemmas.List.{append-nil, nil_from_length}
use Rattle.schema.specs.Field.{Long, Field}
use Rattle.schema.specs.Fault.{NotUtf8, Fault, fault_at}
use Rattle.schema.specs.Decoding.{◌>>=◌, field_at, trace}
use Rattle.schema.specs.Run.{run, text_of}
use Rattle.schema.specs.Texts.{long_field, bytes_field}
use Rattle.schema.specs.Each.{Each}
use Rattle.schema_laws.proofs.Onto.{long_some}
use Rattle.schema_laws.proofs.Traces.{run_field, run_end}
use Rattle.schema_laws.proofs.Front.{long_again}

-- a step over fields: where the tag begins, where the payload ends, and the field
abbrev pub Step : Type 0 → Type 0
Step S = ℕ → ℕ → Field → S → Result S Fault

-- the step takes the text from s to t, whatever follows it
abbrev pub Passes : {S : Type 0} → Step S → S → S → ℕ → List ℕ → List ℕ → Type 0
Passes step s t base x text = run step s (trace base (x ++ text)) ≡ run step t (trace (base + length x) text)

-- the step takes a text of one field
pub one_field : {S : Type 0} (step : Step S) (s t : S) (base : ℕ) (x text : List ℕ) (f : Field)
    → 0 < length x → field_at (x ++ text) ≡ Ok (f, text) → ((end : ℕ) → end ≡ base + length x → step base end f s ≡ Ok t) → Passes step s t base x text
one_field {S = S} step s t base x text f some e h =
    let l : base + (length (x ++ text) - length text) ≡ base + length x = omega (arith, length-append x text) in
    run_field step s base (x ++ text) f text (omega (arith, length-append x text)) e
    ∙ ap (λ (m : ℕ). step base m f s >>= λ t. run step t (trace m text)) l
    ∙ ap (λ (r : Result S Fault). r >>= λ t. run step t (trace (base + length x) text)) (h (base + length x) refl)

-- the step takes an empty text
pub no_field : {S : Type 0} (step : Step S) (s t : S) (base : ℕ) (x text : List ℕ) → x ≡ [] → s ≡ t → Passes step s t base x text
no_field {S = S} step s t base x text e h =
    let z : base ≡ base + length x = omega (arith, ap length e) in
    ap (λ (y : List ℕ). run step s (trace base (y ++ text))) e ∙ ap (λ (u : S). run step u (trace base text)) h ∙ ap (λ (m : ℕ). run step t (trace m text)) z

-- two texts, one after the other
pub both_pass : {S : Type 0} (step : Step S) (s t u : S) (base : ℕ) (x y text : List ℕ)
    → Passes step s t base x (y ++ text) → Passes step t u (base + length x) y text → Passes step s u base (x ++ y) text
both_pass step s t u base x y text a b =
    ap (λ (z : List ℕ). run step s (trace base z)) (append_assoc x y text) ∙ a ∙ b
    ∙ ap (λ (p : ℕ). run step u (trace p text)) (omega (arith, length-append x y))

-- bytes after a tag and a length, which are left out where they are empty
pub bytes_row : {S : Type 0} (step : Step S) (s t : S) (base n : ℕ) (b text : List ℕ) → 0 < n → n < 2 ^ 29 → length b < 2 ^ 64 → (b ≡ [] → s ≡ t)
    → ((end : ℕ) → step base end (record { number = n; payload = Long b }) s ≡ Ok t) → Passes step s t base (bytes_field n b) text
unfolding bytes_field
bytes_row step s t base n b text some few fits zero_case h = elim (cases_eq (length b) 0) [
  | inl e ↦ let q : (length b == 0) ≡ true = eq-eqb _ _ e in no_field step s t base (bytes_field n b) text (rw q refl) (zero_case (nil_from_length b e))
  | inr ne ↦
      let q : (length b == 0) ≡ false = ne_eqb _ _ ne in
      let x : bytes_field n b ≡ long_field n b = rw q refl in
      let l : 0 < length (bytes_field n b) = omega (arith, ap length x, long_some n b) in
      one_field step s t base (bytes_field n b) text (record { number = n; payload = Long b }) l (ap (λ (y : List ℕ). field_at (y ++ text)) x ∙ long_again n b text some few fits) (λ end _. h end)
]

-- elements that are each after a tag and a length
pub items_row : {A S : Type 0} (step : Step S) (inject : List A → S) (text_of : A → List ℕ) (n : ℕ) (P : A → Type 0) → 0 < n → n < 2 ^ 29
    → ((x : A) → P x → length (text_of x) < 2 ^ 64)
    → ((x : A) → P x → (at end : ℕ) (vs : List A) → step at end (record { number = n; payload = Long (text_of x) }) (inject vs) ≡ Ok (inject (vs ++ x ∷ [])))
    → (pre xs : List A) → Each P xs → (base : ℕ) (text : List ℕ) → Passes step (inject pre) (inject (pre ++ xs)) base (flat_map (λ x. long_field n (text_of x)) xs) text
items_row step inject text_of n P some few small takes pre [] fits base text = no_field step (inject pre) (inject (pre ++ [])) base [] text refl (ap inject (sym (append-nil pre)))
items_row {A = A} step inject text_of n P some few small takes pre (x ∷ xs) fits base text =
    let first = long_field n (text_of x) in
    let second = flat_map (λ (x : A). long_field n (text_of x)) xs in
    ap (λ (z : List ℕ). run step (inject pre) (trace base z)) (append_assoc first second text)
    ∙ one_field step (inject pre) (inject (pre ++ x ∷ [])) base first (second ++ text) (record { number = n; payload = Long (text_of x) }) (long_some n (text_of x)) (long_again n (text_of x) (second ++ text) some few (small x fits.0))
    (λ end _. takes x fits.0 base end pre)
    ∙ items_row step inject text_of n P some few small takes (pre ++ x ∷ []) xs fits.1 (base + length first) text
    ∙ ap (λ (ys : List A). run step (inject ys) (trace (base + length first + length second) text)) (append_assoc pre (x ∷ []) xs)
    ∙ ap (λ (p : ℕ). run step (inject (pre ++ x ∷ xs)) (trace p text)) (omega (arith, length-append first second))

-- a text that is UTF-8 is read
pub text_again : (at : ℕ) (b : List ℕ) → is_utf8 b ≡ true → text_of at b ≡ Ok b
text_again at b e = cond-true (is_utf8 b) (Ok b) (Err (fault_at at NotUtf8)) e

-- a text that the step takes, with nothing after it
pub alone : {S : Type 0} (step : Step S) (s t : S) (base : ℕ) (x : List ℕ) → Passes step s t base x [] → run step s (trace base x) ≡ Ok t
alone step s t base x p = ap (λ (y : List ℕ). run step s (trace base y)) (sym (append-nil x)) ∙ p ∙ run_end step t (base + length x) [] refl

-- a text of one field
pub one_alone : {S : Type 0} (step : Step S) (s t : S) (base : ℕ) (x : List ℕ) (f : Field) → 0 < length x → field_at (x ++ []) ≡ Ok (f, []) → ((end : ℕ) → step base end f s ≡ Ok t)
    → run step s (trace base x) ≡ Ok t
one_alone step s t base x f some e h = alone step s t base x (one_field step s t base x [] f some e (λ end _. h end))
