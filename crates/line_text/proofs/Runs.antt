-- Texts between quotes, in runs of bytes that stand for themselves.
use Rattle.std.proofs.Common.{◌≡◌, ◌+◌, ◌-◌, ◌<◌, ◌≤◌, ℕ, List, [], ◌∷◌, ◌++◌, length, take, drop, get_or, sym, ap, ◌∙◌, subst, arith, add-one, append_assoc}
use Rattle.std.specs.List.{flat_map}
use Rattle.std.proofs.Math.Seq.{take-suc}
use Rattle.std.proofs.lemmas.Grind.{flat_map-append}
use Rattle.std.proofs.lemmas.List.{take_all, append-nil, drop-take, drop-append-le, length-take-le}
use Rattle.std.proofs.Math.ListN.{drop_of_length-le}
use Rattle.shown.specs.Quoted.{escaped}
use Rattle.line_text.specs.Putting.{ArePuts}
use Rattle.line_text.proofs.Following.{put_as}

-- what is put of the first bytes of a text, if those from a place on stand for themselves
abbrev pub EndsInRun : List ℕ → ℕ → ℕ → Type 0
EndsInRun text run place = flat_map escaped (take place text) ≡ flat_map escaped (take run text) ++ drop run (take place text)

more : (text : List ℕ) (place : ℕ) → place < length text → take (place + 1) text ≡ take place text ++ get_or text place 0 ∷ []
more text place below = ap (λ (n : ℕ). take n text) (add-one place) ∙ take-suc text place 0 below

escaped_more : (text : List ℕ) (place : ℕ) → place < length text → flat_map escaped (take (place + 1) text) ≡ flat_map escaped (take place text) ++ escaped (get_or text place 0)
escaped_more text place below =
    ap (flat_map escaped) (more text place below) ∙ flat_map-append escaped (take place text) (get_or text place 0 ∷ [])
    ∙ ap (λ (l : List ℕ). flat_map escaped (take place text) ++ l) (append-nil (escaped (get_or text place 0)))

-- one more byte that stands for itself
pub run_goes_on : (text : List ℕ) (run place : ℕ) → run ≤ place → place < length text → escaped (get_or text place 0) ≡ get_or text place 0 ∷ []
    → EndsInRun text run place → EndsInRun text run (place + 1)
run_goes_on text run place order below itself ends =
    escaped_more text place below
    ∙ ap (λ (l : List ℕ). l ++ escaped (get_or text place 0)) ends
    ∙ ap (λ (l : List ℕ). (flat_map escaped (take run text) ++ drop run (take place text)) ++ l) itself
    ∙ append_assoc (flat_map escaped (take run text)) (drop run (take place text)) (get_or text place 0 ∷ [])
    ∙ ap (λ (l : List ℕ). flat_map escaped (take run text) ++ l)
    (sym (ap (drop run) (more text place below) ∙ drop-append-le run (take place text) (get_or text place 0 ∷ []) (omega (arith, order, below, length-take-le place text (omega (arith, below))))))

-- a new run begins behind the byte
pub run_begins : (text : List ℕ) (place : ℕ) → place ≤ length text → EndsInRun text place place
run_begins text place within =
    sym (append-nil _) ∙ ap (λ (l : List ℕ). flat_map escaped (take place text) ++ l) (sym (drop_of_length-le (take place text) (omega (arith, length-take-le place text within))))

-- the run is put
pub put_run : {A : Type 0} {a b c : A} (puts : A → List ℕ → A → Type 0) → ArePuts puts → (text : List ℕ) (run place : ℕ) → run ≤ place
    → EndsInRun text run place → puts a (flat_map escaped (take run text)) b → puts b (take (place - run) (drop run text)) c → puts a (flat_map escaped (take place text)) c
put_run {A} {a} {b} {c} puts laws text run place order ends p q =
    put_as puts a c _ _ (ap (λ (l : List ℕ). flat_map escaped (take run text) ++ l) (sym cut) ∙ sym ends) (laws.both a b c _ _ p q)
  where
    cut : drop run (take place text) ≡ take (place - run) (drop run text)
    cut = ap (λ (n : ℕ). drop run (take n text)) (omega (arith, order)) ∙ drop-take run (place - run) text

-- the run is put, and the byte behind it
pub put_run_and_byte : {A : Type 0} {a b c d : A} (puts : A → List ℕ → A → Type 0) → ArePuts puts → (text : List ℕ) (run place : ℕ) → run ≤ place → place < length text
    → EndsInRun text run place → puts a (flat_map escaped (take run text)) b → puts b (take (place - run) (drop run text)) c
    → puts c (escaped (get_or text place 0)) d → puts a (flat_map escaped (take (place + 1) text)) d
put_run_and_byte {A} {a} {b} {c} {d} puts laws text run place order below ends p q r =
    put_as puts a d _ _ (sym (escaped_more text place below)) (laws.both a c d _ _ (put_run puts laws text run place order ends p q) r)

-- the last run is put
pub put_last_run : {A : Type 0} {a b c : A} (puts : A → List ℕ → A → Type 0) → ArePuts puts → (text : List ℕ) (run place : ℕ) → run ≤ place → place ≤ length text → length text ≤ place
    → EndsInRun text run place → puts a (flat_map escaped (take run text)) b → puts b (take (length text - run) (drop run text)) c → puts a (flat_map escaped text) c
put_last_run {A} {a} {b} {c} puts laws text run place order within end ends p q =
    put_as puts a c _ _ (ap (flat_map escaped) (take_all place text end))
    (put_run puts laws text run place order ends p (subst (λ (n : ℕ). puts b (take (n - run) (drop run text)) c) (omega (arith, within, end)) q))
