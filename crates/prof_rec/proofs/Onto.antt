-- A message that is read over the lists of another: its elements come after theirs.
use Rattle.std.proofs.Common.{◌≡◌, ℕ, List, [], ◌∷◌, ◌++◌, length, Bool, true, false, cond, Result, Ok, Err, refl, sym, ap, ◌∙◌, append_assoc}
use Rattle.std.specs.Prelude.{◌%◌, ◌==◌}
use Rattle.std.specs.Int.{w64, from_le_bytes}
use Rattle.schema.specs.Fault.{PackedLength, Fault, fault_at}
use Rattle.schema.specs.Field.{Payload, Varint, Eight, Long, Four, Field}
use Rattle.schema.specs.Merge.{at_place, more_fixed, more_numbers, more_packed, more_packed_fixed, packed, packed_fixed, take_field, take_many, take_one, merge}
use Rattle.schema.specs.Messages.{sample}
use Rattle.schema.specs.Run.{run}
use Rattle.schema.specs.Shape.{Shape, Value, Format, NumberValue, Number, Index, Fixed, One, Many, I32, I64, number_from}
use Rattle.schema.specs.Decoding.{◌>>=◌, Trace, Done, Bad, Met, trace}
use Rattle.prof_rec.specs.Onto.{onto}

-- ---- the elements of one payload

-- where numbers may be bad
behind : {A : Type 0} (r : Result (List A) Fault) (p vs : List A) → (r >>= λ ns. Ok ((p ++ vs) ++ ns)) ≡ ((r >>= λ ns. Ok (vs ++ ns)) >>= λ w. Ok (p ++ w))
behind {A} (Ok ns) p vs = ap (λ (t : List A). Ok t) (append_assoc p vs ns)
behind (Err e) p vs = refl

numbers_behind : (w : Format) (at : ℕ) (payload : Payload) (p vs : List (NumberValue w)) → more_numbers w at payload (p ++ vs) ≡ (more_numbers w at payload vs >>= λ x. Ok (p ++ x))
numbers_behind w at (Varint n) p vs = ap (λ (t : List (NumberValue w)). Ok t) (append_assoc p vs (number_from w n ∷ []))
numbers_behind w at (Long b) p vs = behind (at_place at (packed w b)) p vs
numbers_behind w at (Eight b) p vs = refl
numbers_behind w at (Four b) p vs = refl

checked_behind : (t : Bool) (e : Fault) (p vs ns : List ℕ) → cond t (let r : Result (List ℕ) Fault = Ok ((p ++ vs) ++ ns) in r) (Err e) ≡ (cond t (let r : Result (List ℕ) Fault = Ok (vs ++ ns) in r) (Err e) >>= λ x. Ok (p ++ x))
checked_behind true e p vs ns = ap (λ (t : List ℕ). Ok t) (append_assoc p vs ns)
checked_behind false e p vs ns = refl

fixed_behind : (at : ℕ) (payload : Payload) (p vs : List ℕ) → more_fixed at payload (p ++ vs) ≡ (more_fixed at payload vs >>= λ x. Ok (p ++ x))
fixed_behind at (Eight b) p vs = ap (λ (t : List ℕ). Ok t) (append_assoc p vs (from_le_bytes w64 b ∷ []))
fixed_behind at (Long b) p vs = checked_behind (length b % 8 == 0) (fault_at at PackedLength) p vs (packed_fixed b)
fixed_behind at (Varint n) p vs = refl
fixed_behind at (Four b) p vs = refl

-- ---- one field

-- the elements of a repeated row come after those that there are
abbrev pub ComesBehind : Shape → Type 0
ComesBehind k = (at end : ℕ) (payload : Payload) (p vs : List (Value k)) → take_many k (take_field k) at end payload (p ++ vs) ≡ (take_many k (take_field k) at end payload vs >>= λ x. Ok (p ++ x))

-- each repeated row of a message is such a one
abbrev pub AllBehind : Shape → Type 0
AllBehind (One n k rest) = AllBehind rest
AllBehind (Many n k rest) = ComesBehind k × AllBehind rest
AllBehind s = Unit {0}

-- a row, beside the rows after it
abbrev both : {A B : Type 0} → A → B → A × B
both a b = (a, b)

abbrev with_right : {A B : Type 0} → Result A Fault → B → Result (A × B) Fault
with_right r y = r >>= λ a. Ok (both a y)

abbrev with_left : {A B : Type 0} → A → Result B Fault → Result (A × B) Fault
with_left x q = q >>= λ b. Ok (both x b)

-- a singular row, or those after it
one_row : {A B : Type 0} (t : Bool) (r : Result A Fault) (q : Result B Fault) (x : A) (y : B) (h : B → B)
    → cond t (with_right r (h y)) (with_left x (q >>= λ b. Ok (h b))) ≡ (cond t (with_right r y) (with_left x q) >>= λ w. Ok (both w.0 (h w.1)))
one_row true (Ok a) q x y h = refl
one_row true (Err e) q x y h = refl
one_row false r (Ok b) x y h = refl
one_row false r (Err e) x y h = refl

-- a repeated row, or those after it
many_row : {A B : Type 0} (t : Bool) (r : Result A Fault) (q : Result B Fault) (x : A) (y : B) (f : A → A) (h : B → B)
    → cond t (with_right (r >>= λ a. Ok (f a)) (h y)) (with_left (f x) (q >>= λ b. Ok (h b))) ≡ (cond t (with_right r y) (with_left x q) >>= λ w. Ok (both (f w.0) (h w.1)))
many_row true (Ok a) q x y f h = refl
many_row true (Err e) q x y f h = refl
many_row false r (Ok b) x y f h = refl
many_row false r (Err e) x y f h = refl

field_behind : (s : Shape) (at end : ℕ) (f : Field) (p v : Value s) → AllBehind s → take_field s at end f (onto s p v) ≡ (take_field s at end f v >>= λ w. Ok (onto s p w))
field_behind (One n k rest) at end f p v h =
    ap (λ (q : Result (Value rest) Fault). cond (f.number == n) (with_right (take_one k (take_field k) at end f.payload v.0) (onto rest p.1 v.1)) (with_left v.0 q)) (field_behind rest at end f p.1 v.1 h)
    ∙ one_row (f.number == n) (take_one k (take_field k) at end f.payload v.0) (take_field rest at end f v.1) v.0 v.1 (onto rest p.1)
field_behind (Many n k rest) at end f p v h =
    ap (λ (q : Result (Value rest) Fault). cond (f.number == n) (with_right (take_many k (take_field k) at end f.payload (p.0 ++ v.0)) (onto rest p.1 v.1)) (with_left (p.0 ++ v.0) q)) (field_behind rest at end f p.1 v.1 h.1)
    ∙ ap (λ (r : Result (List (Value k)) Fault). cond (f.number == n) (with_right r (onto rest p.1 v.1)) (with_left (p.0 ++ v.0) (take_field rest at end f v.1 >>= λ b. Ok (onto rest p.1 b)))) (h.0 at end f.payload p.0 v.0)
    ∙ many_row (f.number == n) (take_many k (take_field k) at end f.payload v.0) (take_field rest at end f v.1) v.0 v.1 (λ a. p.0 ++ a) (onto rest p.1)
field_behind s at end f p v h = refl

-- ---- all fields

-- a step that failed, and one that went well
after_step : {S : Type 0} (r : Result S Fault) (g : S → S) (next : S → Result S Fault) → ((w : S) → next (g w) ≡ (next w >>= λ x. Ok (g x)))
    → ((r >>= λ w. Ok (g w)) >>= next) ≡ ((r >>= next) >>= λ x. Ok (g x))
after_step (Ok w) g next h = h w
after_step (Err e) g next h = refl

run_behind : (s : Shape) (p v : Value s) (t : Trace) → AllBehind s → run (take_field s) (onto s p v) t ≡ (run (take_field s) v t >>= λ w. Ok (onto s p w))
unfolding run
run_behind s p v Done h = refl
run_behind s p v (Bad at reason) h = refl
run_behind s p v (Met at end f rest) h =
    ap (λ (r : Result (Value s) Fault). r >>= λ w. run (take_field s) w rest) (field_behind s at end f p v h)
    ∙ after_step (take_field s at end f v) (onto s p) (λ w. run (take_field s) w rest) (λ w. run_behind s p w rest h)

-- ---- samples

-- its rows are numbers, so what is read over a sample is read after its lists
pub sample_behind : (p v : Value sample) (base : ℕ) (bytes : List ℕ) → merge sample (onto sample p v) base bytes ≡ (merge sample v base bytes >>= λ w. Ok (onto sample p w))
sample_behind p v base bytes =
    run_behind sample p v (trace base bytes)
    (λ at end. numbers_behind I64 at, (λ at end. numbers_behind I32 at, (λ at end. fixed_behind at, tt)))
