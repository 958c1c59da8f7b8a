-- What is spelled is read again.
use Rattle.std.proofs.Common.{◌≡◌, ℕ, ◌+◌, ◌*◌, ◌-◌, ◌%◌, ◌^◌, ◌<◌, true, false, cond, List, [], ◌∷◌, ◌++◌, length, map, Result, Ok, Err, refl, sym, ap, ◌∙◌, arith, length-append, inl, inr}
use Rattle.std.specs.Prelude.{◌==◌}
use Rattle.std.specs.Int.{w64, to_le_bytes}
use Rattle.std.specs.List.{flat_map}
use Rattle.std.proofs.lemmas.Bool.{cases_eq, eq-eqb, ne_eqb, cond-true}
use Rattle.std.proofs.lemmas.List.{append-nil}
use Rattle.std.proofs.lemmas.List.Folds.{flat_map-map}
use Rattle.std.proofs.lemmas.Nat.{from_le_bytes-to_le_bytes_8}
use Rattle.schema.specs.Field.{Payload, Varint, Eight, Long, Field}
use Rattle.schema.specs.Fault.{Reason, PackedLength, Fault, fault_at}
use Rattle.schema.specs.Decoding.{◌>>=◌, field_at, trace}
use Rattle.schema.specs.Shape.{Shape, Number, Fixed, Bytes, Text, Any, Index, End, One, Many, Format, U32, U64, I32, I64, Flag, NumberValue, Value, IsMessage, empty, number_from, number_zero}
use Rattle.schema.specs.Run.{run}
use Rattle.schema.specs.Merge.{merge, take_one, take_many, more_packed, more_fixed, packed, packed_fixed, at_place, take_field}
use Rattle.schema.specs.Texts.{varint, number_to, number_field, fixed_field, long_field, bytes_field, items_text, numbers_text, fixed_text, FitsNumber}
use Rattle.schema.specs.Spell.{spell, spell_one, spell_many}
use Rattle.schema.specs.Each.{Each}
use Rattle.schema.specs.Fits.{HasRow, Lawful, FitsTogether, Fits}
use Rattle.schema_laws.proofs.Results.{ok_is, map_same, map_map}
use Rattle.schema_laws.proofs.Onto.{varint_some}
use Rattle.schema_laws.proofs.Traces.{run_end}
use Rattle.schema_laws.proofs.Rows.{take_one_message, take_many_message, packed_by, packed_is, packed_nothing, fixed_nothing}
use Rattle.schema_laws.proofs.Front.{varint_again, number_again, eight_again}
use Rattle.schema_laws.proofs.FixedNumbers.{eight_len, fixed_whole, fixed_again}
use Rattle.schema_laws.proofs.Passing.{Step, Passes, one_field, no_field, both_pass, bytes_row, items_row, text_again}
use Rattle.schema.specs.AnyValue.{AnyValue}
use Rattle.schema.specs.AnyMerge.{any_levels, merge_any}
use Rattle.schema.specs.AnySpell.{AnyInRange, FitsAny, any_text}
use Rattle.schema_laws.proofs.AnyReadingBack.{again_in, any_again, any_row}

-- ---- singular rows

-- a singular number, which is left out where it is 0
number_row : {S : Type 0} (step : Step S) (s t : S) (base n v : ℕ) (text : List ℕ) → 0 < n → n < 2 ^ 29 → v < 2 ^ 64 → (v ≡ 0 → s ≡ t)
    → ((end : ℕ) → step base end (record { number = n; payload = Varint v }) s ≡ Ok t) → Passes step s t base (number_field n v) text
unfolding number_field
number_row step s t base n v text some few fits zero_case h = elim (cases_eq v 0) [
  | inl e ↦ let b : (v == 0) ≡ true = eq-eqb _ _ e in no_field step s t base (number_field n v) text (rw b refl) (zero_case e)
  | inr ne ↦
      let b : (v == 0) ≡ false = ne_eqb _ _ ne in
      let x : number_field n v ≡ varint (n * 8) ++ varint v = rw b refl in
      let l : 0 < length (number_field n v) = omega (arith, ap length x, length-append (varint (n * 8)) (varint v), varint_some v) in
      one_field step s t base (number_field n v) text (record { number = n; payload = Varint v }) l (ap (λ (y : List ℕ). field_at (y ++ text)) x ∙ number_again n v text some few fits) (λ end _. h end)
]

-- a value that is not 0 is written
fixed_is : (n v : ℕ) → (v ≡ 0 → ⊥) → fixed_field n v ≡ varint (n * 8 + 1) ++ to_le_bytes w64 v
unfolding fixed_field
fixed_is n v ne = let b : (v == 0) ≡ false = ne_eqb _ _ ne in rw b refl

-- and 0 is left out
fixed_none : (n v : ℕ) → v ≡ 0 → fixed_field n v ≡ []
unfolding fixed_field
fixed_none n v e = let b : (v == 0) ≡ true = eq-eqb _ _ e in rw b refl

-- the step takes a text of eight bytes after a tag
pub eight_pass : {S : Type 0} (step : Step S) (s t : S) (base n : ℕ) (b text x : List ℕ) → 0 < n → n < 2 ^ 29 → length b ≡ 8 → x ≡ varint (n * 8 + 1) ++ b
    → ((end : ℕ) → step base end (record { number = n; payload = Eight b }) s ≡ Ok t) → Passes step s t base x text
eight_pass step s t base n b text x some few len e h =
    let l : 0 < length x = omega (arith, ap length e, length-append (varint (n * 8 + 1)) b, varint_some (n * 8 + 1)) in
    one_field step s t base x text (record { number = n; payload = Eight b }) l (ap (λ (y : List ℕ). field_at (y ++ text)) e ∙ eight_again n b text some few len) (λ end _. h end)

-- a singular eight-byte value
fixed_row : {S : Type 0} (step : Step S) (s t : S) (base n v : ℕ) (text : List ℕ) → 0 < n → n < 2 ^ 29 → (v ≡ 0 → s ≡ t)
    → ((end : ℕ) → step base end (record { number = n; payload = Eight (to_le_bytes w64 v) }) s ≡ Ok t) → Passes step s t base (fixed_field n v) text
fixed_row step s t base n v text some few zero_case h = elim (cases_eq v 0) [
  | inl e ↦ no_field step s t base (fixed_field n v) text (fixed_none n v e) (zero_case e)
  | inr ne ↦ eight_pass step s t base n (to_le_bytes w64 v) text (fixed_field n v) some few (eight_len v) (fixed_is n v ne) h
]

-- the number of 0 is the default
from_zero : (w : Format) → number_from w 0 ≡ number_zero w
from_zero U32 = refl
from_zero U64 = refl
from_zero I32 = refl
from_zero I64 = refl
from_zero Flag = refl

-- a singular number of a format
scalar_row : (w : Format) {S : Type 0} (step : Step S) (inject : NumberValue w → S) (base n : ℕ) (x : NumberValue w) (text : List ℕ) → 0 < n → n < 2 ^ 29 → FitsNumber w x
    → ((end : ℕ) → step base end (record { number = n; payload = Varint (number_to w x) }) (inject (number_zero w)) ≡ Ok (inject (number_from w (number_to w x))))
    → Passes step (inject (number_zero w)) (inject x) base (number_field n (number_to w x)) text
scalar_row w step inject base n x text some few fits link =
    number_row step (inject (number_zero w)) (inject x) base n (number_to w x) text some few fits.0
    (λ e. ap inject (sym (from_zero w) ∙ ap (number_from w) (sym e) ∙ fits.1))
    (λ end. link end ∙ ap (λ (y : NumberValue w). Ok (inject y)) fits.1)

-- the message k is read again
abbrev ReadAgain : Shape → Type 0
ReadAgain k = (x : Value k) → Fits k x → (base : ℕ) → merge k (empty k) base (spell k x) ≡ Ok x

-- the step at a field of this number takes a payload of the singular row
abbrev TakesOne : {S : Type 0} → (k : Shape) → Step S → (Value k → S) → ℕ → ℕ → Type 0
TakesOne k step inject base n = (end : ℕ) (p : Payload) → step base end (record { number = n; payload = p }) (inject (empty k)) ≡ (take_one k (take_field k) base end p (empty k) >>= λ y. Ok (inject y))

-- a singular message
message_row : (k : Shape) → IsMessage k → {S : Type 0} (step : Step S) (inject : Value k → S) (base n : ℕ) (x : Value k) (text : List ℕ) → 0 < n → n < 2 ^ 29
    → Fits k x → length (spell k x) < 2 ^ 64 → ReadAgain k → TakesOne k step inject base n
    → Passes step (inject (empty k)) (inject x) base (bytes_field n (spell k x)) text
message_row k m step inject base n x text some few fits small again takes =
    bytes_row step (inject (empty k)) (inject x) base n (spell k x) text some few small
    (λ e. ap inject (ok_is (empty k) x (sym (run_end (take_field k) (empty k) 0 [] refl) ∙ ap (λ (y : List ℕ). run (take_field k) (empty k) (trace 0 y)) (sym e) ∙ again x fits 0)))
    (λ end. takes end (Long (spell k x)) ∙ ap (λ (r : Result (Value k) Fault). r >>= λ y. Ok (inject y)) (take_one_message k (take_field k) base end (spell k x) (empty k) m ∙ again x fits (end - length (spell k x))))

-- a singular row of any shape
row_one : (k : Shape) {S : Type 0} (step : Step S) (inject : Value k → S) (base n : ℕ) (x : Value k) (text : List ℕ) → 0 < n → n < 2 ^ 29
    → Fits k x → length (spell k x) < 2 ^ 64 → (IsMessage k → ReadAgain k) → TakesOne k step inject base n
    → Passes step (inject (empty k)) (inject x) base (spell_one k (spell k) n x) text
row_one (Number w) step inject base n x text some few fits small again takes = scalar_row w step inject base n x text some few fits (λ end. takes end (Varint (number_to w x)))
row_one (Index T entry) step inject base n x text some few fits small again takes = scalar_row I32 step inject base n x text some few fits (λ end. takes end (Varint (number_to I32 x)))
row_one Fixed step inject base n x text some few fits small again takes =
    fixed_row step (inject 0) (inject x) base n x text some few (λ e. ap inject (sym e))
    (λ end. takes end (Eight (to_le_bytes w64 x)) ∙ ap (λ (y : ℕ). Ok (inject y)) (from_le_bytes-to_le_bytes_8 x fits))
row_one Bytes step inject base n x text some few fits small again takes =
    bytes_row step (inject []) (inject x) base n x text some few fits (λ e. ap inject (sym e)) (λ end. takes end (Long x))
row_one Text step inject base n x text some few fits small again takes =
    bytes_row step (inject []) (inject x) base n x text some few fits.1 (λ e. ap inject (sym e))
    (λ end. takes end (Long x) ∙ ap (λ (r : Result (List ℕ) Fault). r >>= λ y. Ok (inject y)) (text_again base x fits.0))
row_one (Any depth) step inject base n x text some few fits small again takes =
    any_row (merge_any (any_levels depth)) (AnyInRange (any_levels depth)) (again_in (any_levels depth)) step inject base n x text some few fits.0 fits.1 (λ end. takes end (Long (any_text x)))
row_one k step inject base n x text some few fits small again takes = message_row k tt step inject base n x text some few fits small (again tt) takes

-- ---- repeated rows

-- packed numbers are read again
packed_again : (w : Format) (P : NumberValue w → Type 0) → ((v : NumberValue w) → P v → FitsNumber w v) → (vs : List (NumberValue w)) → Each P vs → packed w (numbers_text w vs) ≡ Ok vs
packed_again w P good [] fits = packed_nothing w
packed_again w P good (v ∷ vs) fits =
    let g = good v fits.0 in
    packed_is w (varint (number_to w v) ++ numbers_text w vs) (omega (arith, length-append (varint (number_to w v)) (numbers_text w vs), varint_some (number_to w v)))
    ∙ ap (packed_by w (packed w)) (varint_again (number_to w v) (numbers_text w vs) g.0)
    ∙ ap (λ (r : Result (List (NumberValue w)) Reason). r >>= λ ns. Ok (number_from w (number_to w v) ∷ ns)) (packed_again w P good vs fits.1)
    ∙ ap (λ (x : NumberValue w). Ok (x ∷ vs)) g.1

-- a repeated row of numbers
numbers_row : (w : Format) {S : Type 0} (step : Step S) (inject : List (NumberValue w) → S) (base n : ℕ) (vs : List (NumberValue w)) (text : List ℕ) → 0 < n → n < 2 ^ 29
    → packed w (numbers_text w vs) ≡ Ok vs → length (numbers_text w vs) < 2 ^ 64
    → ((end : ℕ) → step base end (record { number = n; payload = Long (numbers_text w vs) }) (inject []) ≡ (more_packed w base (numbers_text w vs) [] >>= λ y. Ok (inject y)))
    → Passes step (inject []) (inject vs) base (bytes_field n (numbers_text w vs)) text
numbers_row w step inject base n vs text some few again small takes =
    bytes_row step (inject []) (inject vs) base n (numbers_text w vs) text some few small
    (λ e. ap inject (ok_is [] vs (sym (packed_nothing w) ∙ ap (packed w) (sym e) ∙ again)))
    (λ end. takes end ∙ ap (λ (r : Result (List (NumberValue w)) Reason). (at_place base r >>= λ ns. Ok ([] ++ ns)) >>= λ y. Ok (inject y)) again)

-- packed eight-byte values are read again
fixed_packed : (at : ℕ) (vs : List ℕ) → packed_fixed (fixed_text vs) ≡ vs → more_fixed at (Long (fixed_text vs)) [] ≡ Ok vs
fixed_packed at vs again =
    cond-true (length (fixed_text vs) % 8 == 0) (Ok ([] ++ packed_fixed (fixed_text vs))) (Err (fault_at at PackedLength)) (eq-eqb _ _ (fixed_whole vs))
    ∙ ap (λ (x : List ℕ). let r : Result (List ℕ) Fault = Ok x in r) again

-- a repeated row of eight-byte values
eights_row : {S : Type 0} (step : Step S) (inject : List ℕ → S) (base n : ℕ) (vs : List ℕ) (text : List ℕ) → 0 < n → n < 2 ^ 29
    → packed_fixed (fixed_text vs) ≡ vs → length (fixed_text vs) < 2 ^ 64
    → ((end : ℕ) → step base end (record { number = n; payload = Long (fixed_text vs) }) (inject []) ≡ (more_fixed base (Long (fixed_text vs)) [] >>= λ y. Ok (inject y)))
    → Passes step (inject []) (inject vs) base (bytes_field n (fixed_text vs)) text
eights_row step inject base n vs text some few again small takes =
    bytes_row step (inject []) (inject vs) base n (fixed_text vs) text some few small
    (λ e. ap inject (sym (fixed_nothing [] refl) ∙ ap packed_fixed (sym e) ∙ again))
    (λ end. takes end ∙ ap (λ (r : Result (List ℕ) Fault). r >>= λ y. Ok (inject y)) (fixed_packed base vs again))

-- what is asked of each element of a repeated row
abbrev FitsItem : (k : Shape) → Value k → Type 0
FitsItem k y = Fits k y × (length (spell k y) < 2 ^ 64)

-- the step at a field of this number takes a payload of the repeated row
abbrev TakesMany : {S : Type 0} → (k : Shape) → Step S → (List (Value k) → S) → ℕ → Type 0
TakesMany k step inject n = (at end : ℕ) (p : Payload) (vs : List (Value k)) → step at end (record { number = n; payload = p }) (inject vs) ≡ (take_many k (take_field k) at end p vs >>= λ y. Ok (inject y))

-- a repeated row of messages
messages_row : (k : Shape) → IsMessage k → {S : Type 0} (step : Step S) (inject : List (Value k) → S) (base n : ℕ) (xs : List (Value k)) (text : List ℕ) → 0 < n → n < 2 ^ 29
    → Each (FitsItem k) xs → ReadAgain k → TakesMany k step inject n
    → Passes step (inject []) (inject xs) base (items_text n (map (spell k) xs)) text
messages_row k m step inject base n xs text some few fits again takes =
    let e : items_text n (map (spell k) xs) ≡ flat_map (λ x. long_field n (spell k x)) xs = flat_map-map (long_field n) (spell k) xs in
    ap (λ (y : List ℕ). run step (inject []) (trace base (y ++ text))) e
    ∙ items_row step inject (spell k) n (FitsItem k) some few (λ x p. p.1)
    (λ x p at end vs. takes at end (Long (spell k x)) vs ∙ ap (λ (r : Result (List (Value k)) Fault). r >>= λ y. Ok (inject y)) (take_many_message k (take_field k) at end (spell k x) vs m ∙ ap (λ (r : Result (Value k) Fault). r >>= λ v. Ok (vs ++ v ∷ [])) (again x p.0 (end - length (spell k x)))))
    [] xs fits base text
    ∙ ap (λ (y : List ℕ). run step (inject xs) (trace (base + length y) text)) (sym e)

-- a repeated row of AnyValues
values_row : (depth : ℕ) {S : Type 0} (step : Step S) (inject : List AnyValue → S) (base n : ℕ) (xs : List AnyValue) (text : List ℕ) → 0 < n → n < 2 ^ 29
    → Each (FitsAny (any_levels depth)) xs → TakesMany (Any depth) step inject n
    → Passes step (inject []) (inject xs) base (items_text n (map any_text xs)) text
values_row depth step inject base n xs text some few fits takes =
    let e : items_text n (map any_text xs) ≡ flat_map (λ x. long_field n (any_text x)) xs = flat_map-map (long_field n) any_text xs in
    ap (λ (y : List ℕ). run step (inject []) (trace base (y ++ text))) e
    ∙ items_row step inject any_text n (FitsAny (any_levels depth)) some few (λ x p. p.1)
    (λ x p at end vs. takes at end (Long (any_text x)) vs ∙ ap (λ (r : Result AnyValue Fault). (r >>= λ v. Ok (vs ++ v ∷ [])) >>= λ y. Ok (inject y)) (any_again (any_levels depth) x p at end))
    [] xs fits base text
    ∙ ap (λ (y : List ℕ). run step (inject xs) (trace (base + length y) text)) (sym e)

-- a repeated row of any shape
row_many : (k : Shape) {S : Type 0} (step : Step S) (inject : List (Value k) → S) (base n : ℕ) (xs : List (Value k)) (text : List ℕ) → 0 < n → n < 2 ^ 29
    → Each (FitsItem k) xs → FitsTogether k xs → (IsMessage k → ReadAgain k) → TakesMany k step inject n
    → Passes step (inject []) (inject xs) base (spell_many k (spell k) n xs) text
row_many (Number w) step inject base n xs text some few fits small again takes =
    numbers_row w step inject base n xs text some few (packed_again w (FitsItem (Number w)) (λ v p. p.0) xs fits) small (λ end. takes base end (Long (numbers_text w xs)) [])
row_many (Index T entry) step inject base n xs text some few fits small again takes =
    numbers_row I32 step inject base n xs text some few (packed_again I32 (FitsItem (Index T entry)) (λ v p. p.0) xs fits) small (λ end. takes base end (Long (numbers_text I32 xs)) [])
row_many Fixed step inject base n xs text some few fits small again takes =
    eights_row step inject base n xs text some few (fixed_again (FitsItem Fixed) (λ v p. p.0) xs fits) small (λ end. takes base end (Long (fixed_text xs)) [])
row_many Bytes step inject base n xs text some few fits small again takes =
    items_row step inject (λ b. b) n (FitsItem Bytes) some few (λ x p. p.0) (λ x p at end vs. takes at end (Long x) vs) [] xs fits base text
row_many Text step inject base n xs text some few fits small again takes =
    items_row step inject (λ b. b) n (FitsItem Text) some few (λ x p. p.0.1)
    (λ x p at end vs. takes at end (Long x) vs ∙ ap (λ (r : Result (List ℕ) Fault). (r >>= λ t. Ok (vs ++ t ∷ [])) >>= λ y. Ok (inject y)) (text_again at x p.0.0)) [] xs fits base text
row_many (Any depth) step inject base n xs text some few fits small again takes = values_row depth step inject base n xs text some few small takes
row_many k step inject base n xs text some few fits small again takes = messages_row k tt step inject base n xs text some few fits (again tt) takes

-- ---- messages

-- a row whose number is that of the field takes it
linked_here : {A B C S : Type 0} (n : ℕ) (r : Result A Fault) (q : Result B Fault) (h : A → C) (i : B → C) (inject : C → S)
    → (cond (n == n) (r >>= λ x. Ok (h x)) (q >>= λ x. Ok (i x)) >>= λ w. Ok (inject w)) ≡ (r >>= λ x. Ok (inject (h x)))
linked_here n r q h i inject = let e : (n == n) ≡ true = eq-eqb n n refl in rw e (map_map r h inject)

-- and a row of another number leaves it to the rows after it
linked_there : {A B C S : Type 0} (m n : ℕ) (r : Result A Fault) (q : Result B Fault) (h : A → C) (i : B → C) (inject : C → S) → (m ≡ n → ⊥)
    → (cond (m == n) (r >>= λ x. Ok (h x)) (q >>= λ x. Ok (i x)) >>= λ w. Ok (inject w)) ≡ (q >>= λ x. Ok (inject (i x)))
linked_there m n r q h i inject ne = let e : (m == n) ≡ false = ne_eqb m n ne in rw e (map_map q i inject)

-- the step takes the fields of the rows of s into the part of its state that inject says
abbrev Links : {S : Type 0} → (s : Shape) → Step S → (Value s → S) → Type 0
Links s step inject = (at end : ℕ) (f : Field) (u : Value s) → HasRow s f.number → step at end f (inject u) ≡ (take_field s at end f u >>= λ w. Ok (inject w))

-- what holds of any step that takes the rows of s
abbrev Round : Shape → Type 1
Round s = (S : Type 0) (step : Step S) (inject : Value s → S) → Links s step inject → (v : Value s) → Fits s v → (base : ℕ) (text : List ℕ)
    → Passes step (inject (empty s)) (inject v) base (spell s v) text

-- the step of the message itself, with nothing after it
again_of : (s : Shape) → Round s → ReadAgain s
again_of s round v fits base =
    ap (λ (y : List ℕ). run (take_field s) (empty s) (trace base y)) (sym (append-nil (spell s v)))
    ∙ round (Value s) (take_field s) (λ u. u) (λ at end f u h. map_same (take_field s at end f u)) v fits base []
    ∙ run_end (take_field s) v (base + length (spell s v)) [] refl

-- What is spelled is read, whatever follows it, as a part of a greater message.
round : (s : Shape) → IsMessage s → Lawful s → Round s
round End m lawful S step inject link v fits base text = no_field step (inject tt) (inject v) base [] text refl refl
round (One n k rest) m lawful S step inject link v fits base text =
    let first = spell_one k (spell k) n v.0 in
    let second = spell rest v.1 in
    let here : TakesOne k step (λ x. inject (x, empty rest)) base n = λ end p.
    link base end (record { number = n; payload = p }) (empty k, empty rest) (inl refl)
    ∙ linked_here n (take_one k (take_field k) base end p (empty k)) (take_field rest base end (record { number = n; payload = p }) (empty rest)) (λ x. let w : Value k × Value rest = (x, empty rest) in w) (λ x. (empty k, x)) inject in
    let there : Links rest step (λ u. inject (v.0, u)) = λ at end f u h.
    link at end f (v.0, u) (inr h)
    ∙ linked_there f.number n (take_one k (take_field k) at end f.payload v.0) (take_field rest at end f u) (λ x. let w : Value k × Value rest = (x, u) in w) (λ x. (v.0, x)) inject (lawful.5 f.number h) in
    both_pass step (inject (empty k, empty rest)) (inject (v.0, empty rest)) (inject v) base first second text
    (row_one k step (λ x. inject (x, empty rest)) base n v.0 (second ++ text) lawful.0 lawful.1 fits.0 fits.1 (λ mk. again_of k (round k mk lawful.2)) here)
    (round rest lawful.4 lawful.3 S step (λ u. inject (v.0, u)) there v.1 fits.2 (base + length first) text)
round (Many n k rest) m lawful S step inject link v fits base text =
    let first = spell_many k (spell k) n v.0 in
    let second = spell rest v.1 in
    let here : TakesMany k step (λ vs. inject (vs, empty rest)) n = λ at end p vs.
    link at end (record { number = n; payload = p }) (vs, empty rest) (inl refl)
    ∙ linked_here n (take_many k (take_field k) at end p vs) (take_field rest at end (record { number = n; payload = p }) (empty rest)) (λ x. let w : List (Value k) × Value rest = (x, empty rest) in w) (λ x. (vs, x)) inject in
    let there : Links rest step (λ u. inject (v.0, u)) = λ at end f u h.
    link at end f (v.0, u) (inr h)
    ∙ linked_there f.number n (take_many k (take_field k) at end f.payload v.0) (take_field rest at end f u) (λ x. let w : List (Value k) × Value rest = (x, u) in w) (λ x. (v.0, x)) inject (lawful.5 f.number h) in
    both_pass step (inject ([], empty rest)) (inject (v.0, empty rest)) (inject v) base first second text
    (row_many k step (λ x. inject (x, empty rest)) base n v.0 (second ++ text) lawful.0 lawful.1 fits.0 fits.1 (λ mk. again_of k (round k mk lawful.2)) here)
    (round rest lawful.4 lawful.3 S step (λ u. inject (v.0, u)) there v.1 fits.2 (base + length first) text)
round s m lawful S step inject link v fits base text = absurd m

-- the spelling of a value that fits is read as that value
pub reads_back : (s : Shape) → IsMessage s → Lawful s → (v : Value s) → Fits s v → (base : ℕ) → merge s (empty s) base (spell s v) ≡ Ok v
reads_back s m lawful = again_of s (round s m lawful)
