-- The spelling of an AnyValue is read as that value.
use Rattle.std.proofs.Common.{◌≡◌, ℕ, zero, suc, ◌+◌, ◌*◌, ◌-◌, ◌^◌, ◌<◌, Bool, true, false, List, [], ◌∷◌, ◌++◌, length, Result, Ok, refl, sym, ap, subst, ◌∙◌, arith, length-append, inl, inr}
use Rattle.std.specs.Prelude.{◌⊎◌}
use Rattle.std.specs.List.{flat_map}
use Rattle.schema.specs.Field.{Eight, Long, Varint}
use Rattle.schema.specs.Fault.{Fault}
use Rattle.schema.specs.Each.{Each}
use Rattle.schema.specs.Run.{run, message}
use Rattle.schema.specs.Decoding.{◌>>=◌, trace}
use Rattle.schema.specs.Shape.{I64, Flag, number_from}
use Rattle.schema.specs.Texts.{bytes_field, long_field, number_to, varint}
use Rattle.schema.specs.AnyValue.{AnyValue, KeyValue, items, list_of, pair_list, pairs}
use Rattle.schema.specs.AnyMerge.{item_at, merge_any, pair_at, take_element, take_member, take_pair}
use Rattle.schema.specs.AnySpell.{AnyInRange, FitsAny, MemberInRange, PairInRange, any_text, pairs_text, values_text}
use Rattle.schema_laws.proofs.Results.{ok_is}
use Rattle.schema_laws.proofs.Onto.{long_some, varint_some}
use Rattle.schema_laws.proofs.Traces.{run_end}
use Rattle.schema_laws.proofs.Front.{number_again, eight_again, long_again}
use Rattle.schema_laws.proofs.Passing.{Step, Passes, no_field, both_pass, bytes_row, items_row, text_again, alone, one_alone}
use Rattle.schema_laws.proofs.Lengths.{bytes_field_le, long_field_le, each_short}
use Rattle.schema_laws.proofs.AnyLists.{element_text, empty_text, pairs_back, pairs_spelled, values_back, values_spelled}

-- a flag as a varint is read as that flag
flag_again : (x : Bool) → number_from Flag (number_to Flag x) ≡ x
flag_again true = refl
flag_again false = refl

-- elements that are read one by one are read as their list
elements_again : {A : Type 0} (element : ℕ → ℕ → List ℕ → Result A Fault) (text : A → List ℕ) (P : A → Type 0) → ((x : A) → P x → length (text x) < 2 ^ 64)
    → ((x : A) → P x → (at end : ℕ) → element at end (text x) ≡ Ok x) → (xs : List A) → Each P xs → (base : ℕ)
    → run (take_element element) [] (trace base (flat_map (λ x. long_field 1 (text x)) xs)) ≡ Ok xs
elements_again {A = A} element text P small again xs fits base =
    alone (take_element element) [] xs base (flat_map (λ x. long_field 1 (text x)) xs)
    (items_row (take_element element) (λ (u : List A). u) text 1 P (omega arith) (omega arith) small
    (λ x p at end vs. ap (λ (r : Result A Fault). r >>= λ y. Ok (vs ++ y ∷ [])) (again x p at end)) [] xs fits base [])

module _ (inner : ℕ → ℕ → List ℕ → AnyValue → Result AnyValue Fault) (In : AnyValue → Type 0)
    (again : (x : AnyValue) → In x → length (any_text x) < 2 ^ 64 → (at end : ℕ) → inner at end (any_text x) AnyValue.Empty ≡ Ok x) where
  -- a value that is left out where it is Empty
  pub any_row : {S : Type 0} (step : Step S) (inject : AnyValue → S) (base n : ℕ) (v : AnyValue) (text : List ℕ) → 0 < n → n < 2 ^ 29
      → (v ≡ AnyValue.Empty) ⊎ In v → length (any_text v) < 2 ^ 64
      → ((end : ℕ) → step base end (record { number = n; payload = Long (any_text v) }) (inject AnyValue.Empty) ≡ (inner base end (any_text v) AnyValue.Empty >>= λ x. Ok (inject x)))
      → Passes step (inject AnyValue.Empty) (inject v) base (bytes_field n (any_text v)) text
  unfolding bytes_field
  any_row step inject base n v text some few (inl e) small takes =
      no_field step (inject AnyValue.Empty) (inject v) base (bytes_field n (any_text v)) text (ap (λ (x : AnyValue). bytes_field n (any_text x)) e) (ap inject (sym e))
  any_row step inject base n v text some few (inr i) small takes =
      bytes_row step (inject AnyValue.Empty) (inject v) base n (any_text v) text some few small
      (λ e. ap inject (sym (empty_text v (ap length e))))
      (λ end. takes end ∙ ap (λ (r : Result AnyValue Fault). r >>= λ x. Ok (inject x)) (again v i small base end))

  -- a key and its value
  pair_again : (kv : KeyValue) → PairInRange In kv → length (element_text kv) < 2 ^ 64 → (at end : ℕ) → pair_at inner at end (element_text kv) ≡ Ok kv
  pair_again kv i small at end =
      let k = kv.0 in let v = kv.1 in
      let base = end - length (element_text kv) in
      let l = length-append (bytes_field 1 k) (bytes_field 2 (any_text v)) in
      let a = bytes_field_le 1 k in
      let b = bytes_field_le 2 (any_text v) in
      alone (take_pair inner) ([], AnyValue.Empty) kv base (element_text kv)
      (both_pass (take_pair inner) ([], AnyValue.Empty) (k, AnyValue.Empty) kv base (bytes_field 1 k) (bytes_field 2 (any_text v)) []
      (bytes_row (take_pair inner) ([], AnyValue.Empty) (k, AnyValue.Empty) base 1 k (bytes_field 2 (any_text v) ++ []) (omega arith) (omega arith) (omega arith)
      (λ e. ap (λ (x : List ℕ). let r : KeyValue = (x, AnyValue.Empty) in r) (sym e))
      (λ end. ap (λ (r : Result (List ℕ) Fault). r >>= λ x. Ok (x, AnyValue.Empty)) (text_again base k i.0)))
      (any_row (take_pair inner) (λ (x : AnyValue). let r : KeyValue = (k, x) in r) (base + length (bytes_field 1 k)) 2 v [] (omega arith) (omega arith) i.1 (omega arith) (λ end. refl)))

  -- a payload
  form_again : (v : AnyValue) → MemberInRange In v → length (any_text v) < 2 ^ 64 → (end : ℕ) → message (take_member inner) end (any_text v) AnyValue.Empty ≡ Ok v
  form_again AnyValue.Empty i small end = run_end (take_member inner) AnyValue.Empty (end - 0) [] refl
  form_again (AnyValue.Text b) i small end =
      let l = long_field_le 1 b in
      one_alone (take_member inner) AnyValue.Empty (AnyValue.Text b) (end - length (long_field 1 b)) (long_field 1 b) (record { number = 1; payload = Long b }) (long_some 1 b)
      (long_again 1 b [] (omega arith) (omega arith) (omega arith))
      (λ e. ap (λ (r : Result (List ℕ) Fault). r >>= λ t. Ok (AnyValue.Text t)) (text_again (end - length (long_field 1 b)) b i))
  form_again (AnyValue.Flag x) i small end =
      let t = varint (2 * 8) ++ varint (number_to Flag x) in
      one_alone (take_member inner) AnyValue.Empty (AnyValue.Flag x) (end - length t) t (record { number = 2; payload = Varint (number_to Flag x) })
      (omega (arith, length-append (varint (2 * 8)) (varint (number_to Flag x)), varint_some (2 * 8)))
      (number_again 2 (number_to Flag x) [] (omega arith) (omega arith) (flag_small x)) (λ e. ap (λ y. Ok (AnyValue.Flag y)) (flag_again x))
    where
      flag_small : (x : Bool) → number_to Flag x < 2 ^ 64
      flag_small true = omega arith
      flag_small false = omega arith
  form_again (AnyValue.Int z) i small end =
      let t = varint (3 * 8) ++ varint (number_to I64 z) in
      one_alone (take_member inner) AnyValue.Empty (AnyValue.Int z) (end - length t) t (record { number = 3; payload = Varint (number_to I64 z) })
      (omega (arith, length-append (varint (3 * 8)) (varint (number_to I64 z)), varint_some (3 * 8)))
      (number_again 3 (number_to I64 z) [] (omega arith) (omega arith) i.0) (λ e. ap (λ y. Ok (AnyValue.Int y)) i.1)
  form_again (AnyValue.Double b) i small end =
      let t = varint (4 * 8 + 1) ++ b in
      one_alone (take_member inner) AnyValue.Empty (AnyValue.Double b) (end - length t) t (record { number = 4; payload = Eight b })
      (omega (arith, length-append (varint (4 * 8 + 1)) b, varint_some (4 * 8 + 1))) (eight_again 4 b [] (omega arith) (omega arith) i) (λ e. refl)
  form_again (AnyValue.Items vs) i small end =
      let t = values_text vs in
      let l = long_field_le 5 t in
      let spelled = values_spelled vs in
      let fits = each_short any_text 1 In (λ x. In x × (length (any_text x) < 2 ^ 64)) (λ x r s. (r, s)) (list_of vs) i
      (subst (λ (y : List ℕ). length y < 2 ^ 64) spelled (omega arith)) in
      one_alone (take_member inner) AnyValue.Empty (AnyValue.Items vs) (end - length (long_field 5 t)) (long_field 5 t) (record { number = 5; payload = Long t }) (long_some 5 t)
      (long_again 5 t [] (omega arith) (omega arith) (omega arith))
      (λ e. ap (λ (r : Result (List AnyValue) Fault). r >>= λ xs. Ok (items xs))
      (ap (λ (y : List ℕ). run (take_element (item_at inner)) [] (trace (e - length t) y)) spelled
      ∙ elements_again (item_at inner) any_text (λ x. In x × (length (any_text x) < 2 ^ 64)) (λ x p. p.1) (λ x p at end. again x p.0 p.1 at end) (list_of vs) fits (e - length t))
      ∙ ap (λ ws. Ok (AnyValue.Items ws)) (values_back vs))
  form_again (AnyValue.Pairs kvs) i small end =
      let t = pairs_text kvs in
      let l = long_field_le 6 t in
      let spelled = pairs_spelled kvs in
      let fits = each_short element_text 1 (PairInRange In) (λ x. PairInRange In x × (length (element_text x) < 2 ^ 64)) (λ x r s. (r, s)) (pair_list kvs) i
      (subst (λ (y : List ℕ). length y < 2 ^ 64) spelled (omega arith)) in
      one_alone (take_member inner) AnyValue.Empty (AnyValue.Pairs kvs) (end - length (long_field 6 t)) (long_field 6 t) (record { number = 6; payload = Long t }) (long_some 6 t)
      (long_again 6 t [] (omega arith) (omega arith) (omega arith))
      (λ e. ap (λ (r : Result (List KeyValue) Fault). r >>= λ xs. Ok (pairs xs))
      (ap (λ (y : List ℕ). run (take_element (pair_at inner)) [] (trace (e - length t) y)) spelled
      ∙ elements_again (pair_at inner) element_text (λ x. PairInRange In x × (length (element_text x) < 2 ^ 64)) (λ x p. p.1) (λ x p at end. pair_again x p.0 p.1 at end) (pair_list kvs) fits (e - length t))
      ∙ ap (λ ws. Ok (AnyValue.Pairs ws)) (pairs_back kvs))
  form_again (AnyValue.Raw b) i small end =
      let l = long_field_le 7 b in
      one_alone (take_member inner) AnyValue.Empty (AnyValue.Raw b) (end - length (long_field 7 b)) (long_field 7 b) (record { number = 7; payload = Long b }) (long_some 7 b)
      (long_again 7 b [] (omega arith) (omega arith) (omega arith)) (λ e. refl)

-- a value that fits so many levels is read again with so many left
pub again_in : (left : ℕ) (v : AnyValue) → AnyInRange left v → length (any_text v) < 2 ^ 64 → (at end : ℕ) → merge_any left at end (any_text v) AnyValue.Empty ≡ Ok v
unfolding merge_any
again_in zero v i small at end = absurd i
again_in (suc left) v i small at end = form_again (merge_any left) (AnyInRange left) (again_in left) v i small end

-- the spelling of a value that fits is read as that value
pub any_again : (left : ℕ) (v : AnyValue) → FitsAny left v → (at end : ℕ) → merge_any left at end (any_text v) AnyValue.Empty ≡ Ok v
any_again left v fits at end = again_in left v fits.0 fits.1 at end

-- values that fit are told apart by their spellings
pub any_apart : (left : ℕ) (v w : AnyValue) → FitsAny left v → FitsAny left w → any_text v ≡ any_text w → v ≡ w
any_apart left v w f g e =
    ok_is v w (sym (any_again left v f 0 0) ∙ ap (λ (y : List ℕ). merge_any left 0 0 y AnyValue.Empty) e ∙ any_again left w g 0 0)
