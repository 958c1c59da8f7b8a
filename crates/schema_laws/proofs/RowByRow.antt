-- The value of a field list as a function, row by row, and that reading field by field gives it.
use Rattle.std.proofs.Common.{◌≡◌, ℕ, ◌-◌, ◌%◌, Bool, true, false, cond, List, [], ◌∷◌, ◌++◌, length, Result, Ok, Err, refl, sym, ap, ◌∙◌}
use Rattle.std.specs.Prelude.{◌==◌}
use Rattle.std.specs.Int.{w64, from_le_bytes}
use Rattle.std.specs.List.{flat_map}
use Rattle.std.specs.Str.{is_utf8}
use Rattle.std.proofs.lemmas.List.{append-nil}
use Rattle.schema.specs.Field.{Eight, Field, Long, Payload, Varint}
use Rattle.schema.specs.Fault.{Fault, NotUtf8, PackedLength, Reason, fault_at}
use Rattle.schema.specs.Decoding.{Trace, trace, ◌>>=◌}
use Rattle.schema.specs.Shape.{Any, Bytes, Fixed, Format, I32, Index, IsMessage, Many, Number, NumberValue, One, Shape, Text, Value, empty, number_from}
use Rattle.schema.specs.Merge.{at_place, merge, one_bytes, one_fixed, one_number, packed, packed_fixed, more_bytes, more_fixed, take_many, more_numbers, take_one, more_texts, take_field}
use Rattle.schema.specs.Run.{run, text_of}
use Rattle.schema.specs.RowValue.{bytes_in, fixed_in, number_in, of_number, others}
use Rattle.schema_laws.proofs.Results.{ok_is, bind_ok, checked_ok}
use Rattle.schema_laws.proofs.Traces.{fields}
use Rattle.schema_laws.proofs.Rows.{take_one_message, take_many_message, take_one_short, take_many_short}
use Rattle.schema_laws.proofs.Folds.{or_else, last_said, inside, messages_of, fields_place, law_over, text_said, fold_many}
use Rattle.schema.specs.AnyValue.{AnyValue}
use Rattle.schema.specs.AnyMerge.{any_levels, item_at, merge_any}
use Rattle.schema_laws.proofs.AnyValues.{add_gives, any_gives, any_nil, any_value, go_on_gives, item_gives}

-- ---- the value

-- no numbers where they can't be read
abbrev pub ok_or_none : {A E : Type 0} → Result (List A) E → List A
ok_or_none (Ok ns) = ns
ok_or_none (Err e) = []

-- the elements of one occurrence of a repeated row
abbrev pub numbers_of : (w : Format) → Payload → List (NumberValue w)
numbers_of w (Varint n) = number_from w n ∷ []
numbers_of w (Long b) = ok_or_none (packed w b)
numbers_of w payload = []

-- eight-byte values
abbrev pub fixed_of : Payload → List ℕ
fixed_of (Eight b) = from_le_bytes w64 b ∷ []
fixed_of (Long b) = packed_fixed b
fixed_of payload = []

-- bytes and texts
abbrev pub texts_of : Payload → List (List ℕ)
texts_of (Long b) = b ∷ []
texts_of payload = []

-- a singular row over what was there before; `value` is that of a message
abbrev pub one_value : (s : Shape) → (Value s → List Field → Value s) → List Payload → Value s → Value s
one_value (Number w) value ps u = last_said (number_in w) ps u
one_value (Index T entry) value ps u = last_said (number_in I32) ps u
one_value Fixed value ps u = last_said fixed_in ps u
one_value Bytes value ps u = last_said bytes_in ps u
one_value Text value ps u = last_said bytes_in ps u
one_value (Any depth) value ps u = any_value (any_levels depth) u (flat_map inside ps)
one_value s value ps u = value u (flat_map inside ps)

-- the elements that a repeated row gains
abbrev pub many_value : (s : Shape) → (Value s → List Field → Value s) → List Payload → List (Value s)
many_value (Number w) value ps = flat_map (numbers_of w) ps
many_value (Index T entry) value ps = flat_map (numbers_of I32) ps
many_value Fixed value ps = flat_map fixed_of ps
many_value Bytes value ps = flat_map texts_of ps
many_value Text value ps = flat_map texts_of ps
many_value (Any depth) value ps = flat_map (messages_of (any_value (any_levels depth) AnyValue.Empty)) ps
many_value s value ps = flat_map (messages_of (value (empty s))) ps

-- u with the fields
abbrev pub value : (s : Shape) → Value s → List Field → Value s
value (One n k rest) u fs = (one_value k (value k) (of_number n fs) u.0, value rest u.1 (others n fs))
value (Many n k rest) u fs = (u.0 ++ many_value k (value k) (of_number n fs), value rest u.1 (others n fs))
value s u fs = u

-- ---- one field after the other

-- a field that is taken is no more among the fields to come
abbrev pub Step : Shape → Type 0
Step s = (at end : ℕ) (f : Field) (u v : Value s) (fs : List Field) → take_field s at end f u ≡ Ok v → value s u (f ∷ fs) ≡ value s v fs

-- and so are those of a trace
abbrev pub Law : Shape → Type 0
Law s = (t : Trace) (u v : Value s) (fs : List Field) → run (take_field s) u t ≡ Ok v → value s u (fields t ++ fs) ≡ value s v fs

-- and so it does of the step of a shape
law_of : (s : Shape) → Step s → Law s
law_of s step = law_over (take_field s) (value s) step

-- ---- no fields

-- a singular row of no payloads stays
one_nil : (k : Shape) → ((v : Value k) → value k v [] ≡ v) → (v : Value k) → one_value k (value k) [] v ≡ v
one_nil (One n k rest) h v = h v
one_nil (Many n k rest) h v = h v
one_nil (Any depth) h v = any_nil (any_levels depth) v
one_nil k h v = refl

-- a repeated row of no payloads gains nothing
many_nil : (k : Shape) → many_value k (value k) [] ≡ []
many_nil (Number w) = refl
many_nil k = refl

-- no fields change nothing
pub value_nil : (s : Shape) (v : Value s) → value s v [] ≡ v
value_nil (One n k rest) v = ap (λ (x : Value k). let r : Value k × Value rest = (x, value rest v.1 []) in r) (one_nil k (value_nil k) v.0) ∙ ap (λ (y : Value rest). let r : Value k × Value rest = (v.0, y) in r) (value_nil rest v.1)
value_nil (Many n k rest) v = ap (λ (x : List (Value k)). let r : List (Value k) × Value rest = (v.0 ++ x, value rest v.1 []) in r) (many_nil k) ∙ ap (λ (x : List (Value k)). let r : List (Value k) × Value rest = (x, value rest v.1 []) in r) (append-nil v.0) ∙ ap (λ (y : Value rest). let r : List (Value k) × Value rest = (v.0, y) in r) (value_nil rest v.1)
value_nil s v = refl

-- ---- singular rows

-- a singular message, a payload at a time
one_message : (k : Shape) → IsMessage k → Law k → (at end : ℕ) (p : Payload) (ps : List Payload) (u x : Value k) → take_one k (take_field k) at end p u ≡ Ok x
    → value k u (flat_map inside (p ∷ ps)) ≡ value k x (flat_map inside ps)
one_message k m law at end (Long b) ps u x e =
    ap (λ (t : List Field). value k u (t ++ flat_map inside ps)) (sym (fields_place (end - length b) b)) ∙ law (trace (end - length b) b) u x (flat_map inside ps) (sym (take_one_message k (take_field k) at end b u m) ∙ e)
one_message k m law at end p ps u x e = ap (λ (y : Value k). value k y (flat_map inside ps)) (ok_is u x (sym (take_one_short k (take_field k) at end p u m tt) ∙ e))

-- what a payload says of a number
number_said : (w : Format) (p : Payload) (u : NumberValue w) → or_else (number_in w p) u ≡ one_number w p u
number_said w (Varint n) u = refl
number_said w p u = refl

-- of an eight-byte value
fixed_said : (p : Payload) (u : ℕ) → or_else (fixed_in p) u ≡ one_fixed p u
fixed_said (Eight b) u = refl
fixed_said p u = refl

-- of bytes
bytes_said : (p : Payload) (u : List ℕ) → or_else (bytes_in p) u ≡ one_bytes p u
bytes_said (Long b) u = refl
bytes_said p u = refl

-- a singular row of any shape, a payload at a time
one_step : (k : Shape) → Law k → (at end : ℕ) (p : Payload) (ps : List Payload) (u x : Value k) → take_one k (take_field k) at end p u ≡ Ok x
    → one_value k (value k) (p ∷ ps) u ≡ one_value k (value k) ps x
one_step (Number w) law at end p ps u x e = ap (last_said (number_in w) ps) (number_said w p u ∙ ok_is (one_number w p u) x e)
one_step (Index T entry) law at end p ps u x e = ap (last_said (number_in I32) ps) (number_said I32 p u ∙ ok_is (one_number I32 p u) x e)
one_step Fixed law at end p ps u x e = ap (last_said fixed_in ps) (fixed_said p u ∙ ok_is (one_fixed p u) x e)
one_step Bytes law at end p ps u x e = ap (last_said bytes_in ps) (bytes_said p u ∙ ok_is (one_bytes p u) x e)
one_step Text law at end p ps u x e = ap (last_said bytes_in ps) (text_said at p u x e)
one_step (Any depth) law at end p ps u x e =
    go_on_gives (merge_any (any_levels depth)) (any_value (any_levels depth)) (any_nil (any_levels depth)) (any_gives (any_levels depth)) at end p ps u x e
one_step k law at end p ps u x e = one_message k tt law at end p ps u x e

-- ---- repeated rows

-- what an occurrence of a repeated message gains
many_message : (k : Shape) → IsMessage k → Law k → (at end : ℕ) (p : Payload) (u x : List (Value k)) → take_many k (take_field k) at end p u ≡ Ok x
    → u ++ messages_of (value k (empty k)) p ≡ x
many_message k m law at end (Long b) u x e =
    let r = bind_ok (run (take_field k) (empty k) (trace (end - length b) b)) (λ v. Ok (u ++ v ∷ [])) x (sym (take_many_message k (take_field k) at end b u m) ∙ e) in
    let v : value k (empty k) (fields (trace 0 b)) ≡ r.0 = ap (value k (empty k)) (sym (fields_place (end - length b) b) ∙ sym (append-nil (fields (trace (end - length b) b)))) ∙ law (trace (end - length b) b) (empty k) r.0 [] r.1 ∙ value_nil k r.0 in
    ap (λ (y : Value k). u ++ y ∷ []) v ∙ ok_is (u ++ r.0 ∷ []) x r.2
many_message k m law at end p u x e = append-nil u ∙ ok_is u x (sym (take_many_short k (take_field k) at end p u m tt) ∙ e)

-- what a packed payload gains
packed_gives : (w : Format) (at : ℕ) (r : Result (List (NumberValue w)) Reason) (u x : List (NumberValue w)) → (at_place at r >>= λ ns. Ok (u ++ ns)) ≡ Ok x → u ++ ok_or_none r ≡ x
packed_gives w at (Ok ns) u x e = ok_is (u ++ ns) x e
packed_gives w at (Err r) u x e = absurd cc

-- what an occurrence of repeated numbers gains
numbers_give : (w : Format) (at : ℕ) (p : Payload) (u x : List (NumberValue w)) → more_numbers w at p u ≡ Ok x → u ++ numbers_of w p ≡ x
numbers_give w at (Varint n) u x e = ok_is _ x e
numbers_give w at (Long b) u x e = packed_gives w at (packed w b) u x e
numbers_give w at p u x e = append-nil u ∙ ok_is u x e

-- of eight-byte values
fixed_give : (at : ℕ) (p : Payload) (u x : List ℕ) → more_fixed at p u ≡ Ok x → u ++ fixed_of p ≡ x
fixed_give at (Eight b) u x e = ok_is _ x e
fixed_give at (Long b) u x e = (checked_ok (length b % 8 == 0) (u ++ packed_fixed b) x (fault_at at PackedLength) e).1
fixed_give at p u x e = append-nil u ∙ ok_is u x e

-- of bytes
bytes_give : (p : Payload) (u x : List (List ℕ)) → (let r : Result (List (List ℕ)) Fault = Ok (more_bytes p u) in r ≡ Ok x) → u ++ texts_of p ≡ x
bytes_give (Long b) u x e = ok_is _ x e
bytes_give p u x e = append-nil u ∙ ok_is u x e

-- and of texts
texts_give : (at : ℕ) (p : Payload) (u x : List (List ℕ)) → more_texts at p u ≡ Ok x → u ++ texts_of p ≡ x
texts_give at (Long b) u x e =
    let r = bind_ok (text_of at b) (λ (t : List ℕ). Ok (u ++ t ∷ [])) x e in
    ap (λ (t : List ℕ). u ++ t ∷ []) (checked_ok (is_utf8 b) b r.0 (fault_at at NotUtf8) r.1).1 ∙ ok_is (u ++ r.0 ∷ []) x r.2
texts_give at p u x e = append-nil u ∙ ok_is u x e

-- a repeated row of any shape, a payload at a time
many_step : (k : Shape) → Law k → (at end : ℕ) (p : Payload) (ps : List Payload) (u x : List (Value k)) → take_many k (take_field k) at end p u ≡ Ok x
    → u ++ many_value k (value k) (p ∷ ps) ≡ x ++ many_value k (value k) ps
many_step (Number w) law at end p ps u x e = fold_many (numbers_of w) p ps u x (numbers_give w at p u x e)
many_step (Index T entry) law at end p ps u x e = fold_many (numbers_of I32) p ps u x (numbers_give I32 at p u x e)
many_step Fixed law at end p ps u x e = fold_many fixed_of p ps u x (fixed_give at p u x e)
many_step Bytes law at end p ps u x e = fold_many texts_of p ps u x (bytes_give p u x e)
many_step Text law at end p ps u x e = fold_many texts_of p ps u x (texts_give at p u x e)
many_step (Any depth) law at end p ps u x e =
    fold_many (messages_of (any_value (any_levels depth) AnyValue.Empty)) p ps u x
    (add_gives (item_at (merge_any (any_levels depth))) (any_value (any_levels depth) AnyValue.Empty)
    (item_gives (merge_any (any_levels depth)) (any_value (any_levels depth)) (any_nil (any_levels depth)) (any_gives (any_levels depth))) at end p u x e)
many_step k law at end p ps u x e = fold_many (messages_of (value k (empty k))) p ps u x (many_message k tt law at end p u x e)

-- ---- messages

-- a singular row and the rows after it, a field at a time
one_row : (n : ℕ) (k rest : Shape) → Law k → Step rest → (t : Bool) (at end : ℕ) (f : Field) (u v : Value k × Value rest) (fs : List Field)
    → cond t (take_one k (take_field k) at end f.payload u.0 >>= λ x. Ok (x, u.1)) (take_field rest at end f u.1 >>= λ x. Ok (u.0, x)) ≡ Ok v
    → (let a : Value k × Value rest = (one_value k (value k) (cond t (f.payload ∷ of_number n fs) (of_number n fs)) u.0, value rest u.1 (cond t (others n fs) (f ∷ others n fs))) in
    let b : Value k × Value rest = (one_value k (value k) (of_number n fs) v.0, value rest v.1 (others n fs)) in a ≡ b)
one_row n k rest law step true at end f u v fs e =
    let r = bind_ok (take_one k (take_field k) at end f.payload u.0) (λ x. Ok (x, u.1)) v e in
    let p = ok_is (r.0, u.1) v r.2 in
    ap (λ (y : Value k). let q : Value k × Value rest = (y, value rest u.1 (others n fs)) in q) (one_step k law at end f.payload (of_number n fs) u.0 r.0 r.1)
    ∙ ap (λ (y : Value k × Value rest). let q : Value k × Value rest = (one_value k (value k) (of_number n fs) y.0, value rest y.1 (others n fs)) in q) p
one_row n k rest law step false at end f u v fs e =
    let r = bind_ok (take_field rest at end f u.1) (λ x. Ok (u.0, x)) v e in
    let p = ok_is (u.0, r.0) v r.2 in
    ap (λ (y : Value rest). let q : Value k × Value rest = (one_value k (value k) (of_number n fs) u.0, y) in q) (step at end f u.1 r.0 (others n fs) r.1)
    ∙ ap (λ (y : Value k × Value rest). let q : Value k × Value rest = (one_value k (value k) (of_number n fs) y.0, value rest y.1 (others n fs)) in q) p

-- a repeated row and the rows after it, a field at a time
many_row : (n : ℕ) (k rest : Shape) → Law k → Step rest → (t : Bool) (at end : ℕ) (f : Field) (u v : List (Value k) × Value rest) (fs : List Field)
    → cond t (take_many k (take_field k) at end f.payload u.0 >>= λ x. Ok (x, u.1)) (take_field rest at end f u.1 >>= λ x. Ok (u.0, x)) ≡ Ok v
    → (let a : List (Value k) × Value rest = (u.0 ++ many_value k (value k) (cond t (f.payload ∷ of_number n fs) (of_number n fs)), value rest u.1 (cond t (others n fs) (f ∷ others n fs))) in
    let b : List (Value k) × Value rest = (v.0 ++ many_value k (value k) (of_number n fs), value rest v.1 (others n fs)) in a ≡ b)
many_row n k rest law step true at end f u v fs e =
    let r = bind_ok (take_many k (take_field k) at end f.payload u.0) (λ x. Ok (x, u.1)) v e in
    let p = ok_is (r.0, u.1) v r.2 in
    ap (λ (y : List (Value k)). let q : List (Value k) × Value rest = (y, value rest u.1 (others n fs)) in q) (many_step k law at end f.payload (of_number n fs) u.0 r.0 r.1)
    ∙ ap (λ (y : List (Value k) × Value rest). let q : List (Value k) × Value rest = (y.0 ++ many_value k (value k) (of_number n fs), value rest y.1 (others n fs)) in q) p
many_row n k rest law step false at end f u v fs e =
    let r = bind_ok (take_field rest at end f u.1) (λ x. Ok (u.0, x)) v e in
    let p = ok_is (u.0, r.0) v r.2 in
    ap (λ (y : Value rest). let q : List (Value k) × Value rest = (u.0 ++ many_value k (value k) (of_number n fs), y) in q) (step at end f u.1 r.0 (others n fs) r.1)
    ∙ ap (λ (y : List (Value k) × Value rest). let q : List (Value k) × Value rest = (y.0 ++ many_value k (value k) (of_number n fs), value rest y.1 (others n fs)) in q) p

-- each shape takes a field at a time
pub step_is : (s : Shape) → Step s
step_is (One n k rest) at end f u v fs e = one_row n k rest (law_of k (step_is k)) (step_is rest) (f.number == n) at end f u v fs e
step_is (Many n k rest) at end f u v fs e = many_row n k rest (law_of k (step_is k)) (step_is rest) (f.number == n) at end f u v fs e
step_is s at end f u v fs e = ok_is u v e

-- fields that were read are no more among the fields to come
pub read_then : (s : Shape) (u v : Value s) (base : ℕ) (bytes : List ℕ) (fs : List Field) → merge s u base bytes ≡ Ok v → value s u (fields (trace base bytes) ++ fs) ≡ value s v fs
read_then s u v base bytes fs e = law_of s (step_is s) (trace base bytes) u v fs e
