-- The step of each shape fails exactly where a payload has a fault, with that fault, and otherwise depends on no place.
use Rattle.std.proofs.Common.{◌≡◌, ℕ, ◌-◌, ◌%◌, List, [], ◌∷◌, ◌++◌, length, Result, Ok, Err, sym, ap, ◌∙◌}
use Rattle.std.specs.Prelude.{◌==◌}
use Rattle.std.specs.Str.{is_utf8}
use Rattle.std.proofs.lemmas.Bool.{eqb-true, eqb-false, ne_eqb}
use Rattle.schema.specs.Field.{Long, Payload}
use Rattle.schema.specs.Fault.{Fault, NotUtf8, PackedLength, Reason, fault_at}
use Rattle.schema.specs.Decoding.{◌>>=◌}
use Rattle.schema.specs.Shape.{Any, Bytes, Fixed, Format, I32, Index, Many, Number, NumberValue, One, Shape, Text, Value, empty}
use Rattle.schema.specs.Merge.{at_place, merge, packed, packed_fixed, take_many, more_numbers, take_one, more_packed, take_field}
use Rattle.schema.specs.Run.{text_of}
use Rattle.schema.specs.FirstFault.{BadPacked, FirstFault}
use Rattle.schema.specs.MessageFault.{FieldFault, HasFault, ManyFault, OneFault}
use Rattle.schema_laws.proofs.Results.{err_is, map_err, map_at, map_both, checked, checked_err, checked_fails, checked_steady}
use Rattle.schema_laws.proofs.StepFaults.{fault_found, fault_read, moved}
use Rattle.schema_laws.proofs.PackedNumbers.{packed_found, packed_bad}
use Rattle.schema_laws.proofs.StepAgreement.{ok_from, row_hits, row_misses, row_steady, StepAgrees}
use Rattle.schema.specs.AnyValue.{AnyValue}
use Rattle.schema.specs.AnyMerge.{any_levels, item_at, merge_any}
use Rattle.schema.specs.AnyFaults.{AnyFault}
use Rattle.schema_laws.proofs.AnyAgreement.{add_hits, add_misses, add_steady, any_agrees, value_hits, value_misses, value_steady}

-- a shape whose step fails exactly with its faults, at any place alike
abbrev pub Agrees : Shape → Type 0
Agrees s = StepAgrees (take_field s) (FieldFault s)

-- ---- packed payloads

-- a packed payload fails where the field's tag lies
packed_at : {A : Type 0} (at : ℕ) (r : Result A Reason) (g : Fault) → at_place at r ≡ Err g → (r ≡ Err g.reason) × (g.place ≡ at)
packed_at at (Ok x) g e = absurd cc
packed_at {A} at (Err d) g e =
    let q : fault_at at d ≡ g = err_is {A = A} (fault_at at d) g e in
    (ap (λ (x : Fault). let r : Result A Reason = Err x.reason in r) q, ap (λ (x : Fault). x.place) (sym q))

-- a packed payload that fails is bad
packed_hits : (w : Format) (at : ℕ) (b : List ℕ) (vs : List (NumberValue w)) (g : Fault) → more_packed w at b vs ≡ Err g → BadPacked b g.reason × (g.place ≡ at)
packed_hits w at b vs g e =
    let p = packed_at at (packed w b) g (map_err (at_place at (packed w b)) (λ (ns : List (NumberValue w)). vs ++ ns) g e) in
    (packed_found w b g.reason p.0, p.1)

-- and a bad one fails
packed_misses : (w : Format) (at : ℕ) (b : List ℕ) (vs : List (NumberValue w)) (g : Fault) → BadPacked b g.reason × (g.place ≡ at) → more_packed w at b vs ≡ Err g
packed_misses w at b vs g p =
    ap (λ (r : Result (List (NumberValue w)) Reason). at_place at r >>= λ ns. Ok (vs ++ ns)) (packed_bad w b g.reason p.0)
    ∙ ap (λ (n : ℕ). let r : Result (List (NumberValue w)) Fault = Err (fault_at n g.reason) in r) (sym p.1)

-- what is right at one place is right at another
place_steady : {A : Type 0} (at c : ℕ) (r : Result A Reason) (x : A) → at_place at r ≡ Ok x → at_place c r ≡ Ok x
place_steady at c (Ok y) x e = e
place_steady at c (Err r) x e = absurd cc

-- numbers that are taken don't depend on the place
numbers_steady : (w : Format) (at c : ℕ) (p : Payload) (vs us : List (NumberValue w)) → more_numbers w at p vs ≡ Ok us → more_numbers w c p vs ≡ Ok us
numbers_steady w at c (Long b) vs us e = map_both (at_place at (packed w b)) (at_place c (packed w b)) (λ (ns : List (NumberValue w)). vs ++ ns) us (λ x q. place_steady at c (packed w b) x q) e
numbers_steady w at c p vs us e = e

-- packed eight-byte values, whose length is a multiple of 8
abbrev eights : ℕ → List ℕ → List ℕ → Result (List ℕ) Fault
eights at b vs = checked (length b % 8 == 0) (vs ++ packed_fixed b) (fault_at at PackedLength)

-- eight-byte values that fail have a wrong length
eights_hits : (at : ℕ) (b vs : List ℕ) (g : Fault) → eights at b vs ≡ Err g → ((length b % 8 ≡ 0) → ⊥) × (g ≡ fault_at at PackedLength)
eights_hits at b vs g e =
    let h = checked_err (length b % 8 == 0) (vs ++ packed_fixed b) (fault_at at PackedLength) g e in
    (eqb-false (length b % 8) 0 h.0, h.1)

-- and those of a wrong length fail
eights_misses : (at : ℕ) (b vs : List ℕ) (g : Fault) → ((length b % 8 ≡ 0) → ⊥) × (g ≡ fault_at at PackedLength) → eights at b vs ≡ Err g
eights_misses at b vs g w = checked_fails (length b % 8 == 0) (vs ++ packed_fixed b) (fault_at at PackedLength) g (ne_eqb (length b % 8) 0 w.0, w.1)

-- ---- messages

-- a message that fails has this first fault
message_hits : (k : Shape) → Agrees k → (base : ℕ) (b : List ℕ) (v : Value k) (g : Fault) → merge k v base b ≡ Err g → FirstFault (FieldFault k) base b g
message_hits k a base b v g e = fault_found (take_field k) (FieldFault k) a.hits a.misses a.steady base b v g e

-- and one with this first fault fails
message_misses : (k : Shape) → Agrees k → (base : ℕ) (b : List ℕ) (v : Value k) (g : Fault) → FirstFault (FieldFault k) base b g → merge k v base b ≡ Err g
message_misses k a base b v g e = fault_read (take_field k) (FieldFault k) a.hits a.misses a.steady base b v g e

-- a message that is read doesn't depend on its place
message_steady : (k : Shape) → Agrees k → (base other : ℕ) (b : List ℕ) (v w : Value k) → merge k v base b ≡ Ok w → merge k v other b ≡ Ok w
message_steady k a base other b v w e = moved (take_field k) (FieldFault k) a.hits a.misses a.steady base other b v w e

-- an element of a repeated message
abbrev element : (k : Shape) → ℕ → List ℕ → List (Value k) → Result (List (Value k)) Fault
element k base b vs = merge k (empty k) base b >>= λ v. Ok (vs ++ v ∷ [])

-- an element that fails has this first fault
element_hits : (k : Shape) → Agrees k → (base : ℕ) (b : List ℕ) (vs : List (Value k)) (g : Fault) → element k base b vs ≡ Err g → FirstFault (FieldFault k) base b g
element_hits k a base b vs g e = message_hits k a base b (empty k) g (map_err (merge k (empty k) base b) (λ (v : Value k). vs ++ v ∷ []) g e)

-- and one with this first fault fails
element_misses : (k : Shape) → Agrees k → (base : ℕ) (b : List ℕ) (vs : List (Value k)) (g : Fault) → FirstFault (FieldFault k) base b g → element k base b vs ≡ Err g
element_misses k a base b vs g e = map_at (merge k (empty k) base b) (λ (v : Value k). vs ++ v ∷ []) g (message_misses k a base b (empty k) g e)

-- an element that is read doesn't depend on its place
element_steady : (k : Shape) → Agrees k → (base other : ℕ) (b : List ℕ) (vs ws : List (Value k)) → element k base b vs ≡ Ok ws → element k other b vs ≡ Ok ws
element_steady k a base other b vs ws e = map_both (merge k (empty k) base b) (merge k (empty k) other b) (λ (v : Value k). vs ++ v ∷ []) ws
    (λ x q. message_steady k a base other b (empty k) x q) e

-- ---- singular rows

-- an occurrence of a singular row that fails has the fault
one_hits : (k : Shape) → Agrees k → (at end : ℕ) (p : Payload) (v : Value k) (g : Fault) → take_one k (take_field k) at end p v ≡ Err g → OneFault k (FieldFault k) at end p g
one_hits (Number w) a at end p v g e = absurd cc
one_hits (Index T entry) a at end p v g e = absurd cc
one_hits Fixed a at end p v g e = absurd cc
one_hits Bytes a at end p v g e = absurd cc
one_hits Text a at end (Long b) v g e = checked_err (is_utf8 b) b (fault_at at NotUtf8) g e
one_hits (Any depth) a at end p v g e = value_hits (merge_any (any_levels depth)) (AnyFault (any_levels depth)) (any_agrees (any_levels depth)) at end p v g e
one_hits k a at end (Long b) v g e = message_hits k a (end - length b) b v g e
one_hits k a at end p v g e = absurd cc

-- and one that has the fault fails
one_misses : (k : Shape) → Agrees k → (at end : ℕ) (p : Payload) (v : Value k) (g : Fault) → OneFault k (FieldFault k) at end p g → take_one k (take_field k) at end p v ≡ Err g
one_misses (Number w) a at end p v g e = absurd e
one_misses (Index T entry) a at end p v g e = absurd e
one_misses Fixed a at end p v g e = absurd e
one_misses Bytes a at end p v g e = absurd e
one_misses Text a at end (Long b) v g e = checked_fails (is_utf8 b) b (fault_at at NotUtf8) g e
one_misses (Any depth) a at end p v g e = value_misses (merge_any (any_levels depth)) (AnyFault (any_levels depth)) (any_agrees (any_levels depth)) at end p v g e
one_misses k a at end (Long b) v g e = message_misses k a (end - length b) b v g e
one_misses k a at end p v g e = absurd e

-- and one that is taken doesn't depend on the place
one_steady : (k : Shape) → Agrees k → (at end : ℕ) (p : Payload) (v w : Value k) → take_one k (take_field k) at end p v ≡ Ok w → (c d : ℕ) → take_one k (take_field k) c d p v ≡ Ok w
one_steady (Number n) a at end p v w e c d = e
one_steady (Index T entry) a at end p v w e c d = e
one_steady Fixed a at end p v w e c d = e
one_steady Bytes a at end p v w e c d = e
one_steady Text a at end (Long b) v w e c d = checked_steady (is_utf8 b) b (fault_at at NotUtf8) (fault_at c NotUtf8) w e
one_steady (Any depth) a at end p v w e c d = value_steady (merge_any (any_levels depth)) (AnyFault (any_levels depth)) (any_agrees (any_levels depth)) at end p v w e c d
one_steady k a at end (Long b) v w e c d = message_steady k a (end - length b) (d - length b) b v w e
one_steady k a at end p v w e c d = e

-- ---- repeated rows

-- an occurrence of a repeated row that fails has the fault
many_hits : (k : Shape) → Agrees k → (at end : ℕ) (p : Payload) (v : List (Value k)) (g : Fault) → take_many k (take_field k) at end p v ≡ Err g → ManyFault k (FieldFault k) at end p g
many_hits (Number w) a at end (Long b) v g e = packed_hits w at b v g e
many_hits (Index T entry) a at end (Long b) v g e = packed_hits I32 at b v g e
many_hits Fixed a at end (Long b) v g e = eights_hits at b v g e
many_hits Bytes a at end p v g e = absurd cc
many_hits Text a at end (Long b) v g e = checked_err (is_utf8 b) b (fault_at at NotUtf8) g (map_err (text_of at b) (λ (t : List ℕ). v ++ t ∷ []) g e)
many_hits (Any depth) a at end p v g e = add_hits (item_at (merge_any (any_levels depth))) (AnyFault (any_levels depth)) (any_agrees (any_levels depth) AnyValue.Empty) at end p v g e
many_hits k a at end (Long b) v g e = element_hits k a (end - length b) b v g e
many_hits k a at end p v g e = absurd cc

-- and one that has the fault fails
many_misses : (k : Shape) → Agrees k → (at end : ℕ) (p : Payload) (v : List (Value k)) (g : Fault) → ManyFault k (FieldFault k) at end p g → take_many k (take_field k) at end p v ≡ Err g
many_misses (Number w) a at end (Long b) v g e = packed_misses w at b v g e
many_misses (Index T entry) a at end (Long b) v g e = packed_misses I32 at b v g e
many_misses Fixed a at end (Long b) v g e = eights_misses at b v g e
many_misses Bytes a at end p v g e = absurd e
many_misses Text a at end (Long b) v g e = map_at (text_of at b) (λ (t : List ℕ). v ++ t ∷ []) g (checked_fails (is_utf8 b) b (fault_at at NotUtf8) g e)
many_misses (Any depth) a at end p v g e = add_misses (item_at (merge_any (any_levels depth))) (AnyFault (any_levels depth)) (any_agrees (any_levels depth) AnyValue.Empty) at end p v g e
many_misses k a at end (Long b) v g e = element_misses k a (end - length b) b v g e
many_misses k a at end p v g e = absurd e

-- and one that is taken doesn't depend on the place
many_steady : (k : Shape) → Agrees k → (at end : ℕ) (p : Payload) (v w : List (Value k)) → take_many k (take_field k) at end p v ≡ Ok w → (c d : ℕ) → take_many k (take_field k) c d p v ≡ Ok w
many_steady (Number n) a at end p v w e c d = numbers_steady n at c p v w e
many_steady (Index T entry) a at end p v w e c d = numbers_steady I32 at c p v w e
many_steady Fixed a at end (Long b) v w e c d = checked_steady (length b % 8 == 0) (v ++ packed_fixed b) (fault_at at PackedLength) (fault_at c PackedLength) w e
many_steady Bytes a at end p v w e c d = e
many_steady Text a at end (Long b) v w e c d = map_both (text_of at b) (text_of c b) (λ (t : List ℕ). v ++ t ∷ []) w (λ x q. checked_steady (is_utf8 b) b (fault_at at NotUtf8) (fault_at c NotUtf8) x q) e
many_steady (Any depth) a at end p v w e c d = add_steady (item_at (merge_any (any_levels depth))) (AnyFault (any_levels depth)) (any_agrees (any_levels depth) AnyValue.Empty) at end p v w e c d
many_steady k a at end (Long b) v w e c d = element_steady k a (end - length b) (d - length b) b v w e
many_steady k a at end p v w e c d = e

-- ---- rows

-- each shape agrees
pub agrees : (s : Shape) → Agrees s
agrees (One n k rest) = let a = agrees k in let b = agrees rest in record {
  hits = λ at end f v g e. row_hits (f.number == n) (f.number ≡ n) (OneFault k (FieldFault k) at end f.payload g) (FieldFault rest at end f g)
      (take_one k (take_field k) at end f.payload v.0) (take_field rest at end f v.1)
      (λ (x : Value k). let r : Value k × Value rest = (x, v.1) in r) (λ (x : Value rest). let r : Value k × Value rest = (v.0, x) in r) g
      (eqb-true f.number n) (eqb-false f.number n) (one_hits k a at end f.payload v.0 g) (b.hits at end f v.1 g) e;
  misses = λ at end f v g e. row_misses (f.number == n) (f.number ≡ n) (OneFault k (FieldFault k) at end f.payload g) (FieldFault rest at end f g)
      (take_one k (take_field k) at end f.payload v.0) (take_field rest at end f v.1)
      (λ (x : Value k). let r : Value k × Value rest = (x, v.1) in r) (λ (x : Value rest). let r : Value k × Value rest = (v.0, x) in r) g
      (eqb-true f.number n) (eqb-false f.number n) (one_misses k a at end f.payload v.0 g) (b.misses at end f v.1 g) e;
  steady = λ at end f v w e c d. row_steady (f.number == n) (take_one k (take_field k) at end f.payload v.0) (take_one k (take_field k) c d f.payload v.0)
      (take_field rest at end f v.1) (take_field rest c d f v.1)
      (λ (x : Value k). let r : Value k × Value rest = (x, v.1) in r) (λ (x : Value rest). let r : Value k × Value rest = (v.0, x) in r) w
      (λ x q. one_steady k a at end f.payload v.0 x q c d) (λ x q. b.steady at end f v.1 x q c d) e;
}
agrees (Many n k rest) = let a = agrees k in let b = agrees rest in record {
  hits = λ at end f v g e. row_hits (f.number == n) (f.number ≡ n) (ManyFault k (FieldFault k) at end f.payload g) (FieldFault rest at end f g)
      (take_many k (take_field k) at end f.payload v.0) (take_field rest at end f v.1)
      (λ (x : List (Value k)). let r : List (Value k) × Value rest = (x, v.1) in r) (λ (x : Value rest). let r : List (Value k) × Value rest = (v.0, x) in r) g
      (eqb-true f.number n) (eqb-false f.number n) (many_hits k a at end f.payload v.0 g) (b.hits at end f v.1 g) e;
  misses = λ at end f v g e. row_misses (f.number == n) (f.number ≡ n) (ManyFault k (FieldFault k) at end f.payload g) (FieldFault rest at end f g)
      (take_many k (take_field k) at end f.payload v.0) (take_field rest at end f v.1)
      (λ (x : List (Value k)). let r : List (Value k) × Value rest = (x, v.1) in r) (λ (x : Value rest). let r : List (Value k) × Value rest = (v.0, x) in r) g
      (eqb-true f.number n) (eqb-false f.number n) (many_misses k a at end f.payload v.0 g) (b.misses at end f v.1 g) e;
  steady = λ at end f v w e c d. row_steady (f.number == n) (take_many k (take_field k) at end f.payload v.0) (take_many k (take_field k) c d f.payload v.0)
      (take_field rest at end f v.1) (take_field rest c d f v.1)
      (λ (x : List (Value k)). let r : List (Value k) × Value rest = (x, v.1) in r) (λ (x : Value rest). let r : List (Value k) × Value rest = (v.0, x) in r) w
      (λ x q. many_steady k a at end f.payload v.0 x q c d) (λ x q. b.steady at end f v.1 x q c d) e;
}
agrees s = record { hits = λ at end f v g e. absurd cc; misses = λ at end f v g e. absurd e; steady = λ at end f v w e c d. e }

-- ---- reading

-- an Err is the first fault
pub merge_err : (s : Shape) (u : Value s) (base : ℕ) (bytes : List ℕ) (g : Fault) → merge s u base bytes ≡ Err g → HasFault s base bytes g
merge_err s u base bytes g e = message_hits s (agrees s) base bytes u g e

-- and the first fault is the Err
pub merge_fault : (s : Shape) (u : Value s) (base : ℕ) (bytes : List ℕ) (g : Fault) → HasFault s base bytes g → merge s u base bytes ≡ Err g
merge_fault s u base bytes g h = message_misses s (agrees s) base bytes u g h

-- where a value is read, there is no fault
pub merge_ok : (s : Shape) (u v : Value s) (base : ℕ) (bytes : List ℕ) → merge s u base bytes ≡ Ok v → (g : Fault) → HasFault s base bytes g → ⊥
merge_ok s u v base bytes e g h = let f = merge_fault s u base bytes g h in absurd (cc (e, f))

-- and where there is none, a value is read
pub merge_sound : (s : Shape) (u : Value s) (base : ℕ) (bytes : List ℕ) → ((g : Fault) → HasFault s base bytes g → ⊥) → (v : Value s) × (merge s u base bytes ≡ Ok v)
merge_sound s u base bytes h = ok_from (merge s u base bytes) (λ g e. h g (merge_err s u base bytes g e))
