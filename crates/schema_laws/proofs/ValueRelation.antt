-- The value of a field list without a fault: the function against the relation.
use Rattle.std.proofs.Common.{◌≡◌, ℕ, ◌-◌, ◌%◌, Bool, true, false, cond, List, [], ◌∷◌, ◌++◌, length, map, Result, Ok, Err, refl, sym, ap, subst, ◌∙◌, inl, inr}
use Rattle.std.specs.Prelude.{◌⊎◌, ◌==◌}
use Rattle.std.specs.List.{flat_map}
use Rattle.std.proofs.lemmas.Bool.{eqb-false, cases_eq}
use Rattle.schema.specs.Field.{Field, Long, Payload, bytes_of}
use Rattle.schema.specs.Fault.{Fault, PackedLength, Reason, fault_at}
use Rattle.schema.specs.Decoding.{trace}
use Rattle.schema.specs.Shape.{Any, Bytes, End, Fixed, Format, I32, Index, IsMessage, Many, Number, NumberValue, One, Shape, Table, Text, Value, empty, number_from}
use Rattle.schema.specs.Merge.{merge, packed, take_field, merge_all}
use Rattle.schema.specs.Each.{Each}
use Rattle.schema.specs.Spelling.{Spells}
use Rattle.schema.specs.FirstFault.{BadPacked, FirstFault, Sound}
use Rattle.schema.specs.MessageFault.{FieldFault, ManyFault, OneFault}
use Rattle.schema.specs.RowValue.{BytesOf, FixedOf, MessagesOf, NumbersOf, bytes_in, fixed_in, number_in, of_number, others}
use Rattle.schema.specs.Value.{HasValue, IsRead, ManyValue, OneValue, IsReadInParts}
use Rattle.schema_laws.proofs.Lists.{each_append}
use Rattle.schema_laws.proofs.Traces.{fields}
use Rattle.schema_laws.proofs.FieldLists.{one_spelling, spells_append}
use Rattle.schema_laws.proofs.PackedNumbers.{packed_found, packed_right, one_numbers}
use Rattle.schema_laws.proofs.Agreement.{agrees}
use Rattle.schema_laws.proofs.Folds.{inside, messages_of}
use Rattle.schema_laws.proofs.RowByRow.{ok_or_none, numbers_of, fixed_of, texts_of, one_value, many_value, value, step_is, value_nil}
use Rattle.schema_laws.proofs.ReadValue.{value_from, value_to}
use Rattle.schema_laws.proofs.Last.{last_is, is_last}
use Rattle.schema_laws.proofs.Eights.{eights_right, eights_read}
use Rattle.schema_laws.proofs.Occurrences.{PayloadSound, number_sound, Gives, concats_to, concats_back}
use Rattle.schema.specs.AnyValue.{AnyValue}
use Rattle.schema.specs.AnyMerge.{any_levels}
use Rattle.schema.specs.AnyFaults.{AnyFault, LongFault}
use Rattle.schema.specs.AnyRead.{HasAny}
use Rattle.schema_laws.proofs.StepAgreement.{fields_sound}
use Rattle.schema_laws.proofs.AnyValues.{any_value}
use Rattle.schema_laws.proofs.AnyValueRelation.{any_elements, any_joined_back, any_joined_to}
use Rattle.schema.specs.Parts.{Part}
use Rattle.schema_laws.proofs.Parts.{ValueOver, all_from, all_to}

-- ---- what a sound field list says of the payloads of a row, and of the other fields

-- a fault of a row's payload, or of the rows after it
abbrev RowFault : ℕ → (ℕ → ℕ → Payload → Fault → Type 0) → (ℕ → ℕ → Field → Fault → Type 0) → ℕ → ℕ → Field → Fault → Type 0
RowFault n F Rest at end f g = ((f.number ≡ n) × F at end f.payload g) ⊎ (((f.number ≡ n) → ⊥) × Rest at end f g)

-- so have those of the row's number
here_sound : (n : ℕ) (F : ℕ → ℕ → Payload → Fault → Type 0) (Rest : ℕ → ℕ → Field → Fault → Type 0) (fs : List Field) → Each (Sound (RowFault n F Rest)) fs → Each (PayloadSound F) (of_number n fs)
here_sound n F Rest fs s = number_sound n F (RowFault n F Rest) (λ at end f h e i. inl (e, i)) fs s

-- the other fields have none for the rows after it, by the first field
there_step : (n : ℕ) (F : ℕ → ℕ → Payload → Fault → Type 0) (Rest : ℕ → ℕ → Field → Fault → Type 0) (f : Field) (fs : List Field) (t : Bool) → (t ≡ false → f.number ≡ n → ⊥)
    → Sound (RowFault n F Rest) f → Each (Sound Rest) fs → Each (Sound Rest) (cond t fs (f ∷ fs))
there_step n F Rest f fs true e sound more = more
there_step n F Rest f fs false e sound more = (λ at end h i. sound at end h (inr (e refl, i)), more)

-- the other fields have none for the rows after it
there_sound : (n : ℕ) (F : ℕ → ℕ → Payload → Fault → Type 0) (Rest : ℕ → ℕ → Field → Fault → Type 0) (fs : List Field) → Each (Sound (RowFault n F Rest)) fs → Each (Sound Rest) (others n fs)
there_sound n F Rest [] s = tt
there_sound n F Rest (f ∷ fs) s = there_step n F Rest f (others n fs) (f.number == n) (eqb-false f.number n) s.0 (there_sound n F Rest fs s.1)

-- ---- payloads of messages

-- a payload of a message without a fault spells the fields that are read
spelled_inside : (k : Shape) (b : List ℕ) → ((at end : ℕ) (h : Fault) → FirstFault (FieldFault k) (end - length b) b h → ⊥)
    → Spells b (fields (trace 0 b)) × Each (Sound (FieldFault k)) (fields (trace 0 b))
spelled_inside k b sound = fields_sound (take_field k) (FieldFault k) (agrees k) (empty k) b sound

-- the fault of a payload as a message
abbrev MessageFault : Shape → ℕ → ℕ → Payload → Fault → Type 0
MessageFault k at end (Long b) g = FirstFault (FieldFault k) (end - length b) b g
MessageFault k at end p g = ⊥

-- a payload without a fault spells the fields inside it
payload_spelled : (k : Shape) (p : Payload) → PayloadSound (MessageFault k) p → Spells (bytes_of p) (inside p) × Each (Sound (FieldFault k)) (inside p)
payload_spelled k (Long b) s = spelled_inside k b s
payload_spelled k p s = (refl, tt)

-- payloads without a fault, joined, spell the fields inside them
payloads_spelled : (k : Shape) (ps : List Payload) → Each (PayloadSound (MessageFault k)) ps → Spells (flat_map bytes_of ps) (flat_map inside ps) × Each (Sound (FieldFault k)) (flat_map inside ps)
payloads_spelled k [] s = (refl, tt)
payloads_spelled k (p ∷ ps) s =
    let a = payload_spelled k p s.0 in
    let b = payloads_spelled k ps s.1 in
    (spells_append (bytes_of p) (flat_map bytes_of ps) (inside p) (flat_map inside ps) a.0 b.0, each_append (Sound (FieldFault k)) (inside p) (flat_map inside ps) a.1 b.1)

-- fewer faults leave the payloads without one
sound_as : (F G : ℕ → ℕ → Payload → Fault → Type 0) → ((at end : ℕ) (p : Payload) (h : Fault) → G at end p h → F at end p h) → (ps : List Payload) → Each (PayloadSound F) ps → Each (PayloadSound G) ps
sound_as F G h [] s = tt
sound_as F G h (p ∷ ps) s = (λ at end g i. s.0 at end g (h at end p g i), sound_as F G h ps s.1)

-- a fault of a message is one of a singular row
one_is : (k : Shape) → IsMessage k → (at end : ℕ) (p : Payload) (h : Fault) → MessageFault k at end p h → OneFault k (FieldFault k) at end p h
one_is End m at end (Long b) h i = i
one_is (One n k rest) m at end (Long b) h i = i
one_is (Many n k rest) m at end (Long b) h i = i
one_is k m at end (Long b) h i = absurd m
one_is k m at end p h i = absurd i

-- and of a repeated one
many_is : (k : Shape) → IsMessage k → (at end : ℕ) (p : Payload) (h : Fault) → MessageFault k at end p h → ManyFault k (FieldFault k) at end p h
many_is End m at end (Long b) h i = i
many_is (One n k rest) m at end (Long b) h i = i
many_is (Many n k rest) m at end (Long b) h i = i
many_is k m at end (Long b) h i = absurd m
many_is k m at end p h i = absurd i

-- payloads of a singular row as those of a message
as_one : (k : Shape) → IsMessage k → (ps : List Payload) → Each (PayloadSound (OneFault k (FieldFault k))) ps → Each (PayloadSound (MessageFault k)) ps
as_one k m ps s = sound_as (OneFault k (FieldFault k)) (MessageFault k) (one_is k m) ps s

-- payloads of a repeated row as those of messages
as_many : (k : Shape) → IsMessage k → (ps : List Payload) → Each (PayloadSound (ManyFault k (FieldFault k))) ps → Each (PayloadSound (MessageFault k)) ps
as_many k m ps s = sound_as (ManyFault k (FieldFault k)) (MessageFault k) (many_is k m) ps s

-- ---- singular rows

-- the function and the relation agree on field lists without a fault
pub record Same (s : Shape) : Type 0 where
  pub to : (u v : Value s) (fs : List Field) → Each (Sound (FieldFault s)) fs → v ≡ value s u fs → HasValue s u fs v
  pub back : (u v : Value s) (fs : List Field) → Each (Sound (FieldFault s)) fs → HasValue s u fs v → v ≡ value s u fs

-- the value of the fields inside is that of the joined payloads
joined_to : (k : Shape) → Same k → (ps : List Payload) → Each (PayloadSound (MessageFault k)) ps → (u v : Value k) → v ≡ value k u (flat_map inside ps)
    → (fs : List Field) × Spells (flat_map bytes_of ps) fs × HasValue k u fs v
joined_to k same ps s u v e = let p = payloads_spelled k ps s in (flat_map inside ps, p.0, same.to u v (flat_map inside ps) p.1 e)

-- and the other way
joined_back : (k : Shape) → Same k → (ps : List Payload) → Each (PayloadSound (MessageFault k)) ps → (u v : Value k)
    → (fs : List Field) × Spells (flat_map bytes_of ps) fs × HasValue k u fs v → v ≡ value k u (flat_map inside ps)
joined_back k same ps s u v r =
    let p = payloads_spelled k ps s in
    same.back u v (flat_map inside ps) p.1 (subst (λ (fs : List Field). HasValue k u fs v) (one_spelling (flat_map bytes_of ps) r.0 (flat_map inside ps) r.1 p.0) r.2)

-- a singular row of any shape
one_to : (k : Shape) → Same k → (ps : List Payload) → Each (PayloadSound (OneFault k (FieldFault k))) ps → (u v : Value k) → v ≡ one_value k (value k) ps u → OneValue k (HasValue k) ps u v
one_to (Number w) same ps s u v e = is_last (number_in w) ps u v e
one_to (Index T entry) same ps s u v e = is_last (number_in I32) ps u v e
one_to Fixed same ps s u v e = is_last fixed_in ps u v e
one_to Bytes same ps s u v e = is_last bytes_in ps u v e
one_to Text same ps s u v e = is_last bytes_in ps u v e
one_to (Any depth) same ps s u v e = any_joined_to (any_levels depth) ps s u v e
one_to k same ps s u v e = joined_to k same ps (as_one k tt ps s) u v e

-- and the other way
one_back : (k : Shape) → Same k → (ps : List Payload) → Each (PayloadSound (OneFault k (FieldFault k))) ps → (u v : Value k) → OneValue k (HasValue k) ps u v → v ≡ one_value k (value k) ps u
one_back (Number w) same ps s u v e = last_is (number_in w) ps u v e
one_back (Index T entry) same ps s u v e = last_is (number_in I32) ps u v e
one_back Fixed same ps s u v e = last_is fixed_in ps u v e
one_back Bytes same ps s u v e = last_is bytes_in ps u v e
one_back Text same ps s u v e = last_is bytes_in ps u v e
one_back (Any depth) same ps s u v e = any_joined_back (any_levels depth) ps s u v e
one_back k same ps s u v e = joined_back k same ps (as_one k tt ps s) u v e

-- ---- repeated rows

-- packed numbers; the fault of an index is that of its number
abbrev PackedFault : ℕ → ℕ → Payload → Fault → Type 0
PackedFault at end (Long b) g = BadPacked b g.reason × (g.place ≡ at)
PackedFault at end p g = ⊥

-- a packed payload of numbers
number_is : (w : Format) (at end : ℕ) (p : Payload) (h : Fault) → PackedFault at end p h → ManyFault (Number w) (FieldFault (Number w)) at end p h
number_is w at end (Long b) h i = i
number_is w at end p h i = absurd i

-- and of indexes
index_is : (T : Table) (entry : Shape) (at end : ℕ) (p : Payload) (h : Fault) → PackedFault at end p h → ManyFault (Index T entry) (FieldFault (Index T entry)) at end p h
index_is T entry at end (Long b) h i = i
index_is T entry at end p h i = absurd i

-- a packed payload without a fault is read
packed_sound : (w : Format) (b : List ℕ) → (r : Result (List (NumberValue w)) Reason) → packed w b ≡ r → PayloadSound PackedFault (Long b) → packed w b ≡ Ok (ok_or_none r)
packed_sound w b (Ok vs) e s = e
packed_sound w b (Err r) e s = absurd (s 0 0 (fault_at 0 r) (packed_found w b r e, refl))

-- the numbers of an occurrence
numbers_to : (w : Format) (p : Payload) → PayloadSound PackedFault p → NumbersOf w p (numbers_of w p)
numbers_to w (Long b) s = packed_right w b (ok_or_none (packed w b)) (packed_sound w b (packed w b) refl s)
numbers_to w p s = refl

-- and the other way
numbers_back : (w : Format) (p : Payload) (one : List (NumberValue w)) → PayloadSound PackedFault p → NumbersOf w p one → one ≡ numbers_of w p
numbers_back w (Long b) one s e =
    let r = packed_right w b (ok_or_none (packed w b)) (packed_sound w b (packed w b) refl s) in
    e.2 ∙ ap (map (number_from w)) (one_numbers b e.0 r.0 e.1 r.1) ∙ sym r.2
numbers_back w p one s e = e

-- the elements of repeated numbers
numbers : (w : Format) → Gives PackedFault (NumbersOf w) (numbers_of w)
numbers w = record { to = numbers_to w; back = numbers_back w }

-- packed eight-byte values
abbrev FixedFault : ℕ → ℕ → Payload → Fault → Type 0
FixedFault at end p g = ManyFault Fixed (FieldFault Fixed) at end p g

-- without a fault the length is a multiple of 8
whole_eights : (b : List ℕ) → PayloadSound FixedFault (Long b) → length b % 8 ≡ 0
whole_eights b s = elim (cases_eq (length b % 8) 0) [ inl e ↦ e | inr ne ↦ absurd (s 0 0 (fault_at 0 PackedLength) (ne, refl)) ]

-- the values of an occurrence
fixed_to : (p : Payload) → PayloadSound FixedFault p → FixedOf p (fixed_of p)
fixed_to (Long b) s = eights_right b (whole_eights b s)
fixed_to p s = refl

-- and the other way
fixed_back : (p : Payload) (one : List ℕ) → PayloadSound FixedFault p → FixedOf p one → one ≡ fixed_of p
fixed_back (Long b) one s e = e.2 ∙ sym (eights_read b e.0 e.1)
fixed_back p one s e = e

-- the elements of repeated eight-byte values
fixed : Gives FixedFault FixedOf fixed_of
fixed = record { to = fixed_to; back = fixed_back }

-- bytes, and texts
texts_to : (p : Payload) → BytesOf p (texts_of p)
texts_to (Long b) = refl
texts_to p = refl

-- and the other way
texts_back : (p : Payload) (one : List (List ℕ)) → BytesOf p one → one ≡ texts_of p
texts_back (Long b) one e = e
texts_back p one e = e

-- the elements of repeated bytes and texts
texts : (F : ℕ → ℕ → Payload → Fault → Type 0) → Gives F BytesOf texts_of
texts F = record { to = λ p s. texts_to p; back = λ p one s e. texts_back p one e }

-- messages
messages_to : (k : Shape) → Same k → (p : Payload) → PayloadSound (MessageFault k) p → MessagesOf (HasValue k (empty k)) p (messages_of (value k (empty k)) p)
messages_to k same (Long b) s =
    let p = spelled_inside k b s in
    (fields (trace 0 b), value k (empty k) (fields (trace 0 b)), p.0, same.to (empty k) (value k (empty k) (fields (trace 0 b))) (fields (trace 0 b)) p.1 refl, refl)
messages_to k same p s = refl

-- and the other way
messages_back : (k : Shape) → Same k → (p : Payload) (one : List (Value k)) → PayloadSound (MessageFault k) p → MessagesOf (HasValue k (empty k)) p one → one ≡ messages_of (value k (empty k)) p
messages_back k same (Long b) one s r =
    let p = spelled_inside k b s in
    let h = subst (λ (fs : List Field). HasValue k (empty k) fs r.1) (one_spelling b r.0 (fields (trace 0 b)) r.2 p.0) r.3 in
    r.4 ∙ ap (λ (v : Value k). v ∷ []) (same.back (empty k) r.1 (fields (trace 0 b)) p.1 h)
messages_back k same p one s e = e

-- the elements of repeated messages
messages : (k : Shape) → Same k → Gives (MessageFault k) (MessagesOf (HasValue k (empty k))) (messages_of (value k (empty k)))
messages k same = record { to = messages_to k same; back = messages_back k same }

-- a repeated row of any shape
many_to : (k : Shape) → Same k → (ps : List Payload) → Each (PayloadSound (ManyFault k (FieldFault k))) ps → (vs : List (Value k)) → vs ≡ many_value k (value k) ps → ManyValue k (HasValue k) ps vs
many_to (Number w) same ps s vs e = concats_to PackedFault (NumbersOf w) (numbers_of w) (numbers w) ps (sound_as (ManyFault (Number w) (FieldFault (Number w))) PackedFault (number_is w) ps s) vs e
many_to (Index T entry) same ps s vs e = concats_to PackedFault (NumbersOf I32) (numbers_of I32) (numbers I32) ps (sound_as (ManyFault (Index T entry) (FieldFault (Index T entry))) PackedFault (index_is T entry) ps s) vs e
many_to Fixed same ps s vs e = concats_to FixedFault FixedOf fixed_of fixed ps s vs e
many_to Bytes same ps s vs e = concats_to (ManyFault Bytes (FieldFault Bytes)) BytesOf texts_of (texts (ManyFault Bytes (FieldFault Bytes))) ps s vs e
many_to Text same ps s vs e = concats_to (ManyFault Text (FieldFault Text)) BytesOf texts_of (texts (ManyFault Text (FieldFault Text))) ps s vs e
many_to (Any depth) same ps s vs e = concats_to (LongFault (AnyFault (any_levels depth))) (MessagesOf (HasAny (any_levels depth) AnyValue.Empty)) (messages_of (any_value (any_levels depth) AnyValue.Empty)) (any_elements (any_levels depth)) ps s vs e
many_to k same ps s vs e = concats_to (MessageFault k) (MessagesOf (HasValue k (empty k))) (messages_of (value k (empty k))) (messages k same) ps (as_many k tt ps s) vs e

-- and the other way
many_back : (k : Shape) → Same k → (ps : List Payload) → Each (PayloadSound (ManyFault k (FieldFault k))) ps → (vs : List (Value k)) → ManyValue k (HasValue k) ps vs → vs ≡ many_value k (value k) ps
many_back (Number w) same ps s vs e = concats_back PackedFault (NumbersOf w) (numbers_of w) (numbers w) ps (sound_as (ManyFault (Number w) (FieldFault (Number w))) PackedFault (number_is w) ps s) vs e
many_back (Index T entry) same ps s vs e = concats_back PackedFault (NumbersOf I32) (numbers_of I32) (numbers I32) ps (sound_as (ManyFault (Index T entry) (FieldFault (Index T entry))) PackedFault (index_is T entry) ps s) vs e
many_back Fixed same ps s vs e = concats_back FixedFault FixedOf fixed_of fixed ps s vs e
many_back Bytes same ps s vs e = concats_back (ManyFault Bytes (FieldFault Bytes)) BytesOf texts_of (texts (ManyFault Bytes (FieldFault Bytes))) ps s vs e
many_back Text same ps s vs e = concats_back (ManyFault Text (FieldFault Text)) BytesOf texts_of (texts (ManyFault Text (FieldFault Text))) ps s vs e
many_back (Any depth) same ps s vs e = concats_back (LongFault (AnyFault (any_levels depth))) (MessagesOf (HasAny (any_levels depth) AnyValue.Empty)) (messages_of (any_value (any_levels depth) AnyValue.Empty)) (any_elements (any_levels depth)) ps s vs e
many_back k same ps s vs e = concats_back (MessageFault k) (MessagesOf (HasValue k (empty k))) (messages_of (value k (empty k))) (messages k same) ps (as_many k tt ps s) vs e

-- ---- messages

-- the function and the relation agree for each shape
pub same : (s : Shape) → Same s
same (One n k rest) = let a = same k in let b = same rest in record {
  to = λ u v fs s e. (
    one_to k a (of_number n fs) (here_sound n (OneFault k (FieldFault k)) (FieldFault rest) fs s) u.0 v.0 (ap (λ (x : Value k × Value rest). x.0) e),
    b.to u.1 v.1 (others n fs) (there_sound n (OneFault k (FieldFault k)) (FieldFault rest) fs s) (ap (λ (x : Value k × Value rest). x.1) e),
  );
  back = λ u v fs s h.
      let p = one_back k a (of_number n fs) (here_sound n (OneFault k (FieldFault k)) (FieldFault rest) fs s) u.0 v.0 h.0 in
      let q = b.back u.1 v.1 (others n fs) (there_sound n (OneFault k (FieldFault k)) (FieldFault rest) fs s) h.1 in
      ap (λ (x : Value k). let r : Value k × Value rest = (x, v.1) in r) p ∙ ap (λ (x : Value rest). let r : Value k × Value rest = (one_value k (value k) (of_number n fs) u.0, x) in r) q;
}
same (Many n k rest) = let a = same k in let b = same rest in record {
  to = λ u v fs s e. (
    many_value k (value k) (of_number n fs),
    many_to k a (of_number n fs) (here_sound n (ManyFault k (FieldFault k)) (FieldFault rest) fs s) (many_value k (value k) (of_number n fs)) refl,
    ap (λ (x : List (Value k) × Value rest). x.0) e,
    b.to u.1 v.1 (others n fs) (there_sound n (ManyFault k (FieldFault k)) (FieldFault rest) fs s) (ap (λ (x : List (Value k) × Value rest). x.1) e),
  );
  back = λ u v fs s h.
      let p = h.2 ∙ ap (λ (x : List (Value k)). u.0 ++ x) (many_back k a (of_number n fs) (here_sound n (ManyFault k (FieldFault k)) (FieldFault rest) fs s) h.0 h.1) in
      let q = b.back u.1 v.1 (others n fs) (there_sound n (ManyFault k (FieldFault k)) (FieldFault rest) fs s) h.3 in
      ap (λ (x : List (Value k)). let r : List (Value k) × Value rest = (x, v.1) in r) p ∙ ap (λ (x : Value rest). let r : List (Value k) × Value rest = (u.0 ++ many_value k (value k) (of_number n fs), x) in r) q;
}
same s = record { to = λ u v fs s e. e; back = λ u v fs s e. e }

-- ---- reading

-- an Ok is the message value
pub read_from : (s : Shape) (u v : Value s) (base : ℕ) (bytes : List ℕ) → merge s u base bytes ≡ Ok v → IsRead s u bytes v
read_from s u v base bytes e =
    let w = value_from s u v base bytes e in
    let a = same s in
    record { fields = w.0; spelled = w.1; sound = w.2; value = a.to u v w.0 w.2 w.3 }

-- and the message value is the Ok
pub read_to : (s : Shape) (u v : Value s) (base : ℕ) (bytes : List ℕ) → IsRead s u bytes v → merge s u base bytes ≡ Ok v
read_to s u v base bytes r = let a = same s in value_to s u v base bytes r.fields r.spelled r.sound (a.back u v r.fields r.sound r.value)

-- ---- parts

-- the value row by row is that of fields of which each is taken
value_over : (s : Shape) → ValueOver (take_field s) (FieldFault s) (agrees s) (value s)
value_over s = (value_nil s, step_is s)

-- an Ok is the value of the parts
pub parts_from : (s : Shape) (u v : Value s) (parts : List Part) → merge_all s u parts ≡ Ok v → IsReadInParts s u parts v
parts_from s u v parts e =
    let r = all_from (take_field s) (FieldFault s) (agrees s) (value s) (value_over s) u v parts e in
    let a = same s in
    record { fields = r.fields; spelled = r.spelled; sound = r.sound; value = a.to u v r.fields r.sound r.value }

-- and the value of the parts is the Ok
pub parts_to : (s : Shape) (u v : Value s) (parts : List Part) → IsReadInParts s u parts v → merge_all s u parts ≡ Ok v
parts_to s u v parts r =
    let a = same s in
    all_to (take_field s) (FieldFault s) (agrees s) (value s) (value_over s) u v parts r.fields r.spelled r.sound (a.back u v r.fields r.sound r.value)
