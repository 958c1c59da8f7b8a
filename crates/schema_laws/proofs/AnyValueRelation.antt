-- The value of an AnyValue without a fault: the function against the relation.
use Rattle.std.proofs.Common.{◌≡◌, ℕ, zero, suc, ◌-◌, Bool, true, false, cond, List, [], ◌∷◌, ◌++◌, length, Option, Some, None, Result, Ok, Err, refl, sym, ap, subst, ◌∙◌, arith, append_assoc, inl, inr}
use Rattle.std.specs.Prelude.{◌⊎◌, ◌==◌}
use Rattle.std.specs.List.{flat_map}
use Rattle.std.proofs.lemmas.Bool.{cases_eq}
use Rattle.std.proofs.lemmas.Grind.{flat_map-append}
use Rattle.std.proofs.lemmas.List.{append-nil}
use Rattle.schema.specs.Field.{Field, Long, Payload, bytes_of}
use Rattle.schema.specs.Fault.{Fault, TooDeep, fault_at}
use Rattle.schema.specs.Each.{Each}
use Rattle.schema.specs.FirstFault.{Sound}
use Rattle.schema.specs.Run.{run}
use Rattle.schema.specs.Decoding.{trace}
use Rattle.schema.specs.Spelling.{Spells}
use Rattle.schema.specs.RowValue.{JoinedOf, Concats, MessagesOf, bytes_in, of_number}
use Rattle.schema.specs.AnyValue.{AnyValue, KeyValue, items, items_in, pairs, pairs_in}
use Rattle.schema.specs.AnyMember.{ItemsIn, Member, PairsIn, and_member, member_in, members, message_of, number_of}
use Rattle.schema.specs.AnyMerge.{item_at, merge_any, pair_at, take_element, take_member, take_pair, merge_any_all}
use Rattle.schema.specs.AnyFaults.{AnyFault, ElementFault, IfMember, InMember, InPair, LongFault, MemberFault, PairFault}
use Rattle.schema.specs.AnyRead.{HasAny, IsReadAny, ItemsOf, LastRun, MembersSay, OtherLast, PairOf, PairsOf, RunSays, begins_from, IsReadAnyInParts}
use Rattle.schema_laws.proofs.Traces.{fields}
use Rattle.schema_laws.proofs.FieldLists.{one_spelling, spells_append, fields_spelled}
use Rattle.schema_laws.proofs.StepFaults.{all_read, whole}
use Rattle.schema_laws.proofs.Lists.{each_append, each_right}
use Rattle.schema_laws.proofs.Last.{last_is, is_last}
use Rattle.schema_laws.proofs.Folds.{inside, last_said, messages_of}
use Rattle.schema_laws.proofs.StepAgreement.{ok_from, StepAgrees, BytesSound, fields_sound}
use Rattle.schema_laws.proofs.Occurrences.{PayloadSound, concats_back, concats_to, number_sound, Gives}
use Rattle.schema_laws.proofs.AnyLists.{list_back, pair_list_back}
use Rattle.schema_laws.proofs.AnyAgreement.{any_agrees, elements_agree, in_pair_agrees, member_agrees, pair_agrees}
use Rattle.schema_laws.proofs.AnyValues.{any_gives, any_nil, any_value, elements_value, over, pair_value, put_value, step_gives}
use Rattle.schema.specs.Parts.{FaultInParts, Part}
use Rattle.schema_laws.proofs.Parts.{ValueOver, all_from, all_to, parts_bad, parts_found}

-- ---- lists of elements

-- the relation of an element and the function agree on a payload without a fault
pub record ElementSame {A : Type 0} (Element : ℕ → ℕ → List ℕ → Fault → Type 0) (Is : List Field → A → Type 0) (one : List Field → A) : Type 0 where
  pub spelled : (b : List ℕ) → BytesSound Element b → Spells b (fields (trace 0 b))
  pub to : (b : List ℕ) → BytesSound Element b → Is (fields (trace 0 b)) (one (fields (trace 0 b)))
  pub back : (b : List ℕ) (x : A) → BytesSound Element b → Is (fields (trace 0 b)) x → x ≡ one (fields (trace 0 b))

module _ {A : Type 0} (Element : ℕ → ℕ → List ℕ → Fault → Type 0) (Is : List Field → A → Type 0) (one : List Field → A) (same : ElementSame Element Is one) where
  -- the element of a payload
  one_to : (p : Payload) → PayloadSound (LongFault Element) p → MessagesOf Is p (messages_of one p)
  one_to (Long b) s = (fields (trace 0 b), one (fields (trace 0 b)), same.spelled b s, same.to b s, refl)
  one_to p s = refl

  -- and the other way
  one_back : (p : Payload) (xs : List A) → PayloadSound (LongFault Element) p → MessagesOf Is p xs → xs ≡ messages_of one p
  one_back (Long b) xs s r =
      let h = subst (λ (fs : List Field). Is fs r.1) (one_spelling b r.0 (fields (trace 0 b)) r.2 (same.spelled b s)) r.3 in
      r.4 ∙ ap (λ (x : A). x ∷ []) (same.back b r.1 s h)
  one_back p xs s e = e

  -- the elements of payloads
  pub elements_same : Gives (LongFault Element) (MessagesOf Is) (messages_of one)
  elements_same = record { to = one_to; back = one_back }

  -- the payloads of elements have no fault
  elements_sound : (fs : List Field) → Each (Sound (ElementFault Element)) fs → Each (PayloadSound (LongFault Element)) (of_number 1 fs)
  elements_sound fs s = number_sound 1 (LongFault Element) (ElementFault Element) (λ at end f h e i. (e, i)) fs s

  -- the elements of fields
  elements_to : (fs : List Field) → Each (Sound (ElementFault Element)) fs → Concats (MessagesOf Is) (of_number 1 fs) (elements_value one fs)
  elements_to fs s = concats_to (LongFault Element) (MessagesOf Is) (messages_of one) elements_same (of_number 1 fs) (elements_sound fs s) (elements_value one fs) refl

  -- and the other way
  elements_back : (fs : List Field) (xs : List A) → Each (Sound (ElementFault Element)) fs → Concats (MessagesOf Is) (of_number 1 fs) xs → xs ≡ elements_value one fs
  elements_back fs xs s c = concats_back (LongFault Element) (MessagesOf Is) (messages_of one) elements_same (of_number 1 fs) (elements_sound fs s) xs c

-- a payload in front of two lists
in_front : {A : Type 0} (t : Bool) (p : A) (xs ys : List A) → cond t (p ∷ (xs ++ ys)) (xs ++ ys) ≡ cond t (p ∷ xs) xs ++ ys
in_front true p xs ys = refl
in_front false p xs ys = refl

-- the payloads of two field lists
numbers_join : (n : ℕ) (fs gs : List Field) → of_number n (fs ++ gs) ≡ of_number n fs ++ of_number n gs
numbers_join n [] gs = refl
numbers_join n (f ∷ fs) gs =
    ap (λ (ps : List Payload). cond (f.number == n) (f.payload ∷ ps) ps) (numbers_join n fs gs) ∙ in_front (f.number == n) f.payload (of_number n fs) (of_number n gs)

-- and their elements
elements_join : {A : Type 0} (one : List Field → A) (fs gs : List Field) → elements_value one (fs ++ gs) ≡ elements_value one fs ++ elements_value one gs
elements_join one fs gs = ap (flat_map (messages_of one)) (numbers_join 1 fs gs) ∙ flat_map-append (messages_of one) (of_number 1 fs) (of_number 1 gs)

-- ---- runs

-- a member in front of a run
run_behind : (m : Member) (ms before front : List Member) (last : Member) → ms ≡ before ++ (front ++ last ∷ []) → Each (λ k. number_of k ≡ number_of last) front
    → OtherLast (number_of last) before → LastRun (m ∷ ms)
run_behind m ms [] front last is same other = elim (cases_eq (number_of m) (number_of last)) [
  | inl e ↦ record { before = []; front = m ∷ front; last = last; is = ap (λ (l : List Member). m ∷ l) is; one_number = (e, same); other = tt }
  | inr ne ↦ record { before = m ∷ []; front = front; last = last; is = ap (λ (l : List Member). m ∷ l) is; one_number = same; other = ne }
]
run_behind m ms (k ∷ before) front last is same other =
    record { before = m ∷ (k ∷ before); front = front; last = last; is = ap (λ (l : List Member). m ∷ l) is; one_number = same; other = other }

-- a member in front of members
run_of : (m : Member) (ms : List Member) → (ms ≡ []) ⊎ LastRun ms → LastRun (m ∷ ms)
run_of m ms (inl e) = record { before = []; front = []; last = m; is = ap (λ (l : List Member). m ∷ l) e; one_number = tt; other = tt }
run_of m ms (inr r) = run_behind m ms r.before r.front r.last r.is r.one_number r.other

-- there is a last run where there is a member
last_run : (ms : List Member) → (ms ≡ []) ⊎ LastRun ms
last_run [] = inl refl
last_run (m ∷ ms) = inr (run_of m ms (last_run ms))

-- members that are put one after the other
over_append : (put : Member → AnyValue → AnyValue) (u : AnyValue) (xs ys : List Member) → over put u (xs ++ ys) ≡ over put (over put u xs) ys
over_append put u [] ys = refl
over_append put u (x ∷ xs) ys = over_append put (put x u) xs ys

-- up to the last one
over_run : (put : Member → AnyValue → AnyValue) (u : AnyValue) (ms before front : List Member) (last : Member) → ms ≡ before ++ (front ++ last ∷ [])
    → over put u ms ≡ put last (over put (over put u before) front)
over_run put u ms before front last is = ap (over put u) is ∙ over_append put u before (front ++ last ∷ []) ∙ over_append put (over put u before) front (last ∷ [])

-- the fields of a member that is a message
abbrev fields_in : Member → List Field
fields_in m = fields (trace 0 (message_of m))

-- the joined payloads of a run spell the fields of its members
run_spelled : (Good : Member → Type 0) (Inside : ℕ → ℕ → Field → Fault → Type 0) (n : ℕ)
    → ((m : Member) → number_of m ≡ n → Good m → Spells (message_of m) (fields_in m) × Each (Sound Inside) (fields_in m))
    → (run : List Member) → Each (λ m. number_of m ≡ n) run → Each Good run → Spells (flat_map message_of run) (flat_map fields_in run) × Each (Sound Inside) (flat_map fields_in run)
run_spelled Good Inside n h [] same good = (refl, tt)
run_spelled Good Inside n h (m ∷ run) same good =
    let a = h m same.0 good.0 in
    let b = run_spelled Good Inside n h run same.1 good.1 in
    (spells_append (message_of m) (flat_map message_of run) (fields_in m) (flat_map fields_in run) a.0 b.0, each_append (Sound Inside) (fields_in m) (flat_map fields_in run) a.1 b.1)

-- A member that is a message has the number n. A value that is this member has elements, which another member loses.
module _ {A : Type 0} (put : Member → AnyValue → AnyValue) (n : ℕ) (unwrap : AnyValue → List A) (E : List Field → List A)
    (joins : (fs gs : List Field) → E (fs ++ gs) ≡ E fs ++ E gs) (nothing : E [] ≡ []) (start : unwrap AnyValue.Empty ≡ [])
    (gains : (m : Member) → number_of m ≡ n → (w : AnyValue) → unwrap (put m w) ≡ unwrap w ++ E (fields_in m))
    (loses : (m : Member) → (number_of m ≡ n → ⊥) → (w : AnyValue) → unwrap (put m w) ≡ []) where
  -- a run of it gains the elements of all its fields
  after_front : (front : List Member) → Each (λ m. number_of m ≡ n) front → (w : AnyValue) → unwrap (over put w front) ≡ unwrap w ++ E (flat_map fields_in front)
  after_front [] same w = sym (append-nil (unwrap w)) ∙ ap (λ (xs : List A). unwrap w ++ xs) (sym nothing)
  after_front (m ∷ front) same w =
      after_front front same.1 (put m w) ∙ ap (λ (xs : List A). xs ++ E (flat_map fields_in front)) (gains m same.0 w)
      ∙ append_assoc (unwrap w) (E (fields_in m)) (E (flat_map fields_in front)) ∙ ap (λ (xs : List A). unwrap w ++ xs) (sym (joins (fields_in m) (flat_map fields_in front)))

  -- and begins anew after another member
  after_before : (before : List Member) → OtherLast n before → (u : AnyValue) → unwrap (over put u before) ≡ unwrap (begins_from before u)
  after_before [] other u = refl
  after_before (m ∷ []) other u = loses m other u ∙ sym start
  after_before (m ∷ (k ∷ ms)) other u = after_before (k ∷ ms) other (put m u)

  -- the last one included
  run_gains : (before front : List Member) (last : Member) → OtherLast n before → Each (λ m. number_of m ≡ n) front → (u : AnyValue)
      → unwrap (over put (over put u before) front) ++ E (fields_in last) ≡ unwrap (begins_from before u) ++ E (flat_map fields_in (front ++ last ∷ []))
  run_gains before front last other same u =
      let x = unwrap (begins_from before u) in
      let fs = flat_map fields_in front in
      let gs = fields_in last in
      let e : fs ++ gs ≡ flat_map fields_in (front ++ last ∷ []) = ap (λ (y : List Field). fs ++ y) (sym (append-nil gs)) ∙ sym (flat_map-append fields_in front (last ∷ [])) in
      ap (λ (xs : List A). xs ++ E gs) (after_front front same (over put u before) ∙ ap (λ (xs : List A). xs ++ E fs) (after_before before other u))
      ∙ append_assoc x (E fs) (E gs) ∙ ap (λ (xs : List A). x ++ xs) (sym (joins fs gs) ∙ ap E e)

-- ---- levels

-- the fields of an AnyValue have no fault
abbrev pub FieldsSound : ℕ → List Field → Type 0
FieldsSound zero fs = fs ≡ []
FieldsSound (suc left) fs = Each (Sound (MemberFault (AnyFault left))) fs

-- those of two have none
sound_join : (left : ℕ) (fs gs : List Field) → FieldsSound left fs → FieldsSound left gs → FieldsSound left (fs ++ gs)
sound_join zero fs gs a b = ap (λ (x : List Field). x ++ gs) a ∙ b
sound_join (suc left) fs gs a b = each_append (Sound (MemberFault (AnyFault left))) fs gs a b

-- no fields have none
sound_none : (left : ℕ) → FieldsSound left []
sound_none zero = refl
sound_none (suc left) = tt

-- the function and the relation agree on payloads and fields without a fault
pub record Same (left : ℕ) : Type 0 where
  pub spelled : (b : List ℕ) → BytesSound (AnyFault left) b → Spells b (fields (trace 0 b)) × FieldsSound left (fields (trace 0 b))
  pub to : (u : AnyValue) (fs : List Field) → FieldsSound left fs → HasAny left u fs (any_value left u fs)
  pub back : (u v : AnyValue) (fs : List Field) → FieldsSound left fs → HasAny left u fs v → v ≡ any_value left u fs

module _ (left : ℕ) (same : Same left) where
  -- an element of an ArrayValue
  pub item_same : ElementSame (AnyFault left) (HasAny left AnyValue.Empty) (any_value left AnyValue.Empty)
  item_same = record {
    spelled = λ b s. let p = same.spelled b s in p.0;
    to = λ b s. let p = same.spelled b s in same.to AnyValue.Empty (fields (trace 0 b)) p.1;
    back = λ b x s h. let p = same.spelled b s in same.back AnyValue.Empty x (fields (trace 0 b)) p.1 h;
  }

  -- the payload of a value after a key
  value_spelled : (p : Payload) → PayloadSound (LongFault (AnyFault left)) p → Spells (bytes_of p) (inside p) × FieldsSound left (inside p)
  value_spelled (Long b) s = same.spelled b s
  value_spelled p s = (refl, sound_none left)

  -- such payloads, joined
  pub values_joined : (ps : List Payload) → Each (PayloadSound (LongFault (AnyFault left))) ps → Spells (flat_map bytes_of ps) (flat_map inside ps) × FieldsSound left (flat_map inside ps)
  values_joined [] s = (refl, sound_none left)
  values_joined (p ∷ ps) s =
      let a = value_spelled p s.0 in
      let b = values_joined ps s.1 in
      (spells_append (bytes_of p) (flat_map bytes_of ps) (inside p) (flat_map inside ps) a.0 b.0, sound_join left (inside p) (flat_map inside ps) a.1 b.1)

  -- the value of the fields inside is that of the joined payloads
  value_to : (ps : List Payload) → Each (PayloadSound (LongFault (AnyFault left))) ps → (u v : AnyValue) → v ≡ any_value left u (flat_map inside ps) → JoinedOf (HasAny left) ps u v
  value_to ps s u v e =
      let p = values_joined ps s in
      (flat_map inside ps, p.0, subst (HasAny left u (flat_map inside ps)) (sym e) (same.to u (flat_map inside ps) p.1))

  -- and the other way
  value_back : (ps : List Payload) → Each (PayloadSound (LongFault (AnyFault left))) ps → (u v : AnyValue) → JoinedOf (HasAny left) ps u v → v ≡ any_value left u (flat_map inside ps)
  value_back ps s u v r =
      let p = values_joined ps s in
      same.back u v (flat_map inside ps) p.1 (subst (λ (fs : List Field). HasAny left u fs v) (one_spelling (flat_map bytes_of ps) r.0 (flat_map inside ps) r.1 p.0) r.2)

  -- the payloads of the value after a key
  pair_sound : (fs : List Field) → Each (Sound (PairFault (AnyFault left))) fs → Each (PayloadSound (LongFault (AnyFault left))) (of_number 2 fs)
  pair_sound fs s = number_sound 2 (LongFault (AnyFault left)) (PairFault (AnyFault left)) (λ at end f h e i. inr (e, i)) fs s

  -- a key and its value
  pair_to : (u : KeyValue) (fs : List Field) → Each (Sound (PairFault (AnyFault left))) fs → PairOf (HasAny left) u fs (pair_value (any_value left) u fs)
  pair_to u fs s = (
    is_last bytes_in (of_number 1 fs) u.0 (last_said bytes_in (of_number 1 fs) u.0) refl,
    value_to (of_number 2 fs) (pair_sound fs s) u.1 (any_value left u.1 (flat_map inside (of_number 2 fs))) refl,
  )

  -- and the other way
  pair_back : (u v : KeyValue) (fs : List Field) → Each (Sound (PairFault (AnyFault left))) fs → PairOf (HasAny left) u fs v → v ≡ pair_value (any_value left) u fs
  pair_back u v fs s r =
      ap (λ (k : List ℕ). let w : KeyValue = (k, v.1) in w) (last_is bytes_in (of_number 1 fs) u.0 v.0 r.0)
      ∙ ap (λ (x : AnyValue). let w : KeyValue = (last_said bytes_in (of_number 1 fs) u.0, x) in w) (value_back (of_number 2 fs) (pair_sound fs s) u.1 v.1 r.1)

  -- the payload of a key and its value
  pair_fields : (b : List ℕ) → BytesSound (InPair (AnyFault left)) b → Spells b (fields (trace 0 b)) × Each (Sound (PairFault (AnyFault left))) (fields (trace 0 b))
  pair_fields b s = fields_sound (take_pair (merge_any left)) (PairFault (AnyFault left)) (pair_agrees (merge_any left) (AnyFault left) (any_agrees left)) ([], AnyValue.Empty) b s

  -- an element of a KeyValueList
  pair_same : ElementSame (InPair (AnyFault left)) (PairOf (HasAny left) ([], AnyValue.Empty)) (pair_value (any_value left) ([], AnyValue.Empty))
  pair_same = record {
    spelled = λ b s. let p = pair_fields b s in p.0;
    to = λ b s. let p = pair_fields b s in pair_to ([], AnyValue.Empty) (fields (trace 0 b)) p.1;
    back = λ b x s h. let p = pair_fields b s in pair_back ([], AnyValue.Empty) x (fields (trace 0 b)) p.1 h;
  }

  -- what an ArrayValue and a KeyValueList hold
  abbrev items_of : List Field → List AnyValue
  items_of fs = elements_value (any_value left AnyValue.Empty) fs

  -- with keys
  abbrev pairs_in_fields : List Field → List KeyValue
  pairs_in_fields fs = elements_value (pair_value (any_value left) ([], AnyValue.Empty)) fs

  -- a member without a fault
  abbrev MemberSound : Member → Type 0
  MemberSound m = (at end : ℕ) (h : Fault) → InMember (AnyFault left) at end m h → ⊥

  -- members as they are put
  abbrev put : Member → AnyValue → AnyValue
  put m w = put_value (any_value left) m w

  -- an ArrayValue
  items_spelled : (m : Member) → number_of m ≡ 5 → MemberSound m → Spells (message_of m) (fields_in m) × Each (Sound (ElementFault (AnyFault left))) (fields_in m)
  items_spelled (ItemsIn b) e s =
      fields_sound (take_element (item_at (merge_any left))) (ElementFault (AnyFault left)) (elements_agree (item_at (merge_any left)) (AnyFault left) (any_agrees left AnyValue.Empty)) [] b s
  items_spelled m e s = absurd (omega arith)

  -- its elements come after those so far
  items_gain : (m : Member) → number_of m ≡ 5 → (w : AnyValue) → items_in (put m w) ≡ items_in w ++ items_of (fields_in m)
  items_gain (ItemsIn b) e w = list_back (items_in w ++ items_of (fields (trace 0 b)))
  items_gain m e w = absurd (omega arith)

  -- another member has none
  items_lose : (m : Member) → (number_of m ≡ 5 → ⊥) → (w : AnyValue) → items_in (put m w) ≡ []
  items_lose (ItemsIn b) ne w = absurd (ne refl)
  items_lose m ne w = refl

  -- a KeyValueList
  pairs_spelled : (m : Member) → number_of m ≡ 6 → MemberSound m → Spells (message_of m) (fields_in m) × Each (Sound (ElementFault (InPair (AnyFault left)))) (fields_in m)
  pairs_spelled (PairsIn b) e s =
      fields_sound (take_element (pair_at (merge_any left))) (ElementFault (InPair (AnyFault left)))
      (elements_agree (pair_at (merge_any left)) (InPair (AnyFault left)) (in_pair_agrees (merge_any left) (AnyFault left) (any_agrees left))) [] b s
  pairs_spelled m e s = absurd (omega arith)

  -- its elements come after those so far
  pairs_gain : (m : Member) → number_of m ≡ 6 → (w : AnyValue) → pairs_in (put m w) ≡ pairs_in w ++ pairs_in_fields (fields_in m)
  pairs_gain (PairsIn b) e w = pair_list_back (pairs_in w ++ pairs_in_fields (fields (trace 0 b)))
  pairs_gain m e w = absurd (omega arith)

  -- another member has none
  pairs_lose : (m : Member) → (number_of m ≡ 6 → ⊥) → (w : AnyValue) → pairs_in (put m w) ≡ []
  pairs_lose (PairsIn b) ne w = absurd (ne refl)
  pairs_lose m ne w = refl

  -- what a run of ArrayValues comes to
  items_run : (before front : List Member) (b : List ℕ) (u : AnyValue) → Each (λ m. number_of m ≡ 5) front → OtherLast 5 before
      → put (ItemsIn b) (over put (over put u before) front) ≡ items (items_in (begins_from before u) ++ items_of (flat_map fields_in (front ++ ItemsIn b ∷ [])))
  items_run before front b u one other =
      ap items (run_gains put 5 items_in items_of (elements_join (any_value left AnyValue.Empty)) refl refl items_gain items_lose before front (ItemsIn b) other one u)

  -- and of KeyValueLists
  pairs_run : (before front : List Member) (b : List ℕ) (u : AnyValue) → Each (λ m. number_of m ≡ 6) front → OtherLast 6 before
      → put (PairsIn b) (over put (over put u before) front) ≡ pairs (pairs_in (begins_from before u) ++ pairs_in_fields (flat_map fields_in (front ++ PairsIn b ∷ [])))
  pairs_run before front b u one other =
      ap pairs (run_gains put 6 pairs_in pairs_in_fields (elements_join (pair_value (any_value left) ([], AnyValue.Empty))) refl refl pairs_gain pairs_lose before front (PairsIn b) other one u)

  -- the fields of a run of ArrayValues
  items_joined : (front : List Member) (b : List ℕ) → Each (λ m. number_of m ≡ 5) front → Each MemberSound (front ++ ItemsIn b ∷ [])
      → Spells (flat_map message_of (front ++ ItemsIn b ∷ [])) (flat_map fields_in (front ++ ItemsIn b ∷ [])) × Each (Sound (ElementFault (AnyFault left))) (flat_map fields_in (front ++ ItemsIn b ∷ []))
  items_joined front b one good = run_spelled MemberSound (ElementFault (AnyFault left)) 5 items_spelled (front ++ ItemsIn b ∷ []) (each_append (λ m. number_of m ≡ 5) front (ItemsIn b ∷ []) one (refl, tt)) good

  -- and of KeyValueLists
  pairs_joined : (front : List Member) (b : List ℕ) → Each (λ m. number_of m ≡ 6) front → Each MemberSound (front ++ PairsIn b ∷ [])
      → Spells (flat_map message_of (front ++ PairsIn b ∷ [])) (flat_map fields_in (front ++ PairsIn b ∷ [])) × Each (Sound (ElementFault (InPair (AnyFault left)))) (flat_map fields_in (front ++ PairsIn b ∷ []))
  pairs_joined front b one good = run_spelled MemberSound (ElementFault (InPair (AnyFault left))) 6 pairs_spelled (front ++ PairsIn b ∷ []) (each_append (λ m. number_of m ≡ 6) front (PairsIn b ∷ []) one (refl, tt)) good

  -- a run says what putting its members gives
  says_to : (before front : List Member) (last : Member) (u : AnyValue) → Each (λ m. number_of m ≡ number_of last) front → OtherLast (number_of last) before → Each MemberSound (front ++ last ∷ [])
      → RunSays (HasAny left) (begins_from before u) (front ++ last ∷ []) last (put last (over put (over put u before) front))
  says_to before front (ItemsIn b) u one other good =
      let j = items_joined front b one good in
      let fs = flat_map fields_in (front ++ ItemsIn b ∷ []) in
      (fs, items_of fs, j.0, elements_to (AnyFault left) (HasAny left AnyValue.Empty) (any_value left AnyValue.Empty) item_same fs j.1, items_run before front b u one other)
  says_to before front (PairsIn b) u one other good =
      let j = pairs_joined front b one good in
      let fs = flat_map fields_in (front ++ PairsIn b ∷ []) in
      (fs, pairs_in_fields fs, j.0, elements_to (InPair (AnyFault left)) (PairOf (HasAny left) ([], AnyValue.Empty)) (pair_value (any_value left) ([], AnyValue.Empty)) pair_same fs j.1, pairs_run before front b u one other)
  says_to before front last u one other good = refl

  -- and the other way
  says_back : (before front : List Member) (last : Member) (u v : AnyValue) → Each (λ m. number_of m ≡ number_of last) front → OtherLast (number_of last) before → Each MemberSound (front ++ last ∷ [])
      → RunSays (HasAny left) (begins_from before u) (front ++ last ∷ []) last v → v ≡ put last (over put (over put u before) front)
  says_back before front (ItemsIn b) u v one other good r =
      let j = items_joined front b one good in
      let fs = flat_map fields_in (front ++ ItemsIn b ∷ []) in
      let e = one_spelling (flat_map message_of (front ++ ItemsIn b ∷ [])) r.0 fs r.2 j.0 in
      let vs = elements_back (AnyFault left) (HasAny left AnyValue.Empty) (any_value left AnyValue.Empty) item_same fs r.1 j.1 (subst (λ (gs : List Field). ItemsOf (HasAny left) gs r.1) e r.3) in
      r.4 ∙ ap (λ (xs : List AnyValue). items (items_in (begins_from before u) ++ xs)) vs ∙ sym (items_run before front b u one other)
  says_back before front (PairsIn b) u v one other good r =
      let j = pairs_joined front b one good in
      let fs = flat_map fields_in (front ++ PairsIn b ∷ []) in
      let e = one_spelling (flat_map message_of (front ++ PairsIn b ∷ [])) r.0 fs r.2 j.0 in
      let kvs = elements_back (InPair (AnyFault left)) (PairOf (HasAny left) ([], AnyValue.Empty)) (pair_value (any_value left) ([], AnyValue.Empty)) pair_same fs r.1 j.1 (subst (λ (gs : List Field). PairsOf (HasAny left) gs r.1) e r.3) in
      r.4 ∙ ap (λ (xs : List KeyValue). pairs (pairs_in (begins_from before u) ++ xs)) kvs ∙ sym (pairs_run before front b u one other)
  says_back before front last u v one other good r = r

  -- a field that may be a member
  and_sound : (o : Option Member) (ms : List Member) → ((at end : ℕ) (h : Fault) → IfMember (AnyFault left) at end o h → ⊥) → Each MemberSound ms → Each MemberSound (and_member o ms)
  and_sound (Some m) ms s more = (s, more)
  and_sound None ms s more = more

  -- the members of fields without a fault
  members_sound : (fs : List Field) → Each (Sound (MemberFault (AnyFault left))) fs → Each MemberSound (members fs)
  members_sound [] s = tt
  members_sound (f ∷ fs) s = and_sound (member_in f) (members fs) s.0 (members_sound fs s.1)

  -- the last run of members without a fault has none
  run_sound : (ms : List Member) (r : LastRun ms) → Each MemberSound ms → Each MemberSound (r.front ++ r.last ∷ [])
  run_sound ms r good = each_right MemberSound r.before (r.front ++ r.last ∷ []) (subst (Each MemberSound) r.is good)

  -- members say what putting them gives, by their last run
  say_by : (u : AnyValue) (ms : List Member) → Each MemberSound ms → (ms ≡ []) ⊎ LastRun ms → MembersSay (HasAny left) u ms (over put u ms)
  say_by u ms good (inl e) = inl (e, ap (over put u) e)
  say_by u ms good (inr r) = inr (
    r,
    subst (RunSays (HasAny left) (begins_from r.before u) (r.front ++ r.last ∷ []) r.last) (sym (over_run put u ms r.before r.front r.last r.is))
        (says_to r.before r.front r.last u r.one_number r.other (run_sound ms r good)),
  )

  -- and the other way
  say_back : (u v : AnyValue) (ms : List Member) → Each MemberSound ms → MembersSay (HasAny left) u ms v → v ≡ over put u ms
  say_back u v ms good (inl w) = w.1 ∙ sym (ap (over put u) w.0)
  say_back u v ms good (inr w) =
      let r = w.0 in says_back r.before r.front r.last u v r.one_number r.other (run_sound ms r good) w.1 ∙ sym (over_run put u ms r.before r.front r.last r.is)

-- the step of an AnyValue over values of so many levels
step_agrees : (left : ℕ) → StepAgrees (take_member (merge_any left)) (MemberFault (AnyFault left))
step_agrees left = member_agrees (merge_any left) (AnyFault left) (any_agrees left)

-- the function and the relation agree at each level
pub same : (left : ℕ) → Same left
same zero = record {
  spelled = λ b s. absurd (s 0 0 (fault_at 0 TooDeep) refl);
  to = λ u fs e. (e, refl);
  back = λ u v fs e h. h.1;
}
same (suc left) = let a = same left in record {
  spelled = λ b s. fields_sound (take_member (merge_any left)) (MemberFault (AnyFault left)) (step_agrees left) AnyValue.Empty b s;
  to = λ u fs s. say_by left a u (members fs) (members_sound left a fs s) (last_run (members fs));
  back = λ u v fs s h. say_back left a u v (members fs) (members_sound left a fs s) h;
}

-- ---- payloads of a row

-- the value of the fields inside is that of the joined payloads
pub any_joined_to : (left : ℕ) (ps : List Payload) → Each (PayloadSound (LongFault (AnyFault left))) ps → (u v : AnyValue) → v ≡ any_value left u (flat_map inside ps) → JoinedOf (HasAny left) ps u v
any_joined_to left = value_to left (same left)

-- and the other way
pub any_joined_back : (left : ℕ) (ps : List Payload) → Each (PayloadSound (LongFault (AnyFault left))) ps → (u v : AnyValue) → JoinedOf (HasAny left) ps u v → v ≡ any_value left u (flat_map inside ps)
any_joined_back left = value_back left (same left)

-- each payload is an element
pub any_elements : (left : ℕ) → Gives (LongFault (AnyFault left)) (MessagesOf (HasAny left AnyValue.Empty)) (messages_of (any_value left AnyValue.Empty))
any_elements left = elements_same (AnyFault left) (HasAny left AnyValue.Empty) (any_value left AnyValue.Empty) (item_same left (same left))

-- ---- reading

-- what is read is the value of the fields
value_read : (left at end : ℕ) (b : List ℕ) (u v : AnyValue) (fs : List Field) → Spells b fs → merge_any left at end b u ≡ Ok v → any_value left u fs ≡ v
value_read left at end b u v fs sp e =
    ap (any_value left u) (sym (append-nil (fields (trace 0 b)) ∙ fields_spelled 0 b fs sp)) ∙ any_gives left at end b u v [] e ∙ any_nil left v

-- an Ok is the value
pub any_from : (left at end : ℕ) (b : List ℕ) (u v : AnyValue) → merge_any (suc left) at end b u ≡ Ok v → IsReadAny left u b v
unfolding merge_any
any_from left at end b u v e =
    let g = step_agrees left in
    let w = whole (take_member (merge_any left)) (MemberFault (AnyFault left)) g.hits g.misses g.steady (end - length b) b u v e in
    let a = same (suc left) in
    record { fields = w.0; spelled = w.1; sound = w.2; value = subst (HasAny (suc left) u w.0) (value_read (suc left) at end b u v w.0 w.1 e) (a.to u w.0 w.2) }

-- and the value is the Ok
pub any_to : (left at end : ℕ) (b : List ℕ) (u v : AnyValue) → IsReadAny left u b v → merge_any (suc left) at end b u ≡ Ok v
unfolding merge_any
any_to left at end b u v r =
    let g = step_agrees left in
    let w = all_read (take_member (merge_any left)) (MemberFault (AnyFault left)) g.hits g.misses g.steady r.fields (end - length b) b u r.spelled r.sound in
    let a = same (suc left) in
    w.1 ∙ ap (λ (x : AnyValue). let q : Result AnyValue Fault = Ok x in q) (sym (value_read (suc left) at end b u w.0 r.fields r.spelled w.1) ∙ sym (a.back u v r.fields r.sound r.value))

-- a value is read where there is no fault
pub any_sound : (left at end : ℕ) (b : List ℕ) (u : AnyValue) → ((g : Fault) → AnyFault left at end b g → ⊥) → (v : AnyValue) × (merge_any left at end b u ≡ Ok v)
any_sound left at end b u h = let a = any_agrees left u in ok_from (merge_any left at end b u) (λ g e. h g (a.hits at end b g e))

-- and only there
pub any_ok : (left at end : ℕ) (b : List ℕ) (u v : AnyValue) → merge_any left at end b u ≡ Ok v → (g : Fault) → AnyFault left at end b g → ⊥
any_ok left at end b u v e g h = let a = any_agrees left u in let f = a.misses at end b g h in absurd (cc (e, f))

-- ---- parts

-- the value of an AnyValue is that of fields of which each is taken
value_over : (left : ℕ) → ValueOver (take_member (merge_any left)) (MemberFault (AnyFault left)) (step_agrees left) (any_value (suc left))
value_over left = (any_nil (suc left), step_gives left)

-- an Ok is the value of the parts
pub any_parts_from : (left : ℕ) (u v : AnyValue) (parts : List Part) → merge_any_all left u parts ≡ Ok v → IsReadAnyInParts left u parts v
any_parts_from left u v parts e =
    let r = all_from (take_member (merge_any left)) (MemberFault (AnyFault left)) (step_agrees left) (any_value (suc left)) (value_over left) u v parts e in
    let a = same (suc left) in
    record { fields = r.fields; spelled = r.spelled; sound = r.sound; value = subst (HasAny (suc left) u r.fields) (sym r.value) (a.to u r.fields r.sound) }

-- and the value of the parts is the Ok
pub any_parts_to : (left : ℕ) (u v : AnyValue) (parts : List Part) → IsReadAnyInParts left u parts v → merge_any_all left u parts ≡ Ok v
any_parts_to left u v parts r =
    let a = same (suc left) in
    all_to (take_member (merge_any left)) (MemberFault (AnyFault left)) (step_agrees left) (any_value (suc left)) (value_over left) u v parts r.fields r.spelled r.sound (a.back u v r.fields r.sound r.value)

-- an Err is the first fault of the parts
pub any_parts_found : (left : ℕ) (u : AnyValue) (parts : List Part) (g : Fault) → merge_any_all left u parts ≡ Err g → FaultInParts (MemberFault (AnyFault left)) parts g
any_parts_found left u parts g e = parts_found (take_member (merge_any left)) (MemberFault (AnyFault left)) (step_agrees left) u parts g e

-- and the first fault of the parts is the Err
pub any_parts_bad : (left : ℕ) (u : AnyValue) (parts : List Part) (g : Fault) → FaultInParts (MemberFault (AnyFault left)) parts g → merge_any_all left u parts ≡ Err g
any_parts_bad left u parts g b = parts_bad (take_member (merge_any left)) (MemberFault (AnyFault left)) (step_agrees left) u parts g b
