-- An AnyValue that is read is in its range, and its spelling is longer by sixteen times the bytes that were read at most.
use Rattle.std.proofs.Common.{◌≡◌, ℕ, zero, suc, ◌+◌, ◌*◌, ◌-◌, ◌^◌, ◌<◌, ◌≤◌, Bool, true, false, cond, List, [], ◌∷◌, ◌++◌, length, Option, Some, None, Result, Ok, refl, sym, ap, subst, ◌∙◌, arith, inl, inr}
use Rattle.std.specs.Prelude.{◌⊎◌, ◌==◌}
use Rattle.std.specs.List.{flat_map}
use Rattle.std.specs.Str.{is_utf8}
use Rattle.std.proofs.lemmas.Bool.{cond_both}
use Rattle.std.proofs.lemmas.Grind.{flat_map-append}
use Rattle.std.proofs.lemmas.Str.{IsUtf8-nil, is_utf8-from_IsUtf8}
use Rattle.schema.specs.Field.{Eight, Field, Long, Payload, Varint, greatest_number}
use Rattle.schema.specs.Fault.{Fault, NotUtf8, fault_at}
use Rattle.schema.specs.Each.{Each}
use Rattle.schema.specs.Run.{one_text, text_of, message}
use Rattle.schema.specs.Shape.{I64, Flag, number_from}
use Rattle.schema.specs.Texts.{bytes_field, long_field, number_to}
use Rattle.schema.specs.AnyValue.{AnyValue, KeyValue, items, items_in, pairs, pairs_in, pairs_of, values_of}
use Rattle.schema.specs.AnyMember.{DoubleIn, FlagIn, IntIn, ItemsIn, Member, PairsIn, RawIn, TextIn, if_eight, if_long, if_varint, member_in}
use Rattle.schema.specs.AnyMerge.{add_element, go_on, item_at, merge_any, pair_at, put_if, put_member, take_element, take_member, take_pair, take_value, merge_any_all}
use Rattle.schema.specs.AnySpell.{AnyInRange, FitsAny, MemberInRange, PairInRange, any_text, pairs_text, values_text}
use Rattle.schema_laws.proofs.Results.{ok_is, bind_ok, map_ok, checked_ok}
use Rattle.schema_laws.proofs.Lists.{Octets, each_append}
use Rattle.schema_laws.proofs.Ranges.{FieldInRange, PayloadInRange, field_cost, number_fits}
use Rattle.schema_laws.proofs.Growing.{Grows, StepKeeps, becomes, message_grows, stays, text_keeps, item_grows, row_keeps, run_keeps}
use Rattle.schema_laws.proofs.Lengths.{varint_field_len, bytes_field_le, eight_field_len, long_field_le, long_field_len}
use Rattle.schema_laws.proofs.AnyLists.{element_text, list_back, pair_list_back, pairs_spelled, values_spelled}
use Rattle.schema_laws.proofs.AnyReadingBack.{any_again}
use Rattle.schema.specs.Parts.{Part, joined}
use Rattle.schema_laws.proofs.Parts.{parts_keep}

-- the length of a value's payload
abbrev pub any_size : AnyValue → ℕ
any_size v = length (any_text v)

-- ---- lists of elements

-- the length of elements, each after its tag and length
abbrev pub numbered_size : {A : Type 0} → ℕ → (A → List ℕ) → List A → ℕ
numbered_size n text xs = length (flat_map (λ x. long_field n (text x)) xs)

-- of number 1
abbrev list_size : {A : Type 0} → (A → List ℕ) → List A → ℕ
list_size text xs = numbered_size 1 text xs

-- an element that is read of bytes is in its range, and at most so long
abbrev ElementKeeps : {A : Type 0} → (ℕ → ℕ → List ℕ → Result A Fault) → (A → Type 0) → (A → List ℕ) → Type 0
ElementKeeps {A = A} element In text = (at end : ℕ) (b : List ℕ) (x : A) → Octets b → 16 * length b < 2 ^ 64 → element at end b ≡ Ok x → In x × (length (text x) ≤ 16 * length b)

module _ {A : Type 0} (element : ℕ → ℕ → List ℕ → Result A Fault) (In : A → Type 0) (text : A → List ℕ) (keeps : ElementKeeps element In text) where
  -- one more element
  pub add_keeps : (n : ℕ) → n ≤ greatest_number → (at end : ℕ) (p : Payload) (us vs : List A) → PayloadInRange p → Each In us → numbered_size n text us + 16 * field_cost p < 2 ^ 64
      → add_element element at end p us ≡ Ok vs → Grows (Each In) (numbered_size n text) us (field_cost p) vs
  add_keeps n le at end (Long b) us vs r i room e =
      let x = bind_ok (element at end b) (λ (x : A). Ok (us ++ x ∷ [])) vs e in
      let g = keeps at end b x.0 r (omega arith) x.1 in
      let short = g.1 in
      becomes (Each In) (numbered_size n text) us (us ++ x.0 ∷ []) vs (length b + 2) (ok_is (us ++ x.0 ∷ []) vs x.2) (each_append In us (x.0 ∷ []) i (g.0, tt))
      (item_grows n le (flat_map (λ x. long_field n (text x)) us) (text x.0) (flat_map (λ x. long_field n (text x)) (us ++ x.0 ∷ [])) (length b + 2)
      (flat_map-append (λ x. long_field n (text x)) us (x.0 ∷ [])) (omega arith) (omega arith))
  add_keeps n le at end p us vs r i room e = stays (Each In) (numbered_size n text) us vs (field_cost p) (ok_is us vs e) i

  -- by whether the field is an element
  test_keeps : (t : Bool) (at end : ℕ) (p : Payload) (us vs : List A) → PayloadInRange p → Each In us → list_size text us + 16 * field_cost p < 2 ^ 64
      → cond t (add_element element at end p us) (Ok us) ≡ Ok vs → Grows (Each In) (list_size text) us (field_cost p) vs
  test_keeps true at end p us vs r i room e = add_keeps 1 (omega arith) at end p us vs r i room e
  test_keeps false at end p us vs r i room e = stays (Each In) (list_size text) us vs (field_cost p) (ok_is us vs e) i

  -- a field
  elements_keep : StepKeeps (take_element element) (Each In) (list_size text)
  elements_keep at end f us vs r i room e = test_keeps (f.number == 1) at end f.payload us vs r.payload_in i room e

-- ---- the elements of a value

-- the spelling of elements is as long as that of their list
values_size : (xs : List AnyValue) → length (values_text (values_of xs)) ≡ list_size any_text xs
values_size xs = ap length (values_spelled (values_of xs)) ∙ ap (list_size any_text) (list_back xs)

-- and so is that of keys and values
pairs_size : (xs : List KeyValue) → length (pairs_text (pairs_of xs)) ≡ list_size element_text xs
pairs_size xs = ap length (pairs_spelled (pairs_of xs)) ∙ ap (list_size element_text) (pair_list_back xs)

-- the elements of a value are no longer than it
items_short : (u : AnyValue) → list_size any_text (items_in u) ≤ any_size u
items_short (AnyValue.Items vs) = omega (arith, ap length (values_spelled vs), long_field_le 5 (values_text vs))
items_short u = omega arith

-- and so are its keys and values
pairs_short : (u : AnyValue) → list_size element_text (pairs_in u) ≤ any_size u
pairs_short (AnyValue.Pairs kvs) = omega (arith, ap length (pairs_spelled kvs), long_field_le 6 (pairs_text kvs))
pairs_short u = omega arith

-- the elements of a value in its range are in theirs
items_in_range : (In : AnyValue → Type 0) (u : AnyValue) → MemberInRange In u → Each In (items_in u)
items_in_range In (AnyValue.Items vs) i = i
items_in_range In u i = tt

-- and so are its keys and values
pairs_in_range : (In : AnyValue → Type 0) (u : AnyValue) → MemberInRange In u → Each (PairInRange In) (pairs_in u)
pairs_in_range In (AnyValue.Pairs kvs) i = i
pairs_in_range In u i = tt

-- no key and no value have no spelling
no_length : length (element_text ([], AnyValue.Empty)) ≡ 0
unfolding bytes_field
no_length = refl

-- ---- members

-- what a member of a field in its range holds
abbrev MemberHolds : Member → Type 0
MemberHolds (FlagIn n) = n < 2 ^ 64
MemberHolds (IntIn n) = n < 2 ^ 64
MemberHolds (DoubleIn b) = length b ≡ 8
MemberHolds (ItemsIn b) = Octets b
MemberHolds (PairsIn b) = Octets b
MemberHolds m = Unit {0}

-- the least bytes of its field
abbrev member_cost : Member → ℕ
member_cost (TextIn b) = length b + 2
member_cost (ItemsIn b) = length b + 2
member_cost (PairsIn b) = length b + 2
member_cost (RawIn b) = length b + 2
member_cost m = 2

-- a field that may be a member
abbrev IfHolds : ℕ → Option Member → Type 0
IfHolds cost (Some m) = MemberHolds m × (cost ≡ member_cost m)
IfHolds cost None = Unit {0}

-- by its wire type
varint_holds : (make : ℕ → Member) → ((n : ℕ) → n < 2 ^ 64 → IfHolds 2 (Some (make n))) → (p : Payload) → PayloadInRange p → IfHolds (field_cost p) (if_varint make p)
varint_holds make h (Varint n) r = h n r
varint_holds make h p r = tt

-- of eight bytes
eight_holds : (make : List ℕ → Member) → ((b : List ℕ) → length b ≡ 8 → IfHolds 2 (Some (make b))) → (p : Payload) → PayloadInRange p → IfHolds (field_cost p) (if_eight make p)
eight_holds make h (Eight b) r = h b r.1
eight_holds make h p r = tt

-- and of bytes after their length
long_holds : (make : List ℕ → Member) → ((b : List ℕ) → Octets b → IfHolds (length b + 2) (Some (make b))) → (p : Payload) → PayloadInRange p → IfHolds (field_cost p) (if_long make p)
long_holds make h (Long b) r = h b r
long_holds make h p r = tt

-- a field in its range, by its number
member_holds : (f : Field) → FieldInRange f → IfHolds (field_cost f.payload) (member_in f)
member_holds f r =
    let P = IfHolds (field_cost f.payload) in
    let i = r.payload_in in
    cond_both (f.number == 1) _ _ P (λ _. long_holds TextIn (λ b o. (tt, refl)) f.payload i)
    (λ _. cond_both (f.number == 2) _ _ P (λ _. varint_holds FlagIn (λ n lt. (lt, refl)) f.payload i)
    (λ _. cond_both (f.number == 3) _ _ P (λ _. varint_holds IntIn (λ n lt. (lt, refl)) f.payload i)
    (λ _. cond_both (f.number == 4) _ _ P (λ _. eight_holds DoubleIn (λ b l. (l, refl)) f.payload i)
    (λ _. cond_both (f.number == 5) _ _ P (λ _. long_holds ItemsIn (λ b o. (o, refl)) f.payload i)
    (λ _. cond_both (f.number == 6) _ _ P (λ _. long_holds PairsIn (λ b o. (o, refl)) f.payload i)
    (λ _. cond_both (f.number == 7) _ _ P (λ _. long_holds RawIn (λ b o. (tt, refl)) f.payload i) (λ _. tt)))))))

-- a flag is 0 or 1
flag_below : (x : Bool) → number_to Flag x < 2 ^ 64
flag_below true = omega arith
flag_below false = omega arith

module _ (inner : ℕ → ℕ → List ℕ → AnyValue → Result AnyValue Fault) (In : AnyValue → Type 0)
    (keeps : (at end : ℕ) (b : List ℕ) (u v : AnyValue) → Octets b → (u ≡ AnyValue.Empty) ⊎ In u → any_size u + 16 * length b < 2 ^ 64 → inner at end b u ≡ Ok v → In v × (any_size v ≤ any_size u + 16 * length b)) where
  -- an element of an ArrayValue
  pub item_keeps : ElementKeeps (item_at inner) In any_text
  item_keeps at end b x o room e = let g = keeps at end b AnyValue.Empty x o (inl refl) (omega arith) e in let short = g.1 in (g.0, omega arith)

  -- a value, which is Empty or in its range
  abbrev ValueIn : AnyValue → Type 0
  ValueIn v = (v ≡ AnyValue.Empty) ⊎ In v

  -- a value that is left out where it is Empty, as that after a key
  pub go_on_keeps : (n : ℕ) → n ≤ greatest_number → (at end : ℕ) (p : Payload) (u v : AnyValue) → PayloadInRange p → ValueIn u → length (bytes_field n (any_text u)) + 16 * field_cost p < 2 ^ 64
      → go_on inner at end p u ≡ Ok v → Grows ValueIn (λ x. length (bytes_field n (any_text x))) u (field_cost p) v
  go_on_keeps n le at end (Long b) u v r i room e =
      let l = bytes_field_le n (any_text u) in
      let g = keeps at end b u v r i (omega arith) e in
      (inr g.0, message_grows n le (any_text u) (any_text v) (length b) room g.1)
  go_on_keeps n le at end p u v r i room e = stays ValueIn (λ x. length (bytes_field n (any_text x))) u v (field_cost p) (ok_is u v e) i

  -- by whether the field is a value
  value_keeps : (t : Bool) (at end : ℕ) (p : Payload) (u v : AnyValue) → PayloadInRange p → ValueIn u → length (bytes_field 2 (any_text u)) + 16 * field_cost p < 2 ^ 64
      → cond t (go_on inner at end p u) (Ok u) ≡ Ok v → Grows ValueIn (λ x. length (bytes_field 2 (any_text x))) u (field_cost p) v
  value_keeps true at end p u v r i room e = go_on_keeps 2 (omega arith) at end p u v r i room e
  value_keeps false at end p u v r i room e = stays ValueIn (λ x. length (bytes_field 2 (any_text x))) u v (field_cost p) (ok_is u v e) i

  -- a field of a key and its value
  pair_step : StepKeeps (take_pair inner) (PairInRange In) (λ kv. length (element_text kv))
  pair_step at end f u v r i room e =
      let g = row_keeps (λ k. is_utf8 k ≡ true) ValueIn (bytes_field 1) (λ x. bytes_field 2 (any_text x)) (f.number == 1) (one_text at f.payload u.0) (take_value inner at end f u.1) u.0 u.1 (field_cost f.payload) v i.0 i.1 room
      (λ t x room e. text_keeps 1 (omega arith) at f.payload u.0 x i.0 room e)
      (λ y room e. value_keeps (f.number == 2) at end f.payload u.1 y r.payload_in i.1 room e) e in
      ((g.0, g.1), g.2)

  -- an element of a KeyValueList
  pair_keeps : ElementKeeps (pair_at inner) (PairInRange In) element_text
  pair_keeps at end b x o room e =
      let none : length (element_text ([], AnyValue.Empty)) ≡ 0 = no_length in
      let g = run_keeps (take_pair inner) (PairInRange In) (λ kv. length (element_text kv)) pair_step (end - length b) b ([], AnyValue.Empty) x o
      (is_utf8-from_IsUtf8 [] IsUtf8-nil, inl refl) (omega arith) e in
      let short = g.1 in
      (g.0, omega arith)

  -- a member
  put_keeps : (at end : ℕ) (m : Member) (u v : AnyValue) → MemberHolds m → MemberInRange In u → any_size u + 16 * member_cost m < 2 ^ 64 → put_member inner at end m u ≡ Ok v
      → Grows (MemberInRange In) any_size u (member_cost m) v
  put_keeps at end (TextIn b) u v h i room e =
      let t = bind_ok (text_of at b) (λ (t : List ℕ). Ok (AnyValue.Text t)) v e in
      let c = checked_ok (is_utf8 b) b t.0 (fault_at at NotUtf8) t.1 in
      let l = long_field_len 1 b (omega arith) (omega arith) in
      becomes (MemberInRange In) any_size u (AnyValue.Text b) v (length b + 2) (ap (λ x. AnyValue.Text x) c.1 ∙ ok_is (AnyValue.Text t.0) v t.2) c.0 (omega arith)
  put_keeps at end (FlagIn n) u v h i room e =
      let l = varint_field_len 2 (number_to Flag (number_from Flag n)) (omega arith) (flag_below (number_from Flag n)) in
      becomes (MemberInRange In) any_size u (AnyValue.Flag (number_from Flag n)) v 2 (ok_is (AnyValue.Flag (number_from Flag n)) v e) tt (omega arith)
  put_keeps at end (IntIn n) u v h i room e =
      let fits = number_fits I64 n h in
      let l = varint_field_len 3 (number_to I64 (number_from I64 n)) (omega arith) fits.0 in
      becomes (MemberInRange In) any_size u (AnyValue.Int (number_from I64 n)) v 2 (ok_is (AnyValue.Int (number_from I64 n)) v e) fits (omega arith)
  put_keeps at end (DoubleIn b) u v h i room e =
      let l = eight_field_len 4 b (omega arith) h in
      becomes (MemberInRange In) any_size u (AnyValue.Double b) v 2 (ok_is (AnyValue.Double b) v e) h (omega arith)
  put_keeps at end (ItemsIn b) u v h i room e =
      let x = map_ok (message (take_element (item_at inner)) end b (items_in u)) items v e in
      let a = items_short u in
      let g = run_keeps (take_element (item_at inner)) (Each In) (list_size any_text) (elements_keep (item_at inner) In any_text item_keeps) (end - length b) b (items_in u) x.0 h
      (items_in_range In u i) (omega arith) x.1 in
      let short = g.1 in
      let is = values_size x.0 in
      let l = long_field_len 5 (values_text (values_of x.0)) (omega arith) (omega arith) in
      becomes (MemberInRange In) any_size u (items x.0) v (length b + 2) x.2 (subst (Each In) (sym (list_back x.0)) g.0) (omega arith)
  put_keeps at end (PairsIn b) u v h i room e =
      let x = map_ok (message (take_element (pair_at inner)) end b (pairs_in u)) pairs v e in
      let a = pairs_short u in
      let g = run_keeps (take_element (pair_at inner)) (Each (PairInRange In)) (list_size element_text) (elements_keep (pair_at inner) (PairInRange In) element_text pair_keeps) (end - length b) b (pairs_in u) x.0 h
      (pairs_in_range In u i) (omega arith) x.1 in
      let short = g.1 in
      let is = pairs_size x.0 in
      let l = long_field_len 6 (pairs_text (pairs_of x.0)) (omega arith) (omega arith) in
      becomes (MemberInRange In) any_size u (pairs x.0) v (length b + 2) x.2 (subst (Each (PairInRange In)) (sym (pair_list_back x.0)) g.0) (omega arith)
  put_keeps at end (RawIn b) u v h i room e =
      let l = long_field_len 7 b (omega arith) (omega arith) in
      becomes (MemberInRange In) any_size u (AnyValue.Raw b) v (length b + 2) (ok_is (AnyValue.Raw b) v e) tt (omega arith)

  -- a field, by whether it is a member
  if_keeps : (cost at end : ℕ) (o : Option Member) (u v : AnyValue) → IfHolds cost o → MemberInRange In u → any_size u + 16 * cost < 2 ^ 64 → put_if inner at end o u ≡ Ok v
      → Grows (MemberInRange In) any_size u cost v
  if_keeps cost at end (Some m) u v h i room e =
      subst (λ (c : ℕ). Grows (MemberInRange In) any_size u c v) (sym h.1)
      (put_keeps at end m u v h.0 i (subst (λ (c : ℕ). any_size u + 16 * c < 2 ^ 64) h.1 room) e)
  if_keeps cost at end None u v h i room e = stays (MemberInRange In) any_size u v cost (ok_is u v e) i

  -- a field of an AnyValue
  member_keeps : StepKeeps (take_member inner) (MemberInRange In) any_size
  member_keeps at end f u v r i room e = if_keeps (field_cost f.payload) at end (member_in f) u v (member_holds f r) i room e

-- a value that is Empty or in its range is one of which a member may be read
starts : (In : AnyValue → Type 0) (u : AnyValue) → (u ≡ AnyValue.Empty) ⊎ MemberInRange In u → MemberInRange In u
starts In u (inl e) = subst (MemberInRange In) (sym e) tt
starts In u (inr i) = i

-- with so many levels left
pub any_keeps : (left at end : ℕ) (b : List ℕ) (u v : AnyValue) → Octets b → (u ≡ AnyValue.Empty) ⊎ AnyInRange left u → any_size u + 16 * length b < 2 ^ 64 → merge_any left at end b u ≡ Ok v
    → AnyInRange left v × (any_size v ≤ any_size u + 16 * length b)
unfolding merge_any
any_keeps zero at end b u v o i room e = absurd cc
any_keeps (suc left) at end b u v o i room e =
    run_keeps (take_member (merge_any left)) (MemberInRange (AnyInRange left)) any_size (member_keeps (merge_any left) (AnyInRange left) (any_keeps left)) (end - length b) b u v o
    (starts (AnyInRange left) u i) room e

-- the spelling of a value that is read is at most sixteen times as long as the bytes
pub any_short : (left at end : ℕ) (b : List ℕ) (v : AnyValue) → Octets b → 16 * length b < 2 ^ 64 → merge_any left at end b AnyValue.Empty ≡ Ok v → any_size v ≤ 16 * length b
any_short left at end b v o room e = let g = any_keeps left at end b AnyValue.Empty v o (inl refl) (omega arith) e in let short = g.1 in omega arith

-- and it fits
pub any_fits : (left at end : ℕ) (b : List ℕ) (v : AnyValue) → Octets b → 16 * length b < 2 ^ 64 → merge_any left at end b AnyValue.Empty ≡ Ok v → FitsAny left v
any_fits left at end b v o room e = let g = any_keeps left at end b AnyValue.Empty v o (inl refl) (omega arith) e in let short = g.1 in (g.0, omega arith)

-- so its spelling is read as the same value
pub any_read_again : (left at end : ℕ) (b : List ℕ) (v : AnyValue) → Octets b → 16 * length b < 2 ^ 64 → merge_any left at end b AnyValue.Empty ≡ Ok v
    → (c d : ℕ) → merge_any left c d (any_text v) AnyValue.Empty ≡ Ok v
any_read_again left at end b v o room e c d = any_again left v (any_fits left at end b v o room e) c d

-- ---- parts

-- the value of parts is in its range
any_parts_keep : (left : ℕ) (parts : List Part) (v : AnyValue) → Octets (joined parts) → 16 * length (joined parts) < 2 ^ 64 → merge_any_all left AnyValue.Empty parts ≡ Ok v
    → Grows (MemberInRange (AnyInRange left)) any_size AnyValue.Empty (length (joined parts)) v
any_parts_keep left parts v o room e =
    parts_keep (take_member (merge_any left)) (MemberInRange (AnyInRange left)) any_size (member_keeps (merge_any left) (AnyInRange left) (any_keeps left)) parts AnyValue.Empty v o tt (omega arith) e

-- so its spelling is at most sixteen times as long as the parts
pub any_parts_short : (left : ℕ) (parts : List Part) (v : AnyValue) → Octets (joined parts) → 16 * length (joined parts) < 2 ^ 64 → merge_any_all left AnyValue.Empty parts ≡ Ok v
    → any_size v ≤ 16 * length (joined parts)
any_parts_short left parts v o room e = let g = any_parts_keep left parts v o room e in let short = g.1 in omega arith

-- and it fits
pub any_parts_fit : (left : ℕ) (parts : List Part) (v : AnyValue) → Octets (joined parts) → 16 * length (joined parts) < 2 ^ 64 → merge_any_all left AnyValue.Empty parts ≡ Ok v → FitsAny (suc left) v
any_parts_fit left parts v o room e = let g = any_parts_keep left parts v o room e in let short = g.1 in (g.0, omega arith)
