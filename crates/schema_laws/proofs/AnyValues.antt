-- The value of an AnyValue as a function of its fields, and that reading field by field gives it.
use Rattle.std.proofs.Common.{◌≡◌, ℕ, zero, suc, ◌-◌, Bool, true, false, cond, List, [], ◌∷◌, ◌++◌, length, Option, Some, None, Result, Ok, refl, sym, ap, ◌∙◌, arith}
use Rattle.std.specs.Prelude.{◌==◌}
use Rattle.std.specs.List.{flat_map}
use Rattle.std.specs.Str.{is_utf8}
use Rattle.std.proofs.lemmas.Bool.{eqb-true, ne_eqb}
use Rattle.std.proofs.lemmas.List.{append-nil}
use Rattle.schema.specs.Field.{Field, Long, Payload}
use Rattle.schema.specs.Fault.{Fault, NotUtf8, fault_at}
use Rattle.schema.specs.Run.{one_text, text_of, message}
use Rattle.schema.specs.Decoding.{◌>>=◌, trace}
use Rattle.schema.specs.Shape.{I64, Flag, number_from}
use Rattle.schema.specs.RowValue.{bytes_in, of_number}
use Rattle.schema.specs.AnyValue.{AnyValue, KeyValue, items, items_in, pairs, pairs_in}
use Rattle.schema.specs.AnyMember.{DoubleIn, FlagIn, IntIn, ItemsIn, Member, PairsIn, RawIn, TextIn, and_member, member_in, members}
use Rattle.schema.specs.AnyMerge.{add_element, go_on, item_at, merge_any, pair_at, put_if, put_member, take_element, take_member, take_pair}
use Rattle.schema_laws.proofs.Results.{ok_is, bind_ok, map_ok, checked_ok}
use Rattle.schema_laws.proofs.Traces.{fields}
use Rattle.schema_laws.proofs.Folds.{fields_place, fold_many, inside, last_said, law_over, messages_of, text_said}

-- ---- the value; `pure` gives that of the values inside

-- the elements of a list, of which `one` gives each
abbrev pub elements_value : {A : Type 0} → (List Field → A) → List Field → List A
elements_value one fs = flat_map (messages_of one) (of_number 1 fs)

-- a key and its value
abbrev pub pair_value : (AnyValue → List Field → AnyValue) → KeyValue → List Field → KeyValue
pair_value pure u fs = (last_said bytes_in (of_number 1 fs) u.0, pure u.1 (flat_map inside (of_number 2 fs)))

-- a member over the value so far
abbrev pub put_value : (AnyValue → List Field → AnyValue) → Member → AnyValue → AnyValue
put_value pure (TextIn b) u = AnyValue.Text b
put_value pure (FlagIn n) u = AnyValue.Flag (number_from Flag n)
put_value pure (IntIn n) u = AnyValue.Int (number_from I64 n)
put_value pure (DoubleIn b) u = AnyValue.Double b
put_value pure (ItemsIn b) u = items (items_in u ++ elements_value (pure AnyValue.Empty) (fields (trace 0 b)))
put_value pure (PairsIn b) u = pairs (pairs_in u ++ elements_value (pair_value pure ([], AnyValue.Empty)) (fields (trace 0 b)))
put_value pure (RawIn b) u = AnyValue.Raw b

-- members, one after the other
abbrev pub over : (Member → AnyValue → AnyValue) → AnyValue → List Member → AnyValue
over put u [] = u
over put u (m ∷ ms) = over put (put m u) ms

-- u with the fields, with so many levels left
abbrev pub any_value : ℕ → AnyValue → List Field → AnyValue
any_value zero u fs = u
any_value (suc left) u fs = over (put_value (any_value left)) u (members fs)

-- no fields change nothing
pub any_nil : (left : ℕ) (u : AnyValue) → any_value left u [] ≡ u
any_nil zero u = refl
any_nil (suc left) u = refl

-- ---- lists of elements

-- what is read of an element is its value
abbrev ElementGives : {A : Type 0} → (ℕ → ℕ → List ℕ → Result A Fault) → (List Field → A) → Type 0
ElementGives {A = A} element one = (at end : ℕ) (b : List ℕ) (x : A) → element at end b ≡ Ok x → one (fields (trace 0 b)) ≡ x

module _ {A : Type 0} (element : ℕ → ℕ → List ℕ → Result A Fault) (one : List Field → A) (gives : ElementGives element one) where
  -- what a payload gains
  pub add_gives : (at end : ℕ) (p : Payload) (us vs : List A) → add_element element at end p us ≡ Ok vs → us ++ messages_of one p ≡ vs
  add_gives at end (Long b) us vs e =
      let r = bind_ok (element at end b) (λ (x : A). Ok (us ++ x ∷ [])) vs e in
      ap (λ (x : A). us ++ x ∷ []) (gives at end b r.0 r.1) ∙ ok_is (us ++ r.0 ∷ []) vs r.2
  add_gives at end p us vs e = append-nil us ∙ ok_is us vs e

  -- by whether the field is an element
  test_gives : (t : Bool) (at end : ℕ) (p : Payload) (ps : List Payload) (us vs : List A) → cond t (add_element element at end p us) (Ok us) ≡ Ok vs
      → us ++ flat_map (messages_of one) (cond t (p ∷ ps) ps) ≡ vs ++ flat_map (messages_of one) ps
  test_gives true at end p ps us vs e = fold_many (messages_of one) p ps us vs (add_gives at end p us vs e)
  test_gives false at end p ps us vs e = ap (λ (x : List A). x ++ flat_map (messages_of one) ps) (ok_is us vs e)

  -- what the whole message gains
  elements_give : (end : ℕ) (b : List ℕ) (us vs : List A) → message (take_element element) end b us ≡ Ok vs → us ++ elements_value one (fields (trace 0 b)) ≡ vs
  elements_give end b us vs e =
      ap (λ (fs : List Field). us ++ elements_value one fs) (sym (fields_place (end - length b) b) ∙ sym (append-nil (fields (trace (end - length b) b))))
      ∙ law_over (take_element element) (λ (xs : List A) (fs : List Field). xs ++ elements_value one fs)
      (λ at end f u v fs q. test_gives (f.number == 1) at end f.payload (of_number 1 fs) u v q) (trace (end - length b) b) us vs [] e
      ∙ append-nil vs

-- ---- keys and values, and members

module _ (inner : ℕ → ℕ → List ℕ → AnyValue → Result AnyValue Fault) (pure : AnyValue → List Field → AnyValue) (nil : (u : AnyValue) → pure u [] ≡ u)
    (gives : (at end : ℕ) (b : List ℕ) (u v : AnyValue) (fs : List Field) → inner at end b u ≡ Ok v → pure u (fields (trace 0 b) ++ fs) ≡ pure v fs) where
  -- an element of an ArrayValue
  pub item_gives : ElementGives (item_at inner) (pure AnyValue.Empty)
  item_gives at end b x e = ap (pure AnyValue.Empty) (sym (append-nil (fields (trace 0 b)))) ∙ gives at end b AnyValue.Empty x [] e ∙ nil x

  -- the value after a key
  pub go_on_gives : (at end : ℕ) (p : Payload) (ps : List Payload) (u v : AnyValue) → go_on inner at end p u ≡ Ok v → pure u (flat_map inside (p ∷ ps)) ≡ pure v (flat_map inside ps)
  go_on_gives at end (Long b) ps u v e = gives at end b u v (flat_map inside ps) e
  go_on_gives at end p ps u v e = ap (λ (x : AnyValue). pure x (flat_map inside ps)) (ok_is u v e)

  -- a field of a key and its value, by its number
  pair_gives : (s t : Bool) → (s ≡ true → t ≡ false) → (at end : ℕ) (p : Payload) (ks vs : List Payload) (u v : KeyValue)
      → cond s (one_text at p u.0 >>= λ k. Ok (k, u.1)) (cond t (go_on inner at end p u.1) (Ok u.1) >>= λ x. Ok (u.0, x)) ≡ Ok v
      → (let a : KeyValue = (last_said bytes_in (cond s (p ∷ ks) ks) u.0, pure u.1 (flat_map inside (cond t (p ∷ vs) vs))) in
      let b : KeyValue = (last_said bytes_in ks v.0, pure v.1 (flat_map inside vs)) in a ≡ b)
  pair_gives true true h at end p ks vs u v e = absurd (let z = h refl in cc)
  pair_gives true false h at end p ks vs u v e =
      let r = bind_ok (one_text at p u.0) (λ (k : List ℕ). let w : KeyValue = (k, u.1) in Ok w) v e in
      ap (λ (k : List ℕ). let w : KeyValue = (last_said bytes_in ks k, pure u.1 (flat_map inside vs)) in w) (text_said at p u.0 r.0 r.1)
      ∙ ap (λ (y : KeyValue). let w : KeyValue = (last_said bytes_in ks y.0, pure y.1 (flat_map inside vs)) in w) (ok_is (r.0, u.1) v r.2)
  pair_gives false true h at end p ks vs u v e =
      let r = bind_ok (go_on inner at end p u.1) (λ (x : AnyValue). let w : KeyValue = (u.0, x) in Ok w) v e in
      ap (λ (x : AnyValue). let w : KeyValue = (last_said bytes_in ks u.0, x) in w) (go_on_gives at end p vs u.1 r.0 r.1)
      ∙ ap (λ (y : KeyValue). let w : KeyValue = (last_said bytes_in ks y.0, pure y.1 (flat_map inside vs)) in w) (ok_is (u.0, r.0) v r.2)
  pair_gives false false h at end p ks vs u v e =
      ap (λ (y : KeyValue). let w : KeyValue = (last_said bytes_in ks y.0, pure y.1 (flat_map inside vs)) in w) (ok_is (u.0, u.1) v e)

  -- an element of a KeyValueList
  pair_at_gives : ElementGives (pair_at inner) (pair_value pure ([], AnyValue.Empty))
  pair_at_gives at end b x e =
      ap (pair_value pure ([], AnyValue.Empty)) (sym (fields_place (end - length b) b) ∙ sym (append-nil (fields (trace (end - length b) b))))
      ∙ law_over (take_pair inner) (pair_value pure)
      (λ at end f u v fs q. pair_gives (f.number == 1) (f.number == 2) (λ t. ne_eqb f.number 2 (λ two. let one = eqb-true f.number 1 t in absurd (omega arith))) at end f.payload (of_number 1 fs) (of_number 2 fs) u v q)
      (trace (end - length b) b) ([], AnyValue.Empty) x [] e
      ∙ ap (λ (y : AnyValue). let w : KeyValue = (x.0, y) in w) (nil x.1)

  -- a member
  put_gives : (at end : ℕ) (m : Member) (u v : AnyValue) → put_member inner at end m u ≡ Ok v → put_value pure m u ≡ v
  put_gives at end (TextIn b) u v e =
      let r = bind_ok (text_of at b) (λ (t : List ℕ). Ok (AnyValue.Text t)) v e in
      ap (λ x. AnyValue.Text x) (checked_ok (is_utf8 b) b r.0 (fault_at at NotUtf8) r.1).1 ∙ ok_is (AnyValue.Text r.0) v r.2
  put_gives at end (ItemsIn b) u v e =
      let r = map_ok (message (take_element (item_at inner)) end b (items_in u)) items v e in
      ap items (elements_give (item_at inner) (pure AnyValue.Empty) item_gives end b (items_in u) r.0 r.1) ∙ r.2
  put_gives at end (PairsIn b) u v e =
      let r = map_ok (message (take_element (pair_at inner)) end b (pairs_in u)) pairs v e in
      ap pairs (elements_give (pair_at inner) (pair_value pure ([], AnyValue.Empty)) pair_at_gives end b (pairs_in u) r.0 r.1) ∙ r.2
  put_gives at end m u v e = ok_is (put_value pure m u) v e

  -- a field, by whether it is a member
  if_gives : (at end : ℕ) (o : Option Member) (ms : List Member) (u v : AnyValue) → put_if inner at end o u ≡ Ok v → over (put_value pure) u (and_member o ms) ≡ over (put_value pure) v ms
  if_gives at end (Some m) ms u v e = ap (λ (x : AnyValue). over (put_value pure) x ms) (put_gives at end m u v e)
  if_gives at end None ms u v e = ap (λ (x : AnyValue). over (put_value pure) x ms) (ok_is u v e)

  -- a payload
  members_give : (end : ℕ) (b : List ℕ) (u v : AnyValue) (fs : List Field) → message (take_member inner) end b u ≡ Ok v
      → over (put_value pure) u (members (fields (trace 0 b) ++ fs)) ≡ over (put_value pure) v (members fs)
  members_give end b u v fs e =
      ap (λ (gs : List Field). over (put_value pure) u (members (gs ++ fs))) (sym (fields_place (end - length b) b))
      ∙ law_over (take_member inner) (λ (x : AnyValue) (gs : List Field). over (put_value pure) x (members gs))
      (λ at end f u v gs q. if_gives at end (member_in f) (members gs) u v q) (trace (end - length b) b) u v fs e

-- with so many levels left
pub any_gives : (left at end : ℕ) (b : List ℕ) (u v : AnyValue) (fs : List Field) → merge_any left at end b u ≡ Ok v → any_value left u (fields (trace 0 b) ++ fs) ≡ any_value left v fs
unfolding merge_any
any_gives zero at end b u v fs e = absurd cc
any_gives (suc left) at end b u v fs e = members_give (merge_any left) (any_value left) (any_nil left) (any_gives left) end b u v fs e

-- a field that is taken is no more among the fields to come
pub step_gives : (left at end : ℕ) (f : Field) (u v : AnyValue) (fs : List Field) → take_member (merge_any left) at end f u ≡ Ok v → any_value (suc left) u (f ∷ fs) ≡ any_value (suc left) v fs
step_gives left at end f u v fs e = if_gives (merge_any left) (any_value left) (any_nil left) (any_gives left) at end (member_in f) (members fs) u v e
