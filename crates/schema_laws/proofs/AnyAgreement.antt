-- An AnyValue is read with a fault exactly where its payload has that fault, and otherwise what is read depends on no place.
use Rattle.std.proofs.Common.{◌≡◌, ℕ, zero, suc, ◌-◌, List, [], ◌∷◌, ◌++◌, length, Option, Some, None, Result, Ok, Err, sym, ap, arith, inl, inr}
use Rattle.std.specs.Prelude.{◌⊎◌, ◌==◌}
use Rattle.std.specs.Str.{is_utf8}
use Rattle.std.proofs.lemmas.Bool.{eqb-true, eqb-false}
use Rattle.schema.specs.Field.{Field, Long, Payload}
use Rattle.schema.specs.Fault.{Fault, NotUtf8, TooDeep, fault_at}
use Rattle.schema.specs.FirstFault.{FirstFault}
use Rattle.schema.specs.Run.{one_text, text_of, message}
use Rattle.schema.specs.AnyValue.{AnyValue, KeyValue, items, items_in, pairs, pairs_in}
use Rattle.schema.specs.AnyMember.{Member, TextIn, ItemsIn, PairsIn, member_in}
use Rattle.schema.specs.AnyMerge.{add_element, go_on, item_at, merge_any, pair_at, put_if, put_member, take_element, take_member, take_pair, take_value}
use Rattle.schema.specs.AnyFaults.{AnyFault, ElementFault, IfMember, InMember, InPair, LongFault, MemberFault, PairFault, TextFault}
use Rattle.schema_laws.proofs.Results.{err_is, map_err, map_at, map_both, checked_err, checked_fails, checked_steady}
use Rattle.schema_laws.proofs.StepAgreement.{row_hits, row_misses, row_steady, PayloadAgrees, StepAgrees, message_agrees, test_hits, test_misses, test_steady}

-- ---- lists of elements

module _ {A : Type 0} (element : ℕ → ℕ → List ℕ → Result A Fault) (Element : ℕ → ℕ → List ℕ → Fault → Type 0) (a : PayloadAgrees element Element) where
  -- an element that fails has the fault
  pub add_hits : (at end : ℕ) (p : Payload) (xs : List A) (g : Fault) → add_element element at end p xs ≡ Err g → LongFault Element at end p g
  add_hits at end (Long b) xs g e = a.hits at end b g (map_err (element at end b) (λ (x : A). xs ++ x ∷ []) g e)
  add_hits at end p xs g e = absurd cc

  -- and one that has the fault fails
  pub add_misses : (at end : ℕ) (p : Payload) (xs : List A) (g : Fault) → LongFault Element at end p g → add_element element at end p xs ≡ Err g
  add_misses at end (Long b) xs g e = map_at (element at end b) (λ (x : A). xs ++ x ∷ []) g (a.misses at end b g e)
  add_misses at end p xs g e = absurd e

  -- and one that is taken depends on no place
  pub add_steady : (at end : ℕ) (p : Payload) (xs ys : List A) → add_element element at end p xs ≡ Ok ys → (c d : ℕ) → add_element element c d p xs ≡ Ok ys
  add_steady at end (Long b) xs ys e c d = map_both (element at end b) (element c d b) (λ (x : A). xs ++ x ∷ []) ys (λ x q. a.steady at end b x q c d) e
  add_steady at end p xs ys e c d = e

  -- so does a field
  pub elements_agree : StepAgrees (take_element element) (ElementFault Element)
  elements_agree = record {
    hits = λ at end f xs g e. test_hits (f.number == 1) (f.number ≡ 1) (LongFault Element at end f.payload g) (add_element element at end f.payload xs) xs g
        (eqb-true f.number 1) (add_hits at end f.payload xs g) e;
    misses = λ at end f xs g e. test_misses (f.number == 1) (f.number ≡ 1) (LongFault Element at end f.payload g) (add_element element at end f.payload xs) xs g
        (eqb-false f.number 1) (add_misses at end f.payload xs g) e;
    steady = λ at end f xs ys e c d. test_steady (f.number == 1) (add_element element at end f.payload xs) (add_element element c d f.payload xs) xs ys
        (λ q. add_steady at end f.payload xs ys q c d) e;
  }

-- ---- texts

-- a key that fails is no text
key_hits : (at end : ℕ) (p : Payload) (k : List ℕ) (g : Fault) → one_text at p k ≡ Err g → LongFault (λ at end b g. TextFault at b g) at end p g
key_hits at end (Long b) k g e = checked_err (is_utf8 b) b (fault_at at NotUtf8) g e
key_hits at end p k g e = absurd cc

-- and one that is no text fails
key_misses : (at end : ℕ) (p : Payload) (k : List ℕ) (g : Fault) → LongFault (λ at end b g. TextFault at b g) at end p g → one_text at p k ≡ Err g
key_misses at end (Long b) k g e = checked_fails (is_utf8 b) b (fault_at at NotUtf8) g e
key_misses at end p k g e = absurd e

-- and one that is a text depends on no place
key_steady : (at c : ℕ) (p : Payload) (k t : List ℕ) → one_text at p k ≡ Ok t → one_text c p k ≡ Ok t
key_steady at c (Long b) k t e = checked_steady (is_utf8 b) b (fault_at at NotUtf8) (fault_at c NotUtf8) t e
key_steady at c p k t e = e

-- ---- keys and values, and members

module _ (inner : ℕ → ℕ → List ℕ → AnyValue → Result AnyValue Fault) (Inner : ℕ → ℕ → List ℕ → Fault → Type 0)
    (a : (u : AnyValue) → PayloadAgrees (λ at end b. inner at end b u) Inner) where
  -- a value that fails has the fault
  pub value_hits : (at end : ℕ) (p : Payload) (v : AnyValue) (g : Fault) → go_on inner at end p v ≡ Err g → LongFault Inner at end p g
  value_hits at end (Long b) v g e = let i = a v in i.hits at end b g e
  value_hits at end p v g e = absurd cc

  -- and one that has the fault fails
  pub value_misses : (at end : ℕ) (p : Payload) (v : AnyValue) (g : Fault) → LongFault Inner at end p g → go_on inner at end p v ≡ Err g
  value_misses at end (Long b) v g e = let i = a v in i.misses at end b g e
  value_misses at end p v g e = absurd e

  -- and one that is read depends on no place
  pub value_steady : (at end : ℕ) (p : Payload) (v w : AnyValue) → go_on inner at end p v ≡ Ok w → (c d : ℕ) → go_on inner c d p v ≡ Ok w
  value_steady at end (Long b) v w e c d = let i = a v in i.steady at end b w e c d
  value_steady at end p v w e c d = e

  -- what a field of the number 2 is, where it is of no other number
  two_of : (f : Field) (P Q : Type 0) → ((f.number ≡ 1) × P) ⊎ (((f.number ≡ 1) → ⊥) × ((f.number ≡ 2) × Q)) → ((f.number ≡ 1) × P) ⊎ ((f.number ≡ 2) × Q)
  two_of f P Q (inl w) = inl w
  two_of f P Q (inr w) = inr w.1

  -- and back
  of_two : (f : Field) (P Q : Type 0) → ((f.number ≡ 1) × P) ⊎ ((f.number ≡ 2) × Q) → ((f.number ≡ 1) × P) ⊎ (((f.number ≡ 1) → ⊥) × ((f.number ≡ 2) × Q))
  of_two f P Q (inl w) = inl w
  of_two f P Q (inr w) = inr (λ e. let two = w.0 in absurd (omega arith), w)

  -- the key of a field
  abbrev Key : ℕ → ℕ → Field → Fault → Type 0
  Key at end f g = LongFault (λ at end b g. TextFault at b g) at end f.payload g

  -- a field of a key and its value
  pub pair_agrees : StepAgrees (take_pair inner) (PairFault Inner)
  pair_agrees = record {
    hits = λ at end f kv g e. two_of f (Key at end f g) (LongFault Inner at end f.payload g)
        (row_hits (f.number == 1) (f.number ≡ 1) (Key at end f g) ((f.number ≡ 2) × LongFault Inner at end f.payload g)
        (one_text at f.payload kv.0) (take_value inner at end f kv.1) (λ (k : List ℕ). let r : KeyValue = (k, kv.1) in r) (λ (v : AnyValue). let r : KeyValue = (kv.0, v) in r) g
        (eqb-true f.number 1) (eqb-false f.number 1) (key_hits at end f.payload kv.0 g)
        (test_hits (f.number == 2) (f.number ≡ 2) (LongFault Inner at end f.payload g) (go_on inner at end f.payload kv.1) kv.1 g (eqb-true f.number 2) (value_hits at end f.payload kv.1 g)) e);
    misses = λ at end f kv g e. row_misses (f.number == 1) (f.number ≡ 1) (Key at end f g) ((f.number ≡ 2) × LongFault Inner at end f.payload g)
        (one_text at f.payload kv.0) (take_value inner at end f kv.1) (λ (k : List ℕ). let r : KeyValue = (k, kv.1) in r) (λ (v : AnyValue). let r : KeyValue = (kv.0, v) in r) g
        (eqb-true f.number 1) (eqb-false f.number 1) (key_misses at end f.payload kv.0 g)
        (test_misses (f.number == 2) (f.number ≡ 2) (LongFault Inner at end f.payload g) (go_on inner at end f.payload kv.1) kv.1 g (eqb-false f.number 2) (value_misses at end f.payload kv.1 g))
        (of_two f (Key at end f g) (LongFault Inner at end f.payload g) e);
    steady = λ at end f kv w e c d. row_steady (f.number == 1) (one_text at f.payload kv.0) (one_text c f.payload kv.0) (take_value inner at end f kv.1) (take_value inner c d f kv.1)
        (λ (k : List ℕ). let r : KeyValue = (k, kv.1) in r) (λ (v : AnyValue). let r : KeyValue = (kv.0, v) in r) w (λ t q. key_steady at c f.payload kv.0 t q)
        (λ v q. test_steady (f.number == 2) (go_on inner at end f.payload kv.1) (go_on inner c d f.payload kv.1) kv.1 v (λ r. value_steady at end f.payload kv.1 v r c d) q) e;
  }

  -- an element of a KeyValueList
  pub in_pair_agrees : PayloadAgrees (pair_at inner) (InPair Inner)
  in_pair_agrees = message_agrees (take_pair inner) (PairFault Inner) pair_agrees ([], AnyValue.Empty)

  -- an ArrayValue, over the elements so far
  pub items_agree : (vs : List AnyValue) → PayloadAgrees (λ at end b. message (take_element (item_at inner)) end b vs) (λ at end b g. FirstFault (ElementFault Inner) (end - length b) b g)
  items_agree vs = message_agrees (take_element (item_at inner)) (ElementFault Inner) (elements_agree (item_at inner) Inner (a AnyValue.Empty)) vs

  -- a KeyValueList, over the elements so far
  pub pairs_agree : (kvs : List KeyValue) → PayloadAgrees (λ at end b. message (take_element (pair_at inner)) end b kvs) (λ at end b g. FirstFault (ElementFault (InPair Inner)) (end - length b) b g)
  pairs_agree kvs = message_agrees (take_element (pair_at inner)) (ElementFault (InPair Inner)) (elements_agree (pair_at inner) (InPair Inner) in_pair_agrees) kvs

  -- a member that fails has the fault
  put_hits : (at end : ℕ) (m : Member) (u : AnyValue) (g : Fault) → put_member inner at end m u ≡ Err g → InMember Inner at end m g
  put_hits at end (TextIn b) u g e = checked_err (is_utf8 b) b (fault_at at NotUtf8) g (map_err (text_of at b) (λ (t : List ℕ). AnyValue.Text t) g e)
  put_hits at end (ItemsIn b) u g e = let i = items_agree (items_in u) in i.hits at end b g (map_err (message (take_element (item_at inner)) end b (items_in u)) items g e)
  put_hits at end (PairsIn b) u g e = let i = pairs_agree (pairs_in u) in i.hits at end b g (map_err (message (take_element (pair_at inner)) end b (pairs_in u)) pairs g e)
  put_hits at end m u g e = absurd cc

  -- and one that has the fault fails
  put_misses : (at end : ℕ) (m : Member) (u : AnyValue) (g : Fault) → InMember Inner at end m g → put_member inner at end m u ≡ Err g
  put_misses at end (TextIn b) u g e = map_at (text_of at b) (λ (t : List ℕ). AnyValue.Text t) g (checked_fails (is_utf8 b) b (fault_at at NotUtf8) g e)
  put_misses at end (ItemsIn b) u g e = let i = items_agree (items_in u) in map_at (message (take_element (item_at inner)) end b (items_in u)) items g (i.misses at end b g e)
  put_misses at end (PairsIn b) u g e = let i = pairs_agree (pairs_in u) in map_at (message (take_element (pair_at inner)) end b (pairs_in u)) pairs g (i.misses at end b g e)
  put_misses at end m u g e = absurd e

  -- and one that is put depends on no place
  put_steady : (at end : ℕ) (m : Member) (u w : AnyValue) → put_member inner at end m u ≡ Ok w → (c d : ℕ) → put_member inner c d m u ≡ Ok w
  put_steady at end (TextIn b) u w e c d = map_both (text_of at b) (text_of c b) (λ (t : List ℕ). AnyValue.Text t) w (λ x q. checked_steady (is_utf8 b) b (fault_at at NotUtf8) (fault_at c NotUtf8) x q) e
  put_steady at end (ItemsIn b) u w e c d = let i = items_agree (items_in u) in
      map_both (message (take_element (item_at inner)) end b (items_in u)) (message (take_element (item_at inner)) d b (items_in u)) items w (λ x q. i.steady at end b x q c d) e
  put_steady at end (PairsIn b) u w e c d = let i = pairs_agree (pairs_in u) in
      map_both (message (take_element (pair_at inner)) end b (pairs_in u)) (message (take_element (pair_at inner)) d b (pairs_in u)) pairs w (λ x q. i.steady at end b x q c d) e
  put_steady at end m u w e c d = e

  -- the same where a field may be no member
  if_hits : (at end : ℕ) (o : Option Member) (u : AnyValue) (g : Fault) → put_if inner at end o u ≡ Err g → IfMember Inner at end o g
  if_hits at end (Some m) u g e = put_hits at end m u g e
  if_hits at end None u g e = absurd cc

  -- and the other way
  if_misses : (at end : ℕ) (o : Option Member) (u : AnyValue) (g : Fault) → IfMember Inner at end o g → put_if inner at end o u ≡ Err g
  if_misses at end (Some m) u g e = put_misses at end m u g e
  if_misses at end None u g e = absurd e

  -- at any place
  if_steady : (at end : ℕ) (o : Option Member) (u w : AnyValue) → put_if inner at end o u ≡ Ok w → (c d : ℕ) → put_if inner c d o u ≡ Ok w
  if_steady at end (Some m) u w e c d = put_steady at end m u w e c d
  if_steady at end None u w e c d = e

  -- a field of an AnyValue
  pub member_agrees : StepAgrees (take_member inner) (MemberFault Inner)
  member_agrees = record {
    hits = λ at end f u g e. if_hits at end (member_in f) u g e;
    misses = λ at end f u g e. if_misses at end (member_in f) u g e;
    steady = λ at end f u w e c d. if_steady at end (member_in f) u w e c d;
  }

-- ---- levels

-- an AnyValue with so many levels left
pub any_agrees : (left : ℕ) (u : AnyValue) → PayloadAgrees (λ at end b. merge_any left at end b u) (AnyFault left)
unfolding merge_any
any_agrees zero u = record {
  hits = λ at end b g e. sym (err_is {A = AnyValue} (fault_at at TooDeep) g e);
  misses = λ at end b g e. ap (λ (x : Fault). let r : Result AnyValue Fault = Err x in r) (sym e);
  steady = λ at end b x e c d. absurd cc;
}
any_agrees (suc left) u = message_agrees (take_member (merge_any left)) (MemberFault (AnyFault left)) (member_agrees (merge_any left) (AnyFault left) (any_agrees left)) u

-- an Err is the first fault
pub any_err : (left at end : ℕ) (b : List ℕ) (u : AnyValue) (g : Fault) → merge_any left at end b u ≡ Err g → AnyFault left at end b g
any_err left at end b u g e = let a = any_agrees left u in a.hits at end b g e

-- and the first fault is the Err
pub any_fault : (left at end : ℕ) (b : List ℕ) (u : AnyValue) (g : Fault) → AnyFault left at end b g → merge_any left at end b u ≡ Err g
any_fault left at end b u g e = let a = any_agrees left u in a.misses at end b g e
