-- The test of a message row by row is that of the walk's first index that is in no table.
use Rattle.std.proofs.Common.{◌≡◌, ℕ, suc, ◌+◌, ◌<◌, ◌≤◌, Bool, true, false, cond, List, [], ◌∷◌, ◌++◌, length, map, get_or, drop, Ok, Err, refl, sym, ap, ◌∙◌, add-one}
use Rattle.std.proofs.lemmas.List.{at_drop_more, at_drop_all}
use Rattle.schema.specs.Messages.{mapping, location, function, attribute, stack, dictionary, envelope}
use Rattle.schema.specs.Shape.{Shape, Index, One, Many, Value}
use Rattle.schema.specs.Decoding.{◌>>=◌}
use Rattle.pb_wire.specs.declared.table_kind.TableKind.{TableKind}
use Rattle.pb_wire.specs.declared.table_kind.TableKind.TheVariants as kind
use Rattle.otlp_msg.specs.declared.path.Holder.{Holder}
use Rattle.otlp_msg.specs.declared.refusal.Refusal.{Refusal}
use Rattle.otlp_msg.specs.Walk.{Spot, entered, entry_holder, row_spots, each_spots, spots, table_spots, dictionary_spots, resource_spots, message_spots, is_index, dangling, within}
use Rattle.otlp_msg.specs.Within.{Passed, row_within, each_within, value_within}

-- ---- lists of indexes

-- one test after the other, by parts that are the same
pub both : (a b c d : Passed) → a ≡ b → c ≡ d → (a >>= λ _. c) ≡ (b >>= λ _. d)
both a b c d e f = rw (e, f) refl

-- what comes after nothing is that
pub then_done : (a : Passed) → (a >>= λ _. Ok tt) ≡ a
then_done (Ok tt) = refl
then_done (Err why) = refl

-- one test, and others after it
stepped : (t : Bool) (a b next : Passed) (why : Refusal) → a ≡ (b >>= λ _. next) → cond t a (Err why) ≡ (cond t b (Err why) >>= λ _. next)
stepped true a b next why e = e
stepped false a b next why e = refl

-- two lists of indexes are tested one after the other
pub within_append : (len : TableKind → ℕ) (xs ys : List Spot) → within len (xs ++ ys) ≡ (within len xs >>= λ _. within len ys)
within_append len [] ys = refl
within_append len (x ∷ xs) ys = stepped (is_index (len x.table) x.index) (within len (xs ++ ys)) (within len xs) (within len ys) (dangling len x) (within_append len xs ys)

-- the tests of elements are those of their indexes
pub each_walked : {A : Type 0} (len : TableKind → ℕ) (test : ℕ → A → Passed) (spots_of : ℕ → A → List Spot) → ((i : ℕ) (x : A) → test i x ≡ within len (spots_of i x))
    → (i : ℕ) (xs : List A) → each_within test i xs ≡ within len (each_spots spots_of i xs)
each_walked len test spots_of h i [] = refl
each_walked len test spots_of h i (x ∷ xs) =
    both (test i x) (within len (spots_of i x)) (each_within test (suc i) xs) (within len (each_spots spots_of (suc i) xs)) (h i x) (each_walked len test spots_of h (suc i) xs)
    ∙ sym (within_append len (spots_of i x) (each_spots spots_of (suc i) xs))

-- ---- messages

-- a row, or an element of a repeated one
row_walked : (k : Shape) (len : TableKind → ℕ) (by : Holder) (field item : ℕ) (test : Holder → Value k → Passed) (spots_of : Holder → Value k → List Spot)
    → ((h : Holder) (v : Value k) → test h v ≡ within len (spots_of h v)) → (v : Value k) → row_within k len by field item test v ≡ within len (row_spots k by field item spots_of v)
row_walked (Index T k) len by field item test spots_of h v = refl
row_walked k len by field item test spots_of h v = h (entered by field item) v

-- the test of a message is that of its indexes
pub value_walked : (s : Shape) (len : TableKind → ℕ) (by : Holder) (v : Value s) → value_within s len by v ≡ within len (spots s by v)
value_walked (One n k rest) len by v =
    both (row_within k len by n 0 (value_within k len) v.0) (within len (row_spots k by n 0 (spots k) v.0)) (value_within rest len by v.1) (within len (spots rest by v.1))
    (row_walked k len by n 0 (value_within k len) (spots k) (value_walked k len) v.0) (value_walked rest len by v.1)
    ∙ sym (within_append len (row_spots k by n 0 (spots k) v.0) (spots rest by v.1))
value_walked (Many n k rest) len by v =
    both (each_within (λ i. row_within k len by n i (value_within k len)) 0 v.0) (within len (each_spots (λ i. row_spots k by n i (spots k)) 0 v.0)) (value_within rest len by v.1) (within len (spots rest by v.1))
    (each_walked len (λ i. row_within k len by n i (value_within k len)) (λ i. row_spots k by n i (spots k)) (λ i. row_walked k len by n i (value_within k len) (spots k) (value_walked k len)) 0 v.0)
    (value_walked rest len by v.1)
    ∙ sym (within_append len (each_spots (λ i. row_spots k by n i (spots k)) 0 v.0) (spots rest by v.1))
value_walked s len by v = refl

-- the test of a table
pub table_walked : (s : Shape) (len : TableKind → ℕ) (table : TableKind) (entries : List (Value s)) → each_within (λ i. value_within s len (entry_holder table i)) 0 entries ≡ within len (table_spots s table entries)
table_walked s len table entries = each_walked len (λ i. value_within s len (entry_holder table i)) (λ i. spots s (entry_holder table i)) (λ i. value_walked s len (entry_holder table i)) 0 entries

-- ---- loops

-- the test of elements that are seen as others
pub each_mapped : {A B : Type 0} (test : ℕ → B → Passed) (view : A → B) (i : ℕ) (xs : List A) → each_within test i (map view xs) ≡ each_within (λ j x. test j (view x)) i xs
each_mapped test view i [] = refl
each_mapped test view i (x ∷ xs) =
    both (test i (view x)) (test i (view x)) (each_within test (suc i) (map view xs)) (each_within (λ j y. test j (view y)) (suc i) xs) refl (each_mapped test view (suc i) xs)

-- What a loop has left at its place i: the whole test is that of the elements from there on.
abbrev pub Left : {A : Type 0} → (ℕ → A → Passed) → ℕ → List A → Type 0
Left test i xs = each_within test 0 xs ≡ each_within test i (drop i xs)

-- one element is tested and then the others
pub at_place : {A : Type 0} (test : ℕ → A → Passed) (i : ℕ) (xs : List A) (x : A) → i < length xs → x ≡ get_or xs i x → Left test i xs
    → each_within test 0 xs ≡ (test i x >>= λ _. each_within test (suc i) (drop (i + 1) xs))
at_place test i xs x lt is left =
    left ∙ at_drop_more (each_within test i) xs i x lt ∙ ap (λ y. test i y >>= λ _. each_within test (suc i) (drop (i + 1) xs)) (sym is)

-- a loop goes on after an element that passed
pub goes_on : {A : Type 0} (test : ℕ → A → Passed) (i : ℕ) (xs : List A) (x : A) → i < length xs → x ≡ get_or xs i x → Left test i xs → test i x ≡ Ok tt → Left test (i + 1) xs
goes_on test i xs x lt is left passed =
    at_place test i xs x lt is left ∙ ap (λ (r : Passed). r >>= λ _. each_within test (suc i) (drop (i + 1) xs)) passed ∙ rw add-one refl

-- it stops at one that did not
pub stops : {A : Type 0} (test : ℕ → A → Passed) (i : ℕ) (xs : List A) (x : A) (why : Refusal) → i < length xs → x ≡ get_or xs i x → Left test i xs → test i x ≡ Err why → each_within test 0 xs ≡ Err why
stops test i xs x why lt is left failed =
    at_place test i xs x lt is left ∙ ap (λ (r : Passed). r >>= λ _. each_within test (suc i) (drop (i + 1) xs)) failed

-- and at the end all have passed
pub ends : {A : Type 0} (test : ℕ → A → Passed) (i : ℕ) (xs : List A) → length xs ≤ i → Left test i xs → each_within test 0 xs ≡ Ok tt
ends test i xs le left = left ∙ at_drop_all (each_within test i) xs i le

-- the same where the elements are seen as others, and the loop goes over `ys`, which is `xs`
abbrev pub LeftSeen : {A B : Type 0} → (ℕ → B → Passed) → (A → B) → ℕ → List A → Type 0
LeftSeen test view i ys = Left (λ j y. test j (view y)) i ys

pub goes_on_seen : {A B : Type 0} (test : ℕ → B → Passed) (view : A → B) (ys : List A) (i : ℕ) (x : A) (r : Passed) → i < length ys → x ≡ get_or ys i x → LeftSeen test view i ys
    → r ≡ test i (view x) → r ≡ Ok tt → LeftSeen test view (i + 1) ys
goes_on_seen test view ys i x r lt is left ran passed = goes_on (λ j y. test j (view y)) i ys x lt is left (sym ran ∙ passed)

pub stops_seen : {A B : Type 0} (test : ℕ → B → Passed) (view : A → B) (xs ys : List A) (i : ℕ) (x : A) (r : Passed) (why : Refusal) → ys ≡ xs → i < length ys → x ≡ get_or ys i x
    → LeftSeen test view i ys → r ≡ test i (view x) → r ≡ Err why → Err why ≡ each_within test 0 (map view xs)
stops_seen {A} test view xs ys i x r why same lt is left ran failed =
    sym (each_mapped test view 0 xs ∙ ap (each_within (λ j (y : A). test j (view y)) 0) (sym same) ∙ stops (λ j y. test j (view y)) i ys x why lt is left (sym ran ∙ failed))

pub ends_seen : {A B : Type 0} (test : ℕ → B → Passed) (view : A → B) (xs ys : List A) (i : ℕ) → ys ≡ xs → length ys ≤ i → LeftSeen test view i ys → Ok tt ≡ each_within test 0 (map view xs)
ends_seen {A} test view xs ys i same le left =
    sym (each_mapped test view 0 xs ∙ ap (each_within (λ j (y : A). test j (view y)) 0) (sym same) ∙ ends (λ j y. test j (view y)) i ys le left)

-- ---- whole messages

-- the test of a table
abbrev pub table_within : (s : Shape) → (TableKind → ℕ) → TableKind → List (Value s) → Passed
table_within s len table entries = each_within (λ i. value_within s len (entry_holder table i)) 0 entries

-- five tests, one after the other
abbrev pub five : Passed → Passed → Passed → Passed → Passed → Passed
five a b c e f = a >>= λ _. (b >>= λ _. (c >>= λ _. (e >>= λ _. f)))

-- the tables are tested one after the other
pub tables_walked : (len : TableKind → ℕ) (d : Value dictionary)
    → within len (dictionary_spots d)
    ≡ five (table_within mapping len kind.Mapping d.0) (table_within location len kind.Location d.1.0) (table_within function len kind.Function d.1.1.0) (table_within attribute len kind.Attribute d.1.1.1.1.1.0) (table_within stack len kind.Stack d.1.1.1.1.1.1.0)
tables_walked len d =
    let a = table_spots mapping kind.Mapping d.0 in
    let b = table_spots location kind.Location d.1.0 in
    let c = table_spots function kind.Function d.1.1.0 in
    let e = table_spots attribute kind.Attribute d.1.1.1.1.1.0 in
    let f = table_spots stack kind.Stack d.1.1.1.1.1.1.0 in
    rw (
      table_walked mapping len kind.Mapping d.0,
      table_walked location len kind.Location d.1.0,
      table_walked function len kind.Function d.1.1.0,
      table_walked attribute len kind.Attribute d.1.1.1.1.1.0,
      table_walked stack len kind.Stack d.1.1.1.1.1.1.0,
      within_append len a (b ++ (c ++ (e ++ f))),
      within_append len b (c ++ (e ++ f)),
      within_append len c (e ++ f),
      within_append len e f,
    ) refl

-- the tables and then the records
pub message_walked : (len : TableKind → ℕ) (m : Value envelope)
    → (within len (dictionary_spots m.1.0) >>= λ _. each_within (λ i v. within len (resource_spots i v)) 0 m.0) ≡ within len (message_spots m)
message_walked len m =
    ap (λ (r : Passed). within len (dictionary_spots m.1.0) >>= λ _. r) (each_walked len (λ i v. within len (resource_spots i v)) resource_spots (λ i v. refl) 0 m.0)
    ∙ sym (within_append len (dictionary_spots m.1.0) (each_spots resource_spots 0 m.0))

-- where the tables passed, the answer is that of the records
pub records_tell : (a b r : Passed) → a ≡ Ok tt → b ≡ r → (a >>= λ _. b) ≡ r
records_tell a b r p q = rw p q

-- and where they did not, theirs
pub tables_tell : (a b : Passed) (why : Refusal) → a ≡ Err why → (a >>= λ _. b) ≡ Err why
tables_tell a b why p = rw p refl
