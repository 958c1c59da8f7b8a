-- The test of a list of indexes, what it says, and what follows for the values in which they are.
use Rattle.std.proofs.Common.{◌≡◌, ℕ, suc, ℤ, pos, negsuc, Bool, true, false, cond, List, [], ◌∷◌, ◌++◌, length, map, Ok, Err, refl, sym, ap, subst, ◌∙◌, rules}
use Rattle.std.proofs.lemmas.Bool.{ltb-true, lt-ltb}
use Rattle.std.proofs.lemmas.List.{length-map}
use Rattle.schema.specs.Each.{Each}
use Rattle.schema.specs.Fits.{Lawful}
use Rattle.schema.specs.Messages.{mapping, location, function, link, attribute, stack, profile, scope, scope_profiles, resource, resource_profiles, dictionary, entries_in}
use Rattle.schema.specs.Shape.{Shape, Number, Fixed, Bytes, Text, Any, Index, End, One, Many, IsMessage, Value, Table, Mappings, Locations, Functions, Links, Strings, Attributes, Stacks}
use Rattle.schema_laws.proofs.Lawfulness.{lawful_from}
use Rattle.schema_laws.proofs.Lists.{each_left, each_right}
use Rattle.meaning.specs.Canonical.{HoldsForEach, IsIndex, IsWithin}
use Rattle.meaning.specs.Meaning.{or_blank}
use Rattle.meaning.specs.Message.{tables_in}
use Rattle.meaning.specs.Tables.{Tables, IsSound, entry}
use Rattle.meaning.specs.Tree.{Tree, listed, tree}
use Rattle.meaning.proofs.Soundness.{entry_sound}
use Rattle.pb_wire.specs.declared.table_kind.TableKind.{TableKind}
use Rattle.pb_wire.specs.declared.table_kind.TableKind.TheVariants as kind
use Rattle.otlp_msg.specs.declared.path.Holder.{Holder}
use Rattle.otlp_msg.specs.declared.path.Holder.TheVariants as holder
use Rattle.otlp_msg.specs.declared.refusal.Refusal.{Refusal}
use Rattle.otlp_msg.specs.Message.{Message, dictionary_of, records_of}
use Rattle.otlp_msg.specs.Walk.{Spot, IsInside, count, dangling, dictionary_spots, each_spots, entered, entry_holder, is_index, kind_of, lengths_in, message_spots, profile_spots, resource_spots, row_spots, scope_spots, spots, table_spots, within}
use Rattle.otlp_msg.specs.Within.{Passed}
use Rattle.otlp_msg.proofs.PlainValues.{plain_within}
use Rattle.otlp_msg.proofs.Zeros.{fails, kind_back}

-- ---- the test of one index

-- as a fact
index_from : (n : ℕ) (z : ℤ) → is_index n z ≡ true → IsIndex n z
index_from n (pos i) e = ltb-true i n e
index_from n (negsuc i) e = absurd cc

-- and the other way
index_to : (n : ℕ) (z : ℤ) → IsIndex n z → is_index n z ≡ true
index_to n (pos i) h = lt-ltb i n h
index_to n (negsuc i) h = absurd h

-- ---- the test of a list

-- indexes that passed are in their tables
inside_step : (len : TableKind → ℕ) (x : Spot) (xs : List Spot) → (within len xs ≡ Ok tt → Each (IsInside len) xs) → (b : Bool) → is_index (len x.table) x.index ≡ b
    → (let r : Passed = cond b (within len xs) (Err (dangling len x)) in r ≡ Ok tt) → Each (IsInside len) (x ∷ xs)
inside_step len x xs h true q e = (index_from (len x.table) x.index q, h e)
inside_step len x xs h false q e = absurd cc

pub inside_from : (len : TableKind → ℕ) (xs : List Spot) → within len xs ≡ Ok tt → Each (IsInside len) xs
inside_from len [] e = tt
inside_from len (x ∷ xs) e = inside_step len x xs (inside_from len xs) (is_index (len x.table) x.index) refl e

-- and the other way
pub inside_to : (len : TableKind → ℕ) (xs : List Spot) → Each (IsInside len) xs → within len xs ≡ Ok tt
inside_to len [] h = refl
inside_to len (x ∷ xs) h =
    ap (λ b. let r : Passed = cond b (within len xs) (Err (dangling len x)) in r) (index_to (len x.table) x.index h.0) ∙ inside_to len xs h.1

-- an index that is the first of some that is not in its table, and its refusal
pub record FirstOutside (len : TableKind → ℕ) (xs : List Spot) (why : Refusal) : Type 0 where
  pub before : List Spot
  pub spot : Spot
  pub after : List Spot
  pub parts : xs ≡ before ++ spot ∷ after
  pub inside : Each (IsInside len) before
  pub outside : ¬ IsInside len spot
  pub refusal : why ≡ dangling len spot

-- one more that is inside, in front
outside_behind : (len : TableKind → ℕ) (x : Spot) (xs : List Spot) (why : Refusal) → IsInside len x → FirstOutside len xs why → FirstOutside len (x ∷ xs) why
outside_behind len x xs why h f = record {
  before = x ∷ f.before;
  spot = f.spot;
  after = f.after;
  parts = ap (λ (l : List Spot). x ∷ l) f.parts;
  inside = (h, f.inside);
  outside = f.outside;
  refusal = f.refusal;
}

-- the test of one index and of those after it
outside_step : (len : TableKind → ℕ) (x : Spot) (xs : List Spot) (why : Refusal) → (within len xs ≡ Err why → FirstOutside len xs why) → (b : Bool) → is_index (len x.table) x.index ≡ b
    → (let r : Passed = cond b (within len xs) (Err (dangling len x)) in r ≡ Err why) → FirstOutside len (x ∷ xs) why
outside_step len x xs why h true q e = outside_behind len x xs why (index_from (len x.table) x.index q) (h e)
outside_step len x xs why h false q e = record {
  before = [];
  spot = x;
  after = xs;
  parts = refl;
  inside = tt;
  outside = λ i. let p = index_to (len x.table) x.index i in absurd (cc (p, q));
  refusal = cc;
}

-- a refusal is that of the first index that is not in its table
pub outside_from : (len : TableKind → ℕ) (xs : List Spot) (why : Refusal) → within len xs ≡ Err why → FirstOutside len xs why
outside_from len [] why e = absurd cc
outside_from len (x ∷ xs) why e = outside_step len x xs why (outside_from len xs why) (is_index (len x.table) x.index) refl e

-- and the other way
pub outside_to : (len : TableKind → ℕ) (before : List Spot) (x : Spot) (after : List Spot) → Each (IsInside len) before → ¬ IsInside len x
    → within len (before ++ x ∷ after) ≡ Err (dangling len x)
outside_to len [] x after h out =
    ap (λ b. let r : Passed = cond b (within len after) (Err (dangling len x)) in r) (fails (is_index (len x.table) x.index) (λ e. out (index_from (len x.table) x.index e)))
outside_to len (y ∷ before) x after h out =
    ap (λ b. let r : Passed = cond b (within len (before ++ x ∷ after)) (Err (dangling len y)) in r) (index_to (len y.table) y.index h.0) ∙ outside_to len before x after h.1 out

-- lengths that agree at each table give the same answer
pub within_same : (len n : TableKind → ℕ) → ((table : TableKind) → len table ≡ n table) → (xs : List Spot) → within len xs ≡ within n xs
within_same len n h [] = refl
within_same len n h (x ∷ xs) =
    ap (λ (r : Passed). let p : Passed = cond (is_index (len x.table) x.index) r (Err (dangling len x)) in p) (within_same len n h xs)
    ∙ ap (λ (m : ℕ). let p : Passed = cond (is_index m x.index) (within n xs) (Err (dangling (λ t. m) x)) in p) (h x.table)

-- ---- the values in which they are

-- what holds of each element, of its tree
holds_listed : (P : Tree → Type 0) (ts : List Tree) → Each P ts → HoldsForEach P (listed ts)
holds_listed P [] h = tt
holds_listed P (t ∷ ts) h = (h.0, holds_listed P ts h.1)

-- what follows of each element from its indexes
each_inside : {A : Type 0} (len : TableKind → ℕ) (P : Tree → Type 0) (view : A → Tree) (spots_of : ℕ → A → List Spot) → ((i : ℕ) (x : A) → Each (IsInside len) (spots_of i x) → P (view x))
    → (i : ℕ) (xs : List A) → Each (IsInside len) (each_spots spots_of i xs) → Each P (map view xs)
each_inside len P view spots_of f i [] h = tt
each_inside len P view spots_of f i (x ∷ xs) h = (
  f i x (each_left (IsInside len) (spots_of i x) (each_spots spots_of (suc i) xs) h),
  each_inside len P view spots_of f (suc i) xs (each_right (IsInside len) (spots_of i x) (each_spots spots_of (suc i) xs) h),
)

-- Lists by table have so many entries as these lengths say.
abbrev pub HasLengths : (TableKind → ℕ) → Tables → Type 0
HasLengths len d = (T : Table) → len (kind_of T) ≡ length (or_blank (d T) (entry T))

-- a row, or an element of a repeated one
row_inside : (len : TableKind → ℕ) (d : Tables) → HasLengths len d → (k : Shape) → IsSound k
    → (IsMessage k → (by : Holder) (v : Value k) → Each (IsInside len) (spots k by v) → IsWithin d k (tree k v))
    → (by : Holder) (field item : ℕ) (v : Value k) → Each (IsInside len) (row_spots k by field item (spots k) v) → IsWithin d k (tree k v)
row_inside len d l (Index T k) sound inner by field item v h =
    subst (λ (n : ℕ). IsIndex n v) (l T ∙ ap (λ (s : Shape). length (or_blank (d T) s)) (sym sound.0)) h.0
row_inside len d l (Number w) sound inner by field item v h = tt
row_inside len d l Fixed sound inner by field item v h = tt
row_inside len d l Bytes sound inner by field item v h = tt
row_inside len d l Text sound inner by field item v h = tt
row_inside len d l (Any depth) sound inner by field item v h = tt
row_inside len d l k sound inner by field item v h = inner tt (entered by field item) v h

-- Where each index of a message is inside, each index of its tree is one of its table.
pub value_inside : (len : TableKind → ℕ) (d : Tables) → HasLengths len d → (s : Shape) → IsMessage s → Lawful s → IsSound s → (by : Holder) (v : Value s)
    → Each (IsInside len) (spots s by v) → IsWithin d s (tree s v)
value_inside len d l End m lawful sound by v h = tt
value_inside len d l (One n k rest) m lawful sound by v h = (
  row_inside len d l k sound.0 (λ mk. value_inside len d l k mk lawful.2 sound.0) by n 0 v.0 (each_left (IsInside len) (row_spots k by n 0 (spots k) v.0) (spots rest by v.1) h),
  value_inside len d l rest lawful.4 lawful.3 sound.1 by v.1 (each_right (IsInside len) (row_spots k by n 0 (spots k) v.0) (spots rest by v.1) h),
)
value_inside len d l (Many n k rest) m lawful sound by v h = (
  holds_listed (IsWithin d k) (map (tree k) v.0)
      (each_inside len (IsWithin d k) (tree k) (λ i. row_spots k by n i (spots k)) (λ i. row_inside len d l k sound.0 (λ mk. value_inside len d l k mk lawful.2 sound.0) by n i) 0 v.0
      (each_left (IsInside len) (each_spots (λ i. row_spots k by n i (spots k)) 0 v.0) (spots rest by v.1) h)),
  value_inside len d l rest lawful.4 lawful.3 sound.1 by v.1 (each_right (IsInside len) (each_spots (λ i. row_spots k by n i (spots k)) 0 v.0) (spots rest by v.1) h),
)
value_inside len d l s m lawful sound by v h = absurd m

-- ---- messages

-- the length of a table is that of its trees
count_trees : (s : Shape) (xs : List (Value s)) → count xs ≡ length (or_blank (map (tree s) xs) s)
count_trees s [] = refl
count_trees s (x ∷ xs) = ap suc (sym (length-map xs (tree s)))

-- so of each table of a dictionary
pub has_lengths : (d : Value dictionary) → HasLengths (lengths_in d) (tables_in d)
has_lengths d T = ap (λ U. count (entries_in d U)) (kind_back T) ∙ count_trees (entry T) (entries_in d T)

-- the entries of a table
table_inside : (len : TableKind → ℕ) (d : Tables) → HasLengths len d → (s : Shape) → IsMessage s → Lawful s → IsSound s → (table : TableKind) (xs : List (Value s))
    → Each (IsInside len) (table_spots s table xs) → Each (IsWithin d s) (map (tree s) xs)
table_inside len d l s m lawful sound table xs h =
    each_inside len (IsWithin d s) (tree s) (λ i. spots s (entry_holder table i)) (λ i. value_inside len d l s m lawful sound (entry_holder table i)) 0 xs h

-- entries without an index
none_inside : {A : Type 0} (P : Tree → Type 0) (view : A → Tree) → ((x : A) → P (view x)) → (xs : List A) → Each P (map view xs)
none_inside P view h [] = tt
none_inside P view h (x ∷ xs) = (h x, none_inside P view h xs)

-- the parts of a walk over the tables
tables_parts : (len : TableKind → ℕ) (d : Value dictionary) → Each (IsInside len) (dictionary_spots d)
    → Each (IsInside len) (table_spots mapping kind.Mapping d.0) × Each (IsInside len) (table_spots location kind.Location d.1.0) × Each (IsInside len) (table_spots function kind.Function d.1.1.0)
    × Each (IsInside len) (table_spots attribute kind.Attribute d.1.1.1.1.1.0) × Each (IsInside len) (table_spots stack kind.Stack d.1.1.1.1.1.1.0)
tables_parts len d h =
    let In = IsInside len in
    let a = table_spots mapping kind.Mapping d.0 in
    let b = table_spots location kind.Location d.1.0 in
    let c = table_spots function kind.Function d.1.1.0 in
    let e = table_spots attribute kind.Attribute d.1.1.1.1.1.0 in
    let f = table_spots stack kind.Stack d.1.1.1.1.1.1.0 in
    let after_a = each_right In a (b ++ (c ++ (e ++ f))) h in
    let after_b = each_right In b (c ++ (e ++ f)) after_a in
    let after_c = each_right In c (e ++ f) after_b in
    (each_left In a (b ++ (c ++ (e ++ f))) h, each_left In b (c ++ (e ++ f)) after_a, each_left In c (e ++ f) after_b, each_left In e f after_c, each_right In e f after_c)

-- each index of each entry is one of its table
pub entries_inside : (m : Message) → Each (IsInside (lengths_in (dictionary_of m))) (message_spots m)
    → (T : Table) → Each (IsWithin (tables_in (dictionary_of m)) (entry T)) (tables_in (dictionary_of m) T)
entries_inside m h T =
    let d = dictionary_of m in
    by_table d (tables_parts (lengths_in d) d (each_left (IsInside (lengths_in d)) (dictionary_spots d) (each_spots resource_spots 0 m.0) h)) T
  where
    by_table : (d : Value dictionary)
        → Each (IsInside (lengths_in d)) (table_spots mapping kind.Mapping d.0) × Each (IsInside (lengths_in d)) (table_spots location kind.Location d.1.0) × Each (IsInside (lengths_in d)) (table_spots function kind.Function d.1.1.0)
        × Each (IsInside (lengths_in d)) (table_spots attribute kind.Attribute d.1.1.1.1.1.0) × Each (IsInside (lengths_in d)) (table_spots stack kind.Stack d.1.1.1.1.1.1.0)
        → (T : Table) → Each (IsWithin (tables_in d) (entry T)) (tables_in d T)
    by_table d h Mappings = table_inside (lengths_in d) (tables_in d) (has_lengths d) mapping tt (lawful_from mapping refl) (entry_sound Mappings) kind.Mapping d.0 h.0
    by_table d h Locations = table_inside (lengths_in d) (tables_in d) (has_lengths d) location tt (lawful_from location refl) (entry_sound Locations) kind.Location d.1.0 h.1
    by_table d h Functions = table_inside (lengths_in d) (tables_in d) (has_lengths d) function tt (lawful_from function refl) (entry_sound Functions) kind.Function d.1.1.0 h.2
    by_table d h Links = none_inside (IsWithin (tables_in d) link) (tree link) (λ x. (tt, (tt, tt))) d.1.1.1.0
    by_table d h Strings = none_inside (IsWithin (tables_in d) Text) (tree Text) (λ x. tt) d.1.1.1.1.0
    by_table d h Attributes = table_inside (lengths_in d) (tables_in d) (has_lengths d) attribute tt (lawful_from attribute refl) (entry_sound Attributes) kind.Attribute d.1.1.1.1.1.0 h.3
    by_table d h Stacks = table_inside (lengths_in d) (tables_in d) (has_lengths d) stack tt (lawful_from stack refl) (entry_sound Stacks) kind.Stack d.1.1.1.1.1.1.0 h.4

-- the shape of a profile as it is read
pub profile_sound : IsSound profile
profile_sound = search rules

-- each index of a profile
profile_inside : (len : TableKind → ℕ) (d : Tables) → HasLengths len d → (r s p : ℕ) (v : Value profile) → Each (IsInside len) (profile_spots r s p v) → IsWithin d profile (tree profile v)
profile_inside len d l r s p v h = value_inside len d l profile tt (lawful_from profile refl) profile_sound (holder.Profile (record { resource = r; scope = s; profile = p })) v h

-- of the profiles of a scope
scope_inside : (len : TableKind → ℕ) (d : Tables) → HasLengths len d → (r s : ℕ) (v : Value scope_profiles) → Each (IsInside len) (scope_spots r s v) → IsWithin d scope_profiles (tree scope_profiles v)
scope_inside len d l r s v h =
    (plain_within d scope refl (tree scope v.0), (holds_listed (IsWithin d profile) (map (tree profile) v.1.0) (each_inside len (IsWithin d profile) (tree profile) (profile_spots r s) (profile_inside len d l r s) 0 v.1.0 h), (tt, tt)))

-- and of a resource
resource_inside : (len : TableKind → ℕ) (d : Tables) → HasLengths len d → (r : ℕ) (v : Value resource_profiles) → Each (IsInside len) (resource_spots r v) → IsWithin d resource_profiles (tree resource_profiles v)
resource_inside len d l r v h =
    (plain_within d resource refl (tree resource v.0), (holds_listed (IsWithin d scope_profiles) (map (tree scope_profiles) v.1.0) (each_inside len (IsWithin d scope_profiles) (tree scope_profiles) (scope_spots r) (scope_inside len d l r) 0 v.1.0 h), (tt, tt)))

-- each index of each record is one of its table
pub records_inside : (m : Message) → Each (IsInside (lengths_in (dictionary_of m))) (message_spots m)
    → Each (IsWithin (tables_in (dictionary_of m)) resource_profiles) (map (tree resource_profiles) (records_of m))
records_inside m h =
    let d = dictionary_of m in
    each_inside (lengths_in d) (IsWithin (tables_in d) resource_profiles) (tree resource_profiles) resource_spots (resource_inside (lengths_in d) (tables_in d) (has_lengths d)) 0 m.0
    (each_right (IsInside (lengths_in d)) (dictionary_spots d) (each_spots resource_spots 0 m.0) h)
