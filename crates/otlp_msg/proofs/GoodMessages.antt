-- A message whose tables begin with their zero entries and whose indexes are in their tables is accepted.
use Rattle.std.proofs.Common.{◌≡◌, ℕ, suc, ◌≤◌, List, [], ◌∷◌, ◌++◌, length, map, Ok, refl, sym, ap, ◌∙◌, subst}
use Rattle.schema.specs.Each.{Each}
use Rattle.schema.specs.Fits.{Lawful}
use Rattle.schema.specs.Merge.{merge}
use Rattle.schema.specs.Messages.{mapping, location, function, attribute, stack, profile, scope_profiles, resource_profiles, dictionary, entries_in, envelope}
use Rattle.schema.specs.Shape.{Shape, Number, Fixed, Bytes, Text, Any, Index, End, One, Many, IsMessage, Table, Mappings, Locations, Functions, Attributes, Stacks, Value, empty}
use Rattle.schema_laws.proofs.Lawfulness.{lawful_from}
use Rattle.schema_laws.proofs.Lists.{each_append}
use Rattle.meaning.specs.Canonical.{IsIndex, IsWithin, HoldsForEach}
use Rattle.meaning.specs.Meaning.{blank, or_blank}
use Rattle.meaning.specs.Message.{tables_in}
use Rattle.meaning.specs.Renumbering.{BeginWithZeros}
use Rattle.meaning.specs.Tables.{Tables, IsSound, entry}
use Rattle.meaning.specs.Tree.{Tree, listed, tree, value}
use Rattle.meaning.proofs.Soundness.{entry_sound}
use Rattle.meaning.proofs.Trees.{value-tree}
use Rattle.pb_wire.specs.declared.table_kind.TableKind.{TableKind}
use Rattle.pb_wire.specs.declared.table_kind.TableKind.TheVariants as kind
use Rattle.pb_wire.specs.TableKinds.{table_of}
use Rattle.otlp_msg.specs.declared.path.Holder.{Holder}
use Rattle.otlp_msg.specs.declared.path.Holder.TheVariants as holder
use Rattle.otlp_msg.specs.Message.{Message, message_of, message_limit, dictionary_of, records_of}
use Rattle.otlp_msg.specs.Walk.{Spot, entered, entry_holder, row_spots, each_spots, spots, table_spots, dictionary_spots, profile_spots, scope_spots, resource_spots, message_spots, lengths_in, IsInside}
use Rattle.otlp_msg.specs.ZeroEntries.{BeginsWithZero, HasZeroEntry, all_tables}
use Rattle.otlp_msg.proofs.Acceptance.{accepted_back}
use Rattle.otlp_msg.proofs.IndexTests.{HasLengths, has_lengths, inside_to, profile_sound}
use Rattle.otlp_msg.proofs.Zeros.{all_to, none_to}

-- ---- indexes

-- what holds of the trees of elements holds of each
each_listed : (P : Tree → Type 0) (ts : List Tree) → HoldsForEach P (listed ts) → Each P ts
each_listed P [] h = tt
each_listed P (t ∷ ts) h = (h.0, each_listed P ts h.1)

-- so their indexes are inside
each_from : {A : Type 0} (len : TableKind → ℕ) (P : Tree → Type 0) (view : A → Tree) (spots_of : ℕ → A → List Spot) → ((i : ℕ) (x : A) → P (view x) → Each (IsInside len) (spots_of i x))
    → (i : ℕ) (xs : List A) → Each P (map view xs) → Each (IsInside len) (each_spots spots_of i xs)
each_from len P view spots_of f i [] h = tt
each_from len P view spots_of f i (x ∷ xs) h =
    each_append (IsInside len) (spots_of i x) (each_spots spots_of (suc i) xs) (f i x h.0) (each_from len P view spots_of f (suc i) xs h.1)

-- a row, or an element of a repeated one
row_from : (len : TableKind → ℕ) (d : Tables) → HasLengths len d → (k : Shape) → IsSound k
    → (IsMessage k → (by : Holder) (v : Value k) → IsWithin d k (tree k v) → Each (IsInside len) (spots k by v))
    → (by : Holder) (field item : ℕ) (v : Value k) → IsWithin d k (tree k v) → Each (IsInside len) (row_spots k by field item (spots k) v)
row_from len d l (Index T k) sound inner by field item v h =
    (subst (λ (n : ℕ). IsIndex n v) (sym (l T ∙ ap (λ (s : Shape). length (or_blank (d T) s)) (sym sound.0))) h, tt)
row_from len d l (Number w) sound inner by field item v h = tt
row_from len d l Fixed sound inner by field item v h = tt
row_from len d l Bytes sound inner by field item v h = tt
row_from len d l Text sound inner by field item v h = tt
row_from len d l (Any depth) sound inner by field item v h = tt
row_from len d l k sound inner by field item v h = inner tt (entered by field item) v h

-- a message whose tree has its indexes in their tables
pub value_from : (len : TableKind → ℕ) (d : Tables) → HasLengths len d → (s : Shape) → IsMessage s → Lawful s → IsSound s → (by : Holder) (v : Value s)
    → IsWithin d s (tree s v) → Each (IsInside len) (spots s by v)
value_from len d l End m lawful sound by v h = tt
value_from len d l (One n k rest) m lawful sound by v h =
    each_append (IsInside len) (row_spots k by n 0 (spots k) v.0) (spots rest by v.1)
    (row_from len d l k sound.0 (λ mk. value_from len d l k mk lawful.2 sound.0) by n 0 v.0 h.0) (value_from len d l rest lawful.4 lawful.3 sound.1 by v.1 h.1)
value_from len d l (Many n k rest) m lawful sound by v h =
    each_append (IsInside len) (each_spots (λ i. row_spots k by n i (spots k)) 0 v.0) (spots rest by v.1)
    (each_from len (IsWithin d k) (tree k) (λ i. row_spots k by n i (spots k)) (λ i. row_from len d l k sound.0 (λ mk. value_from len d l k mk lawful.2 sound.0) by n i) 0 v.0
    (each_listed (IsWithin d k) (map (tree k) v.0) h.0))
    (value_from len d l rest lawful.4 lawful.3 sound.1 by v.1 h.1)
value_from len d l s m lawful sound by v h = absurd m

-- the entries of a table
table_from : (len : TableKind → ℕ) (d : Tables) → HasLengths len d → (s : Shape) → IsMessage s → Lawful s → IsSound s → (table : TableKind) (xs : List (Value s))
    → Each (IsWithin d s) (map (tree s) xs) → Each (IsInside len) (table_spots s table xs)
table_from len d l s m lawful sound table xs h =
    each_from len (IsWithin d s) (tree s) (λ i. spots s (entry_holder table i)) (λ i. value_from len d l s m lawful sound (entry_holder table i)) 0 xs h

-- all tables
dictionary_from : (d : Value dictionary) → ((T : Table) → Each (IsWithin (tables_in d) (entry T)) (tables_in d T)) → Each (IsInside (lengths_in d)) (dictionary_spots d)
dictionary_from d h =
    let len = lengths_in d in
    let In = IsInside len in
    let l = has_lengths d in
    let a = table_spots mapping kind.Mapping d.0 in
    let b = table_spots location kind.Location d.1.0 in
    let c = table_spots function kind.Function d.1.1.0 in
    let e = table_spots attribute kind.Attribute d.1.1.1.1.1.0 in
    let f = table_spots stack kind.Stack d.1.1.1.1.1.1.0 in
    each_append In a (b ++ (c ++ (e ++ f))) (table_from len (tables_in d) l mapping tt (lawful_from mapping refl) (entry_sound Mappings) kind.Mapping d.0 (h Mappings))
    (each_append In b (c ++ (e ++ f)) (table_from len (tables_in d) l location tt (lawful_from location refl) (entry_sound Locations) kind.Location d.1.0 (h Locations))
    (each_append In c (e ++ f) (table_from len (tables_in d) l function tt (lawful_from function refl) (entry_sound Functions) kind.Function d.1.1.0 (h Functions))
    (each_append In e f (table_from len (tables_in d) l attribute tt (lawful_from attribute refl) (entry_sound Attributes) kind.Attribute d.1.1.1.1.1.0 (h Attributes))
    (table_from len (tables_in d) l stack tt (lawful_from stack refl) (entry_sound Stacks) kind.Stack d.1.1.1.1.1.1.0 (h Stacks)))))

-- the records
profile_from : (len : TableKind → ℕ) (d : Tables) → HasLengths len d → (r s p : ℕ) (v : Value profile) → IsWithin d profile (tree profile v) → Each (IsInside len) (profile_spots r s p v)
profile_from len d l r s p v h = value_from len d l profile tt (lawful_from profile refl) profile_sound (holder.Profile (record { resource = r; scope = s; profile = p })) v h

scope_from : (len : TableKind → ℕ) (d : Tables) → HasLengths len d → (r s : ℕ) (v : Value scope_profiles) → IsWithin d scope_profiles (tree scope_profiles v) → Each (IsInside len) (scope_spots r s v)
scope_from len d l r s v h =
    each_from len (IsWithin d profile) (tree profile) (profile_spots r s) (profile_from len d l r s) 0 v.1.0 (each_listed (IsWithin d profile) (map (tree profile) v.1.0) h.1.0)

resource_from : (len : TableKind → ℕ) (d : Tables) → HasLengths len d → (r : ℕ) (v : Value resource_profiles) → IsWithin d resource_profiles (tree resource_profiles v) → Each (IsInside len) (resource_spots r v)
resource_from len d l r v h =
    each_from len (IsWithin d scope_profiles) (tree scope_profiles) (scope_spots r) (scope_from len d l r) 0 v.1.0 (each_listed (IsWithin d scope_profiles) (map (tree scope_profiles) v.1.0) h.1.0)

-- so each index of a message is inside
message_from : (m : Message) → ((T : Table) → Each (IsWithin (tables_in (dictionary_of m)) (entry T)) (tables_in (dictionary_of m) T))
    → Each (IsWithin (tables_in (dictionary_of m)) resource_profiles) (map (tree resource_profiles) (records_of m)) → Each (IsInside (lengths_in (dictionary_of m))) (message_spots m)
message_from m h r =
    let d = dictionary_of m in
    each_append (IsInside (lengths_in d)) (dictionary_spots d) (each_spots resource_spots 0 m.0) (dictionary_from d h)
    (each_from (lengths_in d) (IsWithin (tables_in d) resource_profiles) (tree resource_profiles) resource_spots (resource_from (lengths_in d) (tables_in d) (has_lengths d)) 0 m.0 r)

-- ---- zero entries

-- a list whose trees begin with that of the empty value begins with it
begins_from_tree : (s : Shape) (xs : List (Value s)) (rest : List Tree) → map (tree s) xs ≡ blank s ∷ rest → BeginsWithZero s xs
begins_from_tree s [] rest e = tt
begins_from_tree s (x ∷ xs) rest e = let t : tree s x ≡ blank s = cc in sym (value-tree s x) ∙ ap (value s) t ∙ value-tree s (empty s)

-- so each table does
has_zeros : (d : Value dictionary) → BeginWithZeros (tables_in d) → (table : TableKind) → HasZeroEntry d table
has_zeros d h table = let T = table_of table in begins_from_tree (entry T) (entries_in d T) (h T).0 (h T).1

-- ---- the whole

-- what is read of few bytes, with tables that begin with their zero entries and indexes that are in their tables, is accepted
pub in_order : (body : List ℕ) (m : Message) → length body ≤ message_limit → merge envelope (empty envelope) 0 body ≡ Ok m → BeginWithZeros (tables_in (dictionary_of m))
    → ((T : Table) → Each (IsWithin (tables_in (dictionary_of m)) (entry T)) (tables_in (dictionary_of m) T))
    → Each (IsWithin (tables_in (dictionary_of m)) resource_profiles) (map (tree resource_profiles) (records_of m)) → message_of body ≡ Ok m
in_order body m few read zeros entries records =
    let d = dictionary_of m in
    accepted_back body m few read (
      none_to d all_tables (all_to (HasZeroEntry d) (has_zeros d zeros)),
      inside_to (lengths_in d) (message_spots m) (message_from m entries records),
    )
