-- The canonical message of a meaning means it, and its bytes are read back.
use Rattle.std.proofs.Common.{◌≡◌, ℕ, List, [], ◌∷◌, map, true, refl, sym, ap, ◌∙◌, subst, arith, Ok, ⊎_elim}
use mathlib.Core.Path.{fun_ext}
use Rattle.schema.specs.Each.{Each}
use Rattle.schema.specs.Fits.{HasRow, Lawful, Fits}
use Rattle.schema.specs.Merge.{merge}
use Rattle.schema.specs.Shape.{Shape, End, One, Value, empty, Table, Mappings, Locations, Functions, Links, Strings, Attributes, Stacks}
use Rattle.schema_laws.proofs.ReadingBack.{reads_back}
use Rattle.schema_laws.proofs.Lawfulness.{lawful_from}
use Rattle.schema_laws.proofs.Lists.{each_left, each_right}
use Rattle.schema_laws.proofs.ReadFits.{spelled_apart}
use Rattle.meaning.specs.Tree.{Tree, listed, tree, value, IsOf}
use Rattle.meaning.specs.Tables.{Tables, IsSound, entry, has}
use Rattle.meaning.specs.Meaning.{at_each, walk_each, blank, resolve, uses, AreElements, IsMeaning}
use Rattle.meaning.specs.Canonical.{HoldsForEach, IsWithin, renumber, entries, records, record_list}
use Rattle.meaning.specs.Message.{dictionary, message, tables_in, meaning_of, dictionary_value, tables_for, canonical_value, meaning_text}
use Rattle.meaning.proofs.Resolution.{covering, tables-cover}
use Rattle.meaning.proofs.Closure.{record_within, entries_within}
use Rattle.meaning.proofs.Zeros.{entries_first}
use Rattle.meaning.proofs.Forms.{map-is, trees_are, resolved_means, renumbered_is, entries_are}

-- ---- meanings

-- a list of meanings as a tree
listed_mean : (k : Shape) (ms : List Tree) → Each (IsMeaning k) ms → AreElements (IsMeaning k) (listed ms)
listed_mean k [] h = refl
listed_mean k (m ∷ ms) h = (h.0, listed_mean k ms h.1)

-- the entries of a dictionary value are those that it was made of
tables-back : (d : Tables) → ((T : Table) → Each (IsOf (entry T)) (d T)) → (T : Table) → tables_in (dictionary_value d) T ≡ d T
tables-back d h Mappings = map-is (entry Mappings) (d Mappings) (h Mappings)
tables-back d h Locations = map-is (entry Locations) (d Locations) (h Locations)
tables-back d h Functions = map-is (entry Functions) (d Functions) (h Functions)
tables-back d h Links = map-is (entry Links) (d Links) (h Links)
tables-back d h Strings = map-is (entry Strings) (d Strings) (h Strings)
tables-back d h Attributes = map-is (entry Attributes) (d Attributes) (h Attributes)
tables-back d h Stacks = map-is (entry Stacks) (d Stacks) (h Stacks)

-- the entries of a dictionary are trees of values
tables_are : (d : Value dictionary) (T : Table) → Each (IsOf (entry T)) (tables_in d T)
tables_are d Mappings = trees_are (entry Mappings) _
tables_are d Locations = trees_are (entry Locations) _
tables_are d Functions = trees_are (entry Functions) _
tables_are d Links = trees_are (entry Links) _
tables_are d Strings = trees_are (entry Strings) _
tables_are d Attributes = trees_are (entry Attributes) _
tables_are d Stacks = trees_are (entry Stacks) _

-- what a message means are meanings of its records' shape
pub messages_mean : (k : Shape) → IsSound k → (x : Value (message k)) → Each (IsMeaning k) (meaning_of k x)
messages_mean k i x = go x.0
  where
    go : (rs : List (Value k)) → Each (IsMeaning k) (map (λ r. resolve (tables_in x.1.0) k (tree k r)) rs)
    go [] = tt
    go (r ∷ rs) = (resolved_means (tables_in x.1.0) (tables_are x.1.0) k i r, go rs)

-- records that lists cover mean what they did
means-back : (k : Shape) → IsSound k → (v : Tables) (ms : List Tree) → Each (IsMeaning k) ms
    → ((T : Table) → Each (λ x. has (v T) x ≡ true) (walk_each (uses T k) (listed ms)))
    → map (λ r. resolve (entries v) k (tree k r)) (map (λ m. value k (renumber v k m)) ms) ≡ ms
means-back k i v [] h c = refl
means-back k i v (m ∷ ms) h c =
    let e : resolve (entries v) k (tree k (value k (renumber v k m))) ≡ m =
    ap (resolve (entries v) k) (renumbered_is v k m h.0)
    ∙ covering v k i m (λ T. each_left (λ x. has (v T) x ≡ true) (uses T k m) _ (c T)) in
    let r : map (λ r. resolve (entries v) k (tree k r)) (map (λ m. value k (renumber v k m)) ms) ≡ ms =
    means-back k i v ms h.1 (λ T. each_right (λ x. has (v T) x ≡ true) (uses T k m) _ (c T)) in
    cc

-- the canonical dictionary has the canonical entries
pub canonical_tables : (k : Shape) → IsSound k → (ms : List Tree) → Each (IsMeaning k) ms
    → (T : Table) → tables_in (canonical_value k ms).1.0 T ≡ entries (tables_for k ms) T
canonical_tables k i ms h =
    tables-back (entries (tables_for k ms)) (entries_are (records k) (i, tt) (record_list ms) (listed_mean k ms h, refl))

-- and the canonical records are the renumbered meanings
renumbered_are : (k : Shape) (v : Tables) (ms : List Tree) → Each (IsMeaning k) ms
    → map (tree k) (map (λ m. value k (renumber v k m)) ms) ≡ map (renumber v k) ms
renumbered_are k v [] h = refl
renumbered_are k v (m ∷ ms) h =
    let e : tree k (value k (renumber v k m)) ≡ renumber v k m = renumbered_is v k m h.0 in
    let r : map (tree k) (map (λ m. value k (renumber v k m)) ms) ≡ map (renumber v k) ms = renumbered_are k v ms h.1 in cc

pub canonical_records : (k : Shape) (ms : List Tree) → Each (IsMeaning k) ms
    → map (tree k) (canonical_value k ms).0 ≡ map (renumber (tables_for k ms) k) ms
canonical_records k ms h = renumbered_are k (tables_for k ms) ms h

-- the zero entries come first
pub canonical_zeros : (k : Shape) → IsSound k → (ms : List Tree) → Each (IsMeaning k) ms
    → (T : Table) → (rest : List Tree) × (tables_in (canonical_value k ms).1.0 T ≡ blank (entry T) ∷ rest)
canonical_zeros k i ms h T =
    let f = entries_first (records k) (record_list ms) T in (f.0, canonical_tables k i ms h T ∙ f.1)

-- each index of an entry is in its table
pub canonical_entries_within : (k : Shape) → IsSound k → (ms : List Tree) → Each (IsMeaning k) ms
    → (T : Table) → let d = tables_in (canonical_value k ms).1.0 in Each (IsWithin d (entry T)) (d T)
canonical_entries_within k i ms h T =
    subst (λ d. Each (IsWithin d (entry T)) (d T)) (sym (fun_ext (canonical_tables k i ms h))) (entries_within (records k) (i, tt) (record_list ms) T)

-- and so is each of a record
listed_within : (P : Tree → Type 0) (f : Tree → Tree) (ms : List Tree) → HoldsForEach P (at_each f (listed ms)) → Each P (map f ms)
listed_within P f [] h = tt
listed_within P f (m ∷ ms) h = (h.0, listed_within P f ms h.1)

pub canonical_records_within : (k : Shape) → IsSound k → (ms : List Tree) → Each (IsMeaning k) ms
    → let x = canonical_value k ms in Each (IsWithin (tables_in x.1.0) k) (map (tree k) x.0)
canonical_records_within k i ms h =
    let v : Tables = tables_for k ms in
    let w : Each (IsWithin (entries v) k) (map (renumber v k) ms) =
    listed_within (IsWithin (entries v) k) (renumber v k) ms (record_within (records k) (record_list ms)).0 in
    subst (λ d. Each (IsWithin d k) (map (tree k) (canonical_value k ms).0)) (sym (fun_ext (canonical_tables k i ms h)))
    (subst (λ ts. Each (IsWithin (entries v) k) ts) (sym (canonical_records k ms h)) w)

-- so the canonical message of meanings means them
pub means_the_same : (k : Shape) → IsSound k → (ms : List Tree) → Each (IsMeaning k) ms → meaning_of k (canonical_value k ms) ≡ ms
means_the_same k i ms h =
    let v : Tables = tables_for k ms in
    let e : tables_in (dictionary_value (entries v)) ≡ entries v = fun_ext (canonical_tables k i ms h) in
    ap (λ d. map (λ r. resolve d k (tree k r)) (map (λ m. value k (renumber v k m)) ms)) e
    ∙ means-back k i v ms h (λ T. each_left (λ x. has (v T) x ≡ true) (walk_each (uses T k) (listed ms)) _ (tables-cover (records k) (record_list ms) T))

-- ---- bytes

-- a message of lawful records is lawful
pub message_lawful : (k : Shape) → Lawful k → Lawful (message k)
message_lawful k h = (omega arith, omega arith, h, lawful_from (One 2 dictionary End) refl, tt, distinct)
  where
    distinct : (m : ℕ) → HasRow (One 2 dictionary End) m → m ≡ 1 → ⊥
    distinct m r e = ⊎_elim (λ (p : m ≡ 2). absurd (omega arith)) (λ (q : ⊥). q) r

-- the canonical bytes are read as the canonical message, wherever they begin
pub text_back : (k : Shape) → Lawful k → (ms : List Tree) → Fits (message k) (canonical_value k ms) → (base : ℕ)
    → merge (message k) (empty (message k)) base (meaning_text k ms) ≡ Ok (canonical_value k ms)
text_back k l ms f base = reads_back (message k) tt (message_lawful k l) (canonical_value k ms) f base

-- and tell meanings apart
pub text_apart : (k : Shape) → IsSound k → Lawful k → (ms ns : List Tree) → Each (IsMeaning k) ms → Each (IsMeaning k) ns
    → Fits (message k) (canonical_value k ms) → Fits (message k) (canonical_value k ns) → meaning_text k ms ≡ meaning_text k ns → ms ≡ ns
text_apart k i l ms ns h g f q e =
    sym (means_the_same k i ms h)
    ∙ ap (meaning_of k) (spelled_apart (message k) tt (message_lawful k l) (canonical_value k ms) (canonical_value k ns) f q e)
    ∙ means_the_same k i ns g

-- A message that is rebuilt means what it did.
pub rebuilt : (k : Shape) → IsSound k → Lawful k → (x : Value (message k)) → Fits (message k) (canonical_value k (meaning_of k x)) → (base : ℕ)
    → (y : Value (message k)) × (merge (message k) (empty (message k)) base (meaning_text k (meaning_of k x)) ≡ Ok y) × (meaning_of k y ≡ meaning_of k x)
rebuilt k i l x f base =
    (canonical_value k (meaning_of k x), text_back k l (meaning_of k x) f base, means_the_same k i (meaning_of k x) (messages_mean k i x))
