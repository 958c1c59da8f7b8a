-- The canonical message of what a message means can be written, if the message can.
use Rattle.std.proofs.Common.{◌≡◌, ℕ, suc, ◌+◌, ◌%◌, ◌^◌, ◌<◌, ◌≤◌, List, [], ◌∷◌, length, map, Bool, true, false, cond, Ok, refl, sym, ap, ◌∙◌, subst, arith, pos}
use Rattle.std.specs.Int.{w32, w64, cast_signed, cast_unsigned}
use Rattle.std.proofs.lemmas.Int.{to_z_pos}
use Rattle.std.proofs.lemmas.List.{length-map, length-append}
use Rattle.schema.specs.Each.{Each}
use Rattle.schema.specs.Fits.{Fits, Lawful}
use Rattle.schema.specs.Texts.{FitsNumber, items_text, long_field}
use Rattle.schema.specs.Shape.{Shape, Any, Index, End, One, Many, I32, IsMessage, Value, empty, Table, Mappings, Locations, Functions, Links, Strings, Attributes, Stacks}
use Rattle.schema.specs.AnyValue.{AnyValue}
use Rattle.schema.specs.AnyMerge.{any_levels}
use Rattle.schema.specs.AnySpell.{AnyInRange}
use Rattle.schema.specs.Merge.{merge}
use Rattle.schema_laws.proofs.Growth.{InRange, AlsoIn}
use Rattle.schema_laws.proofs.Lengths.{long_field_le}
use Rattle.schema_laws.proofs.GrowthOfLists.{empty_in}
use Rattle.schema_laws.proofs.Onto.{long_some}
use Rattle.schema_laws.proofs.ReadFits.{fits_from, in_range}
use Rattle.meaning.specs.Tree.{Tree, Integer, Nil, listed, elements, tree, value, IsOf, same, any_of, any_tree}
use Rattle.meaning.specs.Tables.{Tables, IsSound, entry, field_of, place}
use Rattle.meaning.specs.Meaning.{at_each, zero_value, entry_at, resolve, AreParts, AreElements}
use Rattle.meaning.specs.Canonical.{tables_of, renumber, entries, records, record_list}
use Rattle.meaning.specs.Ranges.{ElementsInRange, HasRange}
use Rattle.meaning.specs.Message.{dictionary, message, tables_in, meaning_of, table_values, dictionary_value, tables_for, canonical_value, meaning_text, entry_text, table_text, dictionary_text, record_text}
use Rattle.meaning.proofs.Trees.{value-tree}
use Rattle.meaning.proofs.Places.{each_all}
use Rattle.meaning.proofs.Closure.{each_map}
use Rattle.meaning.proofs.Forms.{by_parts, by_elements, tree_is, entry_has, IsHandedOn, tables_have}
use Rattle.meaning.proofs.Message.{message_lawful, messages_mean, rebuilt, text_apart}
use Rattle.meaning.proofs.Texts.{text-parts}

-- ---- meanings

-- an empty list of AnyValues holds such
nil_also : (k : Shape) → ElementsInRange k Nil
nil_also (Any depth) = refl
nil_also k = tt

-- AnyValues that can be written, as what they mean
values_also : (d : Tables) (depth : ℕ) (vs : List AnyValue) → Each (AnyInRange (any_levels depth)) vs
    → AreElements (λ e. AnyInRange (any_levels depth) (any_of e)) (at_each (resolve d (Any depth)) (listed (map any_tree vs)))
values_also d depth [] h = refl
values_also d depth (v ∷ vs) h = (subst (AnyInRange (any_levels depth)) (sym (value-tree (Any depth) v)) h.0, values_also d depth vs h.1)

-- what a repeated row means
list_also : (d : Tables) (k : Shape) (vs : List (Value k)) → AlsoIn k vs → ElementsInRange k (at_each (resolve d k) (listed (map (tree k) vs)))
list_also d (Any depth) vs h = values_also d depth vs h
list_also d k vs h = tt

-- an entry is the tree of a value in its range
abbrev IsEntry : Shape → Tree → Type 0
IsEntry k e = IsOf k e × InRange k (value k e)

-- the tree of such a value is one
value_entry : (k : Shape) (x : Value k) → InRange k x → IsEntry k (tree k x)
value_entry k x h = (tree_is k x, subst (InRange k) (sym (value-tree k x)) h)

-- and so are those of a list
value_entries : (k : Shape) (xs : List (Value k)) → Each (InRange k) xs → Each (IsEntry k) (map (tree k) xs)
value_entries k [] h = tt
value_entries k (x ∷ xs) h = (value_entry k x h.0, value_entries k xs h.1)

-- each index names one
named_entry : (k : Shape) (es : List Tree) → Each (IsEntry k) es → (t : Tree) → IsEntry k (entry_at es k t)
named_entry k = entry_has (IsEntry k) k (value_entry k (empty k) (empty_in k))

-- so what a value means has its leaves in their range
resolved_range : (d : Tables) → ((T : Table) → Each (IsEntry (entry T)) (d T)) → (s : Shape) → IsSound s → (x : Value s) → InRange s x → HasRange s (resolve d s (tree s x))
resolved_range d a (One n k rest) i x h = (resolved_range d a k i.0 x.0 h.0, resolved_range d a rest i.1 x.1 h.1)
resolved_range d a (Many n k rest) i x h =
    ((each_ranges (resolved_range d a k i.0) x.0 h.0, list_also d k x.0 h.1), resolved_range d a rest i.1 x.1 h.2)
  where
    each_ranges : ((y : Value k) → InRange k y → HasRange k (resolve d k (tree k y))) → (ys : List (Value k)) → Each (InRange k) ys
        → AreElements (HasRange k) (at_each (resolve d k) (listed (map (tree k) ys)))
    each_ranges f [] g = refl
    each_ranges f (y ∷ ys) g = (f y g.0, each_ranges f ys g.1)
resolved_range d a (Index T k) i x h =
    let e : Tree = entry_at (d T) k (Integer x) in
    let is : IsEntry k e = named_entry k (d T) (subst (λ z. Each (IsEntry z) (d T)) (sym i.0) (a T)) (Integer x) in
    subst (λ z. HasRange k (resolve d k z)) is.0 (resolved_range d a k i.1 (value k e) is.1)
resolved_range d a s i x h = subst (InRange s) (sym (value-tree s x)) h

-- a zero value has them so
zero_range : (s : Shape) → HasRange s (zero_value s)
zero_range (One n k rest) = (zero_range k, zero_range rest)
zero_range (Many n k rest) = ((refl, nil_also k), zero_range rest)
zero_range (Index T k) = zero_range k
zero_range s = subst (InRange s) (sym (value-tree s (empty s))) (empty_in s)

-- and so have the values of canonical tables
tables_range : (s : Shape) → IsSound s → (m : Tree) → HasRange s m → (T : Table) → Each (HasRange (entry T)) (tables_of s m T)
tables_range s i m h T = tables_have HasRange handed_on (λ U. zero_range (entry U)) s i m h T
  where
    handed_on : IsHandedOn HasRange
    handed_on = record {
      one = λ n k rest t h. h;
      many = λ n k rest t h.
          by_parts (λ t. AreParts (AreElements (HasRange k)) (HasRange rest) t) (λ e. AreElements (HasRange k) e × ElementsInRange k e) (HasRange rest) (λ t ts p q. (p.0, q)) t h;
      index = λ U k t h. h;
    }

-- ---- new indexes

-- a place is no farther than the end
place_most : (ks : List Tree) (t : Tree) → place ks t ≤ length ks
place_most [] t = omega arith
place_most (k ∷ ks) t = by_test (same k t) (place_most ks t)
  where
    by_test : (b : Bool) → place ks t ≤ length ks → cond b 0 (suc (place ks t)) ≤ suc (length ks)
    by_test true h = omega arith
    by_test false h = omega arith

-- an index below 2^31 is a number of 32 bits
small_index : (n : ℕ) → n < 2 ^ 31 → FitsNumber I32 (pos n)
small_index n h =
    let e : cast_unsigned w64 (pos n) % 2 ^ 32 ≡ n = omega arith in
    (omega arith, ap (cast_signed w32) e ∙ to_z_pos w32 n h)

-- AnyValues have no indexes
values_renumbered : (v : Tables) (depth : ℕ) (t : Tree) → AreElements (λ e. AnyInRange (any_levels depth) (any_of e)) t
    → Each (AnyInRange (any_levels depth)) (map any_of (elements (at_each (renumber v (Any depth)) t)))
values_renumbered v depth t h =
    by_elements (λ u. Each (AnyInRange (any_levels depth)) (map any_of (elements (at_each (renumber v (Any depth)) u)))) (λ e. AnyInRange (any_levels depth) (any_of e)) tt
    (λ u us m o. (m, o)) t h

-- the elements of a repeated row
elements_also : (v : Tables) (k : Shape) (t : Tree) → ElementsInRange k t → AlsoIn k (map (value k) (elements (at_each (renumber v k) t)))
elements_also v (Any depth) t h = values_renumbered v depth t h
elements_also v k t h = tt

-- so a meaning whose leaves are in their range is in its range, with the places in lists that are short
renumbered_range : (v : Tables) → ((T : Table) → length (v T) < 2 ^ 31) → (s : Shape) (t : Tree) → HasRange s t → InRange s (value s (renumber v s t))
renumbered_range v l (One n k rest) t h =
    by_parts (λ t. InRange (One n k rest) (value (One n k rest) (renumber v (One n k rest) t))) (HasRange k) (HasRange rest)
    (λ t ts p q. (renumbered_range v l k t p, renumbered_range v l rest ts q)) t h
renumbered_range v l (Many n k rest) t h =
    by_parts (λ t. InRange (Many n k rest) (value (Many n k rest) (renumber v (Many n k rest) t))) (λ e. AreElements (HasRange k) e × ElementsInRange k e) (HasRange rest)
    (λ t ts p q. (
      by_elements (λ u. Each (InRange k) (map (value k) (elements (at_each (renumber v k) u)))) (HasRange k) tt
          (λ u us m o. (renumbered_range v l k u m, o)) t p.0,
      elements_also v k t p.1,
      renumbered_range v l rest ts q,
    )) t h
renumbered_range v l (Index T k) t h =
    let a = place_most (v T) t in let b = l T in small_index (place (v T) t) (omega arith)
renumbered_range v l s t h = h

-- ---- lengths

-- each element of a list is at least a byte
items_most : {X : Type 0} (n : ℕ) (f : X → List ℕ) (xs : List X) → length xs ≤ length (items_text n (map f xs))
items_most n f [] = omega arith
items_most n f (x ∷ xs) =
    let a = long_some n (f x) in
    let b = items_most n f xs in
    let c = length-append (long_field n (f x)) (items_text n (map f xs)) in omega arith

-- so a table is no longer than its text
table_most : (d : Tables) (T : Table) → length (d T) ≤ length (table_text T (d T))
table_most d T = items_most (field_of T) (entry_text T) (d T)

-- nor than that of the dictionary
dictionary_most : (d : Tables) (T : Table) → length (d T) ≤ length (dictionary_text d)
dictionary_most d T =
    rw (length-append (table_text Mappings (d Mappings)))
    (rw (length-append (table_text Locations (d Locations)))
    (rw (length-append (table_text Functions (d Functions)))
    (rw (length-append (table_text Links (d Links)))
    (rw (length-append (table_text Strings (d Strings)))
    (rw (length-append (table_text Attributes (d Attributes))) (one_of T))))))
  where
    one_of : (T : Table) → length (d T) ≤ length (table_text Mappings (d Mappings)) + (length (table_text Locations (d Locations))
        + (length (table_text Functions (d Functions)) + (length (table_text Links (d Links)) + (length (table_text Strings (d Strings))
        + (length (table_text Attributes (d Attributes)) + length (table_text Stacks (d Stacks)))))))
    one_of Mappings = let a = table_most d Mappings in omega arith
    one_of Locations = let a = table_most d Locations in omega arith
    one_of Functions = let a = table_most d Functions in omega arith
    one_of Links = let a = table_most d Links in omega arith
    one_of Strings = let a = table_most d Strings in omega arith
    one_of Attributes = let a = table_most d Attributes in omega arith
    one_of Stacks = let a = table_most d Stacks in omega arith

-- nor than the whole
whole_most : (k : Shape) → IsMessage k → (ms : List Tree) (T : Table) → length (tables_for k ms T) ≤ length (meaning_text k ms)
whole_most k h ms T =
    let v : Tables = tables_for k ms in
    let a : length (entries v T) ≡ length (v T) = length-map (v T) (renumber v (entry T)) in
    let b = dictionary_most (entries v) T in
    let c = long_field_le 2 (dictionary_text (entries v)) in
    let e = ap length (text-parts k h ms) in
    let g = length-append (items_text 1 (map (λ m. record_text k (renumber v k m)) ms)) (long_field 2 (dictionary_text (entries v))) in
    omega arith

-- ---- messages

-- nothing more is asked of a row of messages
message_also : (k : Shape) → IsMessage k → (t : Tree) → ElementsInRange k t
message_also End h t = tt
message_also (One n k rest) h t = tt
message_also (Many n k rest) h t = tt
message_also s h t = absurd h

messages_also : (k : Shape) → IsMessage k → (vs : List (Value k)) → AlsoIn k vs
messages_also End h vs = tt
messages_also (One n k rest) h vs = tt
messages_also (Many n k rest) h vs = tt
messages_also s h vs = absurd h

-- the entries of a dictionary in its range
dictionary_entries : (d : Value dictionary) → InRange dictionary d → (T : Table) → Each (IsEntry (entry T)) (tables_in d T)
dictionary_entries d h Mappings = value_entries (entry Mappings) _ h.0
dictionary_entries d h Locations = value_entries (entry Locations) _ h.2.0
dictionary_entries d h Functions = value_entries (entry Functions) _ h.2.2.0
dictionary_entries d h Links = value_entries (entry Links) _ h.2.2.2.0
dictionary_entries d h Strings = value_entries (entry Strings) _ h.2.2.2.2.0
dictionary_entries d h Attributes = value_entries (entry Attributes) _ h.2.2.2.2.2.0
dictionary_entries d h Stacks = value_entries (entry Stacks) _ h.2.2.2.2.2.2.0

-- and a dictionary of entries in their range
dictionary_range : (d : Tables) → ((T : Table) → Each (InRange (entry T)) (table_values d T)) → InRange dictionary (dictionary_value d)
dictionary_range d h =
    (h Mappings, tt, (h Locations, tt, (h Functions, tt, (h Links, tt, (h Strings, tt, (h Attributes, tt, (h Stacks, tt, tt)))))))

-- a list of meanings as a tree
listed_range : (k : Shape) (ms : List Tree) → Each (HasRange k) ms → AreElements (HasRange k) (listed ms)
listed_range k [] h = refl
listed_range k (m ∷ ms) h = (h.0, listed_range k ms h.1)

-- what the records of a message mean
records_range : (k : Shape) → IsSound k → (x : Value (message k)) → InRange (message k) x → Each (HasRange k) (meaning_of k x)
records_range k i x h = go x.0 h.0
  where
    go : (rs : List (Value k)) → Each (InRange k) rs → Each (HasRange k) (map (λ r. resolve (tables_in x.1.0) k (tree k r)) rs)
    go [] g = tt
    go (r ∷ rs) g = (resolved_range (tables_in x.1.0) (dictionary_entries x.1.0 h.2.0) k i r g.0, go rs g.1)

-- of one that can be written
pub messages_range : (k : Shape) → IsSound k → (x : Value (message k)) → Fits (message k) x → Each (HasRange k) (meaning_of k x)
messages_range k i x f = records_range k i x (in_range (message k) x f)

-- the canonical message is in its range
canonical_range : (k : Shape) → IsMessage k → IsSound k → (ms : List Tree) → Each (HasRange k) ms → ((T : Table) → length (tables_for k ms T) < 2 ^ 31)
    → InRange (message k) (canonical_value k ms)
canonical_range k e i ms h l =
    let v : Tables = tables_for k ms in
    let t : (T : Table) → Each (HasRange (entry T)) (v T) =
    tables_range (records k) (i, tt) (record_list ms) ((listed_range k ms h, message_also k e (listed ms)), tt) in (
      each_map (InRange k) (λ m. value k (renumber v k m)) ms (each_all (HasRange k) (λ m. InRange k (value k (renumber v k m))) (renumbered_range v l k) ms h),
      messages_also k e _,
      (
        dictionary_range (entries v) (λ T.
            each_map (InRange (entry T)) (value (entry T)) (entries v T)
            (each_map (λ z. InRange (entry T) (value (entry T) z)) (renumber v (entry T)) (v T)
            (each_all (HasRange (entry T)) (λ z. InRange (entry T) (value (entry T) (renumber v (entry T) z))) (renumbered_range v l (entry T)) (v T) (t T)))),
        tt,
      ),
    )

-- so it can be written
pub meanings_fit : (k : Shape) → IsMessage k → IsSound k → Lawful k → (ms : List Tree) → Each (HasRange k) ms → length (meaning_text k ms) < 2 ^ 31
    → Fits (message k) (canonical_value k ms)
meanings_fit k e i l ms h short =
    fits_from (message k) tt (message_lawful k l) (canonical_value k ms) (canonical_range k e i ms h (λ T. let w = whole_most k e ms T in omega arith)) (omega arith)

-- and so can that of what a message means
pub canonical_fits : (k : Shape) → IsMessage k → IsSound k → Lawful k → (x : Value (message k)) → Fits (message k) x
    → length (meaning_text k (meaning_of k x)) < 2 ^ 31 → Fits (message k) (canonical_value k (meaning_of k x))
canonical_fits k e i l x f short = meanings_fit k e i l (meaning_of k x) (messages_range k i x f) short

-- its bytes are read as a message that means the same
pub rebuilt_whole : (k : Shape) → IsMessage k → IsSound k → Lawful k → (x : Value (message k)) → Fits (message k) x
    → length (meaning_text k (meaning_of k x)) < 2 ^ 31 → (base : ℕ)
    → (y : Value (message k)) × (merge (message k) (empty (message k)) base (meaning_text k (meaning_of k x)) ≡ Ok y) × (meaning_of k y ≡ meaning_of k x)
rebuilt_whole k e i l x f short = rebuilt k i l x (canonical_fits k e i l x f short)

-- and tell messages apart that mean something else
pub messages_apart : (k : Shape) → IsMessage k → IsSound k → Lawful k → (x y : Value (message k)) → Fits (message k) x → Fits (message k) y
    → length (meaning_text k (meaning_of k x)) < 2 ^ 31 → meaning_text k (meaning_of k x) ≡ meaning_text k (meaning_of k y) → meaning_of k x ≡ meaning_of k y
messages_apart k e i l x y f g short q =
    text_apart k i l (meaning_of k x) (meaning_of k y) (messages_mean k i x) (messages_mean k i y)
    (canonical_fits k e i l x f short) (canonical_fits k e i l y g (subst (λ b. length b < 2 ^ 31) q short)) q
