-- The parts of a part of a message.
use Rattle.std.proofs.Common.{◌≡◌, ℕ, zero, suc, ◌<◌, ◌≤◌, ◌^◌, ℤ, pos, negsuc, nat_abs, List, [], ◌∷◌, length, get_or, map, refl, sym, subst, arith, length-append, FitsSigned, to_z, of_z, w32}
use Rattle.std.proofs.lemmas.Int.{to_z-of_z}
use Rattle.schema.specs.Each.{Each}
use Rattle.schema.specs.Fits.{Fits}
use Rattle.schema.specs.Messages.{mapping, location, line, function, link, attribute, stack, sample, value_type, profile, scope, scope_profiles, resource, resource_profiles, envelope}
use Rattle.schema.specs.Shape.{Shape, Number, Fixed, Bytes, Text, Any, Index, End, One, Many, Value, Table, Mappings, Locations, Functions, Links, Strings, Attributes, Stacks}
use Rattle.schema.specs.Texts.{items_text, long_field}
use Rattle.schema.specs.Spell.{spell, spell_one, spell_many}
use Rattle.schema_laws.proofs.Lengths.{bytes_field_le, long_field_le}
use Rattle.meaning.specs.Canonical.{HoldsForEach, IsIndex, IsWithin}
use Rattle.meaning.specs.Meaning.{HasZeros, or_blank}
use Rattle.meaning.specs.Tables.{entry}
use Rattle.meaning.specs.Tree.{Tree, listed, tree}
use Rattle.dict_rec.specs.declared.dictionary.Dictionary.{Dictionary}
use Rattle.dict_rec.specs.Views.{attribute_view, function_view, link_view, location_view, mapping_view, stack_view, dictionary_view}
use Rattle.std.specs.Prelude.{slice_get, Some}
use Rattle.std.proofs.lemmas.Option.{get_or_from_slice_get, slice_get_within}
use Rattle.prof_rec.specs.declared.sample.Sample.{Sample}
use Rattle.prof_rec.specs.Views.{sample_view}
use Rattle.key_tables.specs.Keys.{at}
use Rattle.renumber.specs.Entries.{IsPart, IsSource, old_entries}
use Rattle.renumber.specs.Walk.{IsReady, State}

-- ---- lengths

-- a row is no shorter than the message in it
row_le : (k : Shape) (n : ℕ) (x : Value k) → length (spell k x) ≤ length (spell_one k (spell k) n x)
row_le End n x = bytes_field_le n (spell End x)
row_le (One m k rest) n x = bytes_field_le n (spell (One m k rest) x)
row_le (Many m k rest) n x = bytes_field_le n (spell (Many m k rest) x)
row_le k n x = omega arith

-- elements that are spelled by nothing
each_none : {A : Type 0} (f : A → List ℕ) → ((x : A) → length (f x) ≡ 0) → (xs : List A) → Each (λ x. length (f x) < 2 ^ 60) xs
each_none f h [] = tt
each_none f h (x ∷ xs) = (omega (arith, h x), each_none f h xs)

-- elements whose texts are short together
each_some : {A : Type 0} (n : ℕ) (f : A → List ℕ) (xs : List A) → length (items_text n (map f xs)) < 2 ^ 60 → Each (λ x. length (f x) < 2 ^ 60) xs
each_some n f [] l = tt
each_some n f (x ∷ xs) l =
    let a = length-append (long_field n (f x)) (items_text n (map f xs)) in
    (omega (arith, a, long_field_le n (f x)), each_some n f xs (omega (arith, a)))

-- so each message of a short row is short
rows_short : (k : Shape) (n : ℕ) (xs : List (Value k)) → length (spell_many k (spell k) n xs) < 2 ^ 60 → Each (λ y. length (spell k y) < 2 ^ 60) xs
rows_short End n xs l = each_some n (spell End) xs l
rows_short (One m k rest) n xs l = each_some n (spell (One m k rest)) xs l
rows_short (Many m k rest) n xs l = each_some n (spell (Many m k rest)) xs l
rows_short (Number w) n xs l = each_none (spell (Number w)) (λ x. omega arith) xs
rows_short Fixed n xs l = each_none (spell Fixed) (λ x. omega arith) xs
rows_short Bytes n xs l = each_none (spell Bytes) (λ x. omega arith) xs
rows_short Text n xs l = each_none (spell Text) (λ x. omega arith) xs
rows_short (Any depth) n xs l = each_none (spell (Any depth)) (λ x. omega arith) xs
rows_short (Index T k) n xs l = each_none (spell (Index T k)) (λ x. omega arith) xs

-- ---- rows

-- a row and the others
pub part_row : {n : ℕ} {k rest : Shape} (old : Dictionary) (x : Value (One n k rest)) → IsPart (One n k rest) old x → IsPart k old x.0 × IsPart rest old x.1
part_row {n} {k} {rest} old x p =
    let a = length-append (spell_one k (spell k) n x.0) (spell rest x.1) in
    let l = p.short in (
      record { within = p.within.0; fits = p.fits.0; short = omega (arith, a, row_le k n x.0) },
      record { within = p.within.1; fits = p.fits.2; short = omega (arith, a) },
    )

-- the elements of a list
each_part : (k : Shape) (old : Dictionary) (xs : List (Value k)) → HoldsForEach (IsWithin (old_entries old) k) (listed (map (tree k) xs))
    → Each (λ y. Fits k y × (length (spell k y) < 2 ^ 64)) xs → Each (λ y. length (spell k y) < 2 ^ 60) xs → Each (IsPart k old) xs
each_part k old [] w f l = tt
each_part k old (x ∷ xs) w f l = (record { within = w.0; fits = f.0.0; short = l.0 }, each_part k old xs w.1 f.1 l.1)

-- a repeated row and the others
pub part_rows : {n : ℕ} {k rest : Shape} (old : Dictionary) (x : Value (Many n k rest)) → IsPart (Many n k rest) old x → Each (IsPart k old) x.0 × IsPart rest old x.1
part_rows {n} {k} {rest} old x p =
    let a = length-append (spell_many k (spell k) n x.0) (spell rest x.1) in
    let l = p.short in (
      each_part k old x.0 p.within.0 p.fits.0 (rows_short k n x.0 (omega (arith, a))),
      record { within = p.within.1; fits = p.fits.2; short = omega (arith, a) },
    )

-- ---- entries

-- what holds of each element holds of the one at a place
pub part_at : {X Y : Type 0} (P : Y → Type 0) (view : X → Y) (xs : List X) (i : ℕ) (x : X) → i < length xs → x ≡ get_or xs i x → Each P (map view xs) → P (view x)
part_at P view [] i x l e h = absurd (omega arith)
part_at P view (y ∷ ys) zero x l e h = rw e h.0
part_at P view (y ∷ ys) (suc i) x l e h = part_at P view ys i x (omega arith) e h.1

-- the entries of a dictionary are parts
pub mapping_parts : (old : Dictionary) → IsSource old → Each (IsPart mapping old) (map mapping_view old.mapping_table)
mapping_parts old s = (part_rows old (dictionary_view old) s.part).0

pub location_parts : (old : Dictionary) → IsSource old → Each (IsPart location old) (map location_view old.location_table)
location_parts old s = (part_rows old _ (part_rows old (dictionary_view old) s.part).1).0

pub function_parts : (old : Dictionary) → IsSource old → Each (IsPart function old) (map function_view old.function_table)
function_parts old s = (part_rows old _ (part_rows old _ (part_rows old (dictionary_view old) s.part).1).1).0

pub link_parts : (old : Dictionary) → IsSource old → Each (IsPart link old) (map link_view old.link_table)
link_parts old s = (part_rows old _ (part_rows old _ (part_rows old _ (part_rows old (dictionary_view old) s.part).1).1).1).0

pub attribute_parts : (old : Dictionary) → IsSource old → Each (IsPart attribute old) (map attribute_view old.attribute_table)
attribute_parts old s = (part_rows old _ (part_rows old _ (part_rows old _ (part_rows old _ (part_rows old _ (part_rows old (dictionary_view old) s.part).1).1).1).1).1).0

pub stack_parts : (old : Dictionary) → IsSource old → Each (IsPart stack old) (map stack_view old.stack_table)
stack_parts old s = (part_rows old _ (part_rows old _ (part_rows old _ (part_rows old _ (part_rows old _ (part_rows old _ (part_rows old (dictionary_view old) s.part).1).1).1).1).1).1).0

-- and so are their own lists
pub mapping_indexes : (old : Dictionary) (x : Value mapping) → IsPart mapping old x → Each (IsPart (Index Attributes attribute) old) x.1.1.1.1.0
mapping_indexes old x p = (part_rows old _ (part_row old _ (part_row old _ (part_row old _ (part_row old x p).1).1).1).1).0

pub location_lines : (old : Dictionary) (x : Value location) → IsPart location old x → Each (IsPart line old) x.1.1.0
location_lines old x p = (part_rows old _ (part_row old _ (part_row old x p).1).1).0

pub location_indexes : (old : Dictionary) (x : Value location) → IsPart location old x → Each (IsPart (Index Attributes attribute) old) x.1.1.1.0
location_indexes old x p = (part_rows old _ (part_rows old _ (part_row old _ (part_row old x p).1).1).1).0

pub stack_indexes : (old : Dictionary) (x : Value stack) → IsPart stack old x → Each (IsPart (Index Locations location) old) x.0
stack_indexes old x p = (part_rows old x p).0

-- ---- records

pub sample_indexes : (old : Dictionary) (x : Value sample) → IsPart sample old x → Each (IsPart (Index Attributes attribute) old) x.1.1.0
sample_indexes old x p = (part_rows old _ (part_rows old _ (part_row old x p).1).1).0

pub sample_link : (old : Dictionary) (x : Value sample) → IsPart sample old x → IsPart (Index Links link) old x.1.1.1.0
sample_link old x p = (part_row old _ (part_rows old _ (part_rows old _ (part_row old x p).1).1).1).0

pub profile_samples : (old : Dictionary) (x : Value profile) → IsPart profile old x → Each (IsPart sample old) x.1.0
profile_samples old x p = (part_rows old _ (part_row old x p).1).0

pub profile_period : (old : Dictionary) (x : Value profile) → IsPart profile old x → IsPart value_type old x.1.1.1.1.0
profile_period old x p = (part_row old _ (part_row old _ (part_row old _ (part_rows old _ (part_row old x p).1).1).1).1).0

pub profile_indexes : (old : Dictionary) (x : Value profile) → IsPart profile old x → Each (IsPart (Index Attributes attribute) old) x.1.1.1.1.1.1.1.1.1.1.0
profile_indexes old x p =
    (part_rows old _ (part_row old _ (part_row old _ (part_row old _ (part_row old _ (part_row old _ (part_row old _ (part_row old _ (part_row old _
    (part_rows old _ (part_row old x p).1).1).1).1).1).1).1).1).1).1).0

pub scope_parts : (old : Dictionary) (x : Value scope_profiles) → IsPart scope_profiles old x → IsPart scope old x.0 × Each (IsPart profile old) x.1.0
scope_parts old x p = ((part_row old x p).0, (part_rows old _ (part_row old x p).1).0)

pub resource_parts : (old : Dictionary) (x : Value resource_profiles) → IsPart resource_profiles old x → IsPart resource old x.0 × Each (IsPart scope_profiles old) x.1.0
resource_parts old x p = ((part_row old x p).0, (part_rows old _ (part_row old x p).1).0)

-- ---- places

-- the place of an index that is not 0 is in its table
place_in : (es : List Tree) (k : Shape) (i : ℤ) → IsIndex (length (or_blank es k)) i → ¬ (i ≡ pos 0) → nat_abs i < length es
place_in [] k (pos zero) l n = absurd (n refl)
place_in [] k (pos (suc i)) l n = absurd (omega (arith, l))
place_in [] k (negsuc i) l n = absurd l
place_in (e ∷ es) k (pos i) l n = l
place_in (e ∷ es) k (negsuc i) l n = absurd l

pub place_met : (w : State) (T : Table) (i : ℤ) → IsReady w.source w.keys w.memo → IsPart (Index T (entry T)) w.source i → FitsSigned w32 i → ¬ (i ≡ pos 0)
    → nat_abs (to_z w32 (of_z w32 i)) < length (at w.memo T)
place_met w T i r p f n =
    let l = place_in (old_entries w.source T) (entry T) i p.within n in
    let a = r.ready.all T in
    subst (λ z. nat_abs z < length (at w.memo T)) (sym (to_z-of_z w32 i f)) (omega (arith, l, a))

-- ---- the whole

-- what holds of each of a list of trees
listed_within : (P : Tree → Type 0) (ts : List Tree) → Each P ts → HoldsForEach P (listed ts)
listed_within P [] h = tt
listed_within P (t ∷ ts) h = (h.0, listed_within P ts h.1)

-- a message whose indexes are in their tables, and that can be written in few bytes, is a part of itself
pub message_part : (old : Dictionary) (rs : List (Value resource_profiles)) → ((T : Table) → Each (IsWithin (old_entries old) (entry T)) (old_entries old T))
    → Each (IsWithin (old_entries old) resource_profiles) (map (tree resource_profiles) rs) → Fits envelope (rs, (dictionary_view old, tt))
    → length (spell envelope (rs, (dictionary_view old, tt))) < 2 ^ 60 → IsPart envelope old (rs, (dictionary_view old, tt))
message_part old rs e r f l =
    let d = old_entries old in
    record {
      within = (
        listed_within (IsWithin d resource_profiles) _ r,
        (
          (
            listed_within (IsWithin d mapping) _ (e Mappings),
            (
              listed_within (IsWithin d location) _ (e Locations),
              (
                listed_within (IsWithin d function) _ (e Functions),
                (
                  listed_within (IsWithin d link) _ (e Links),
                  (
                    listed_within (IsWithin d Text) _ (e Strings),
                    (listed_within (IsWithin d attribute) _ (e Attributes), (listed_within (IsWithin d stack) _ (e Stacks), tt)),
                  ),
                ),
              ),
            ),
          ),
          tt,
        ),
      );
      fits = f;
      short = l;
    }

-- so its dictionary can be renumbered, and its records are parts
pub message_source : (old : Dictionary) (rs : List (Value resource_profiles)) → HasZeros (old_entries old) → IsPart envelope old (rs, (dictionary_view old, tt))
    → IsSource old × Each (IsPart resource_profiles old) rs
message_source old rs z p =
    let q = part_rows old (rs, (dictionary_view old, tt)) p in
    (record { zeros = z; part = (part_row old (dictionary_view old, tt) q.1).0 }, q.0)

-- ---- a sample that is read in columns

pub sample_part : (old now : Dictionary) (xs : List Sample) (i : ℕ) (x : Sample) → slice_get xs i ≡ Some x → now ≡ old → Each (IsPart sample old) (map sample_view xs)
    → IsPart sample now (sample_view x)
sample_part old now xs i x e same h =
    subst (λ (d : Dictionary). IsPart sample d (sample_view x)) (sym same)
    (part_at (IsPart sample old) sample_view xs i x (slice_get_within xs i x e) (sym (get_or_from_slice_get xs i x x e)) h)
