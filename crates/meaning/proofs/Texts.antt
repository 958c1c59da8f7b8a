-- The parts of canonical bytes.
use Rattle.std.proofs.Common.{◌≡◌, ℕ, ◌<◌, List, [], ◌∷◌, ◌++◌, length, map, refl, sym, ap, ◌∙◌, arith}
use mathlib.Core.Path.{fun_ext}
use Rattle.std.proofs.lemmas.Bool.{ne_eqb}
use Rattle.std.proofs.lemmas.List.{length-append, append-nil}
use Rattle.schema.specs.Fits.{Lawful, Fits}
use Rattle.schema.specs.Shape.{Shape, End, One, Many, IsMessage, Table, Mappings, Locations, Functions, Links, Strings, Attributes, Stacks}
use Rattle.schema.specs.Texts.{varint_upto, long_field, bytes_field, items_text}
use Rattle.schema.specs.Spell.{spell, spell_many}
use Rattle.schema_laws.proofs.Lawfulness.{lawful_from}
use Rattle.schema_laws.proofs.ReadFits.{spelled_apart}
use Rattle.meaning.specs.Tree.{Tree, tree, value, octets_of, IsOf, listed, elements, head_of}
use Rattle.meaning.specs.Tables.{Tables, entry}
use Rattle.meaning.specs.Meaning.{blank, at_each}
use Rattle.meaning.specs.Renumbering.{Drafted}
use Rattle.meaning.specs.Canonical.{renumber, entries, records, record_list}
use Rattle.meaning.specs.Message.{dictionary, dictionary_value, table_values, tables_for, meaning_text, entry_text, table_text, dictionary_text, record_text}
use Rattle.meaning.proofs.Drafts.{draft_canonical}
use Rattle.meaning.proofs.Growth.{each-listed}
use Rattle.meaning.proofs.Places.{map-map}
use Rattle.meaning.proofs.Trees.{elements-listed}
use Rattle.meaning.proofs.Zeros.{entries_first}

-- ---- the dictionary

-- a table whose entries are messages
rows-text : (T : Table) (n : ℕ) (d : Tables) → items_text n (map (spell (entry T)) (table_values d T)) ≡ items_text n (map (λ e. spell (entry T) (value (entry T) e)) (d T))
rows-text T n d = ap (items_text n) (map-map (value (entry T)) (spell (entry T)) (d T))

-- the spelling of a dictionary is its tables' texts
pub dictionary-text : (d : Tables) → spell dictionary (dictionary_value d) ≡ dictionary_text d
dictionary-text d =
    let a = rows-text Mappings 1 d in
    let b = rows-text Locations 2 d in
    let c = rows-text Functions 3 d in
    let e = rows-text Links 4 d in
    let f = rows-text Attributes 6 d in
    let g = rows-text Stacks 7 d in
    rw (a, b, c, e, f, g, append-nil (table_text Stacks (d Stacks))) refl

-- ---- the whole

-- a list with an element has bytes
items-long : (n : ℕ) (b : List ℕ) (bs : List (List ℕ)) → 0 < length (long_field n b) → 0 < length (items_text n (b ∷ bs))
items-long n b bs h = let e = length-append (long_field n b) (items_text n bs) in omega arith

-- so has one field
long-long : (b : List ℕ) → 0 < length (long_field 5 b)
unfolding long_field varint_upto
long-long b = omega arith

-- and a table of strings with an entry
strings-long : (d : Tables) (e : Tree) (es : List Tree) → d Strings ≡ e ∷ es → 0 < length (table_text Strings (d Strings))
strings-long d e es h = rw h (items-long 5 (octets_of e) (map octets_of es) (long-long (octets_of e)))

-- and a dictionary with such a table
dictionary-long : (d : Tables) → 0 < length (table_text Strings (d Strings)) → 0 < length (dictionary_text d)
dictionary-long d h =
    rw (length-append (table_text Mappings (d Mappings)))
    (rw (length-append (table_text Locations (d Locations)))
    (rw (length-append (table_text Functions (d Functions)))
    (rw (length-append (table_text Links (d Links)))
    (rw (length-append (table_text Strings (d Strings))) (omega arith)))))

-- a field of bytes that are not empty is written
bytes-long : (n : ℕ) (b : List ℕ) → 0 < length b → bytes_field n b ≡ long_field n b
unfolding bytes_field
bytes-long n b h = rw (ne_eqb (length b) 0 (λ e. absurd (omega arith))) refl

-- records, each after its tag and length
records-text : (k : Shape) → IsMessage k → (xs : List Tree) → spell_many k (spell k) 1 (map (value k) xs) ≡ items_text 1 (map (record_text k) xs)
records-text End h xs = ap (items_text 1) (map-map (value End) (spell End) xs)
records-text (One n k rest) h xs = ap (items_text 1) (map-map (value (One n k rest)) (spell (One n k rest)) xs)
records-text (Many n k rest) h xs = ap (items_text 1) (map-map (value (Many n k rest)) (spell (Many n k rest)) xs)
records-text s h xs = absurd h

-- the canonical bytes are the records and then the dictionary
pub text-parts : (k : Shape) → IsMessage k → (ms : List Tree)
    → meaning_text k ms ≡ items_text 1 (map (λ m. record_text k (renumber (tables_for k ms) k m)) ms) ++ long_field 2 (dictionary_text (entries (tables_for k ms)))
text-parts k h ms =
    let v : Tables = tables_for k ms in
    let r : spell_many k (spell k) 1 (map (λ m. value k (renumber v k m)) ms) ≡ items_text 1 (map (λ m. record_text k (renumber v k m)) ms) =
    ap (spell_many k (spell k) 1) (sym (map-map (renumber v k) (value k) ms)) ∙ records-text k h (map (renumber v k) ms)
    ∙ ap (items_text 1) (map-map (renumber v k) (record_text k) ms) in
    let first = entries_first (records k) (record_list ms) Strings in
    let d : bytes_field 2 (spell dictionary (dictionary_value (entries v))) ≡ long_field 2 (dictionary_text (entries v)) =
    ap (bytes_field 2) (dictionary-text (entries v))
    ∙ bytes-long 2 (dictionary_text (entries v)) (dictionary-long (entries v) (strings-long (entries v) (blank (entry Strings)) first.0 first.1)) in
    ap (λ l. l ++ (bytes_field 2 (spell dictionary (dictionary_value (entries v))) ++ [])) r
    ∙ ap (λ l. items_text 1 (map (λ m. record_text k (renumber v k m)) ms) ++ l) (append-nil _ ∙ d)

-- ---- drafts

-- the bytes of a draft are the canonical ones of its meanings
pub draft-text : (s : Shape) → IsMessage s → (k : Tables) (ms xs : List Tree) → Drafted s k ms xs
    → meaning_text s ms ≡ items_text 1 (map (record_text s) xs) ++ long_field 2 (dictionary_text k)
draft-text s h k ms xs r =
    let v : Tables = tables_for s ms in
    let c = draft_canonical s k ms xs r in
    let e : elements (head_of (record_list xs)) ≡ elements (at_each (renumber v s) (listed ms)) = ap (λ t. elements (head_of t)) c.1 in
    let f : xs ≡ map (renumber v s) ms = sym (elements-listed xs) ∙ e ∙ ap elements (each-listed (renumber v s) ms) ∙ elements-listed (map (renumber v s) ms) in
    text-parts s h ms
    ∙ ap (λ l. items_text 1 l ++ long_field 2 (dictionary_text (entries v))) (sym (map-map (renumber v s) (record_text s) ms) ∙ ap (map (record_text s)) (sym f))
    ∙ ap (λ d. items_text 1 (map (record_text s) xs) ++ long_field 2 (dictionary_text d)) (sym (fun_ext c.0))

-- ---- keys

-- trees of one value are the same
value-apart : (s : Shape) (e f : Tree) → IsOf s e → IsOf s f → value s e ≡ value s f → e ≡ f
value-apart s e f h i q = sym h ∙ ap (tree s) q ∙ i

-- and so are those of one spelling, if it can be read
spelling-apart : (s : Shape) → IsMessage s → Lawful s → (e f : Tree) → IsOf s e → IsOf s f → Fits s (value s e) → Fits s (value s f)
    → spell s (value s e) ≡ spell s (value s f) → e ≡ f
spelling-apart s m l e f h i a b q = value-apart s e f h i (spelled_apart s m l (value s e) (value s f) a b q)

-- so entries of one text are the same
pub entries-apart : (T : Table) (e f : Tree) → IsOf (entry T) e → IsOf (entry T) f → Fits (entry T) (value (entry T) e) → Fits (entry T) (value (entry T) f)
    → entry_text T e ≡ entry_text T f → e ≡ f
entries-apart Mappings e f h i a b q = spelling-apart (entry Mappings) tt (lawful_from (entry Mappings) refl) e f h i a b q
entries-apart Locations e f h i a b q = spelling-apart (entry Locations) tt (lawful_from (entry Locations) refl) e f h i a b q
entries-apart Functions e f h i a b q = spelling-apart (entry Functions) tt (lawful_from (entry Functions) refl) e f h i a b q
entries-apart Links e f h i a b q = spelling-apart (entry Links) tt (lawful_from (entry Links) refl) e f h i a b q
entries-apart Attributes e f h i a b q = spelling-apart (entry Attributes) tt (lawful_from (entry Attributes) refl) e f h i a b q
entries-apart Stacks e f h i a b q = spelling-apart (entry Stacks) tt (lawful_from (entry Stacks) refl) e f h i a b q
entries-apart Strings e f h i a b q = value-apart (entry Strings) e f h i q
