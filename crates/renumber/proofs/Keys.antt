-- Keys, and their entries.
use Rattle.std.proofs.Common.{◌≡◌, ℕ, zero, suc, List, [], ◌∷◌, map, refl, sym, ap, ◌∙◌}
use Rattle.std.proofs.lemmas.Option.{none-some, same_Some}
use Rattle.schema.specs.Each.{Each}
use Rattle.schema.specs.Fits.{Fits, Lawful}
use Rattle.schema.specs.Merge.{merge}
use Rattle.schema.specs.Messages.{mapping, location, function, link, attribute, stack}
use Rattle.schema.specs.Run.{run}
use Rattle.schema.specs.Decoding.{trace_upto}
use Rattle.schema.specs.Shape.{Shape, Value, IsMessage, Table, Mappings, Locations, Functions, Links, Strings, Attributes, Stacks, empty}
use Rattle.schema.specs.Texts.{number_field, bytes_field}
use Rattle.schema.specs.Spell.{spell}
use Rattle.schema_laws.proofs.ReadingBack.{reads_back}
use Rattle.schema_laws.proofs.Lawfulness.{lawful_from}
use Rattle.meaning.specs.Meaning.{blank}
use Rattle.meaning.specs.Message.{entry_text}
use Rattle.meaning.specs.Tables.{entry}
use Rattle.meaning.specs.Tree.{tree, value}
use Rattle.meaning.proofs.Trees.{value-tree}
use Rattle.tables.specs.Keys.{IsAt}
use Rattle.tables.proofs.Interning.{TellsFrom}
use Rattle.renumber.specs.Entries.{IsKey, entry_of, read_as}

-- ---- the entry of a spelling

-- a message that fits is what its spelling is read as
message_behind : (s : Shape) → IsMessage s → Lawful s → (y : Value s) → Fits s y → tree s (read_as s (merge s (empty s) 0 (spell s y))) ≡ tree s y
message_behind s m l y f = ap (λ r. tree s (read_as s r)) (reads_back s m l y f 0)

-- so its spelling is a key, and the key's entry is its tree
message_key : (s : Shape) → IsMessage s → Lawful s → (y : Value s) → Fits s y → let t = tree s (read_as s (merge s (empty s) 0 (spell s y))) in
    (t ≡ tree s y) × (spell s (value s t) ≡ spell s y)
message_key s m l y f =
    let e = message_behind s m l y f in
    (e, ap (λ t. spell s (value s t)) e ∙ ap (spell s) (value-tree s y))

pub spelled_key : (T : Table) → IsMessage (entry T) → (y : Value (entry T)) → Fits (entry T) y
    → (entry_of T (spell (entry T) y) ≡ tree (entry T) y) × IsKey T (spell (entry T) y)
spelled_key Mappings m y f = message_key mapping tt (lawful_from mapping refl) y f
spelled_key Locations m y f = message_key location tt (lawful_from location refl) y f
spelled_key Functions m y f = message_key function tt (lawful_from function refl) y f
spelled_key Links m y f = message_key link tt (lawful_from link refl) y f
spelled_key Strings m y f = absurd m
spelled_key Attributes m y f = message_key attribute tt (lawful_from attribute refl) y f
spelled_key Stacks m y f = message_key stack tt (lawful_from stack refl) y f

-- ---- the zero entries

-- the entry of no bytes is the zero entry
pub zero_entry_of : (T : Table) → entry_of T [] ≡ blank (entry T)
unfolding run trace_upto
zero_entry_of Mappings = refl
zero_entry_of Locations = refl
zero_entry_of Functions = refl
zero_entry_of Links = refl
zero_entry_of Strings = refl
zero_entry_of Attributes = refl
zero_entry_of Stacks = refl

-- and no bytes are its text
pub zero_key : (T : Table) → IsKey T []
unfolding number_field bytes_field run trace_upto
zero_key Mappings = refl
zero_key Locations = refl
zero_key Functions = refl
zero_key Links = refl
zero_key Strings = refl
zero_key Attributes = refl
zero_key Stacks = refl

-- ---- different keys stand for different entries

-- what holds of each key holds of one at a place
each_stands : (P : List ℕ → Type 0) (keys : List (List ℕ)) (key : List ℕ) (i : ℕ) → Each P keys → IsAt keys key i → P key
each_stands P [] key i h s = absurd (none-some key s)
each_stands P (k ∷ ks) key zero h s = rw (← same_Some k key s) h.0
each_stands P (k ∷ ks) key (suc i) h s = each_stands P ks key i h.1 s

pub tells_keys : (T : Table) (keys : List (List ℕ)) (key : List ℕ) → Each (IsKey T) keys → IsKey T key → TellsFrom (entry_of T) keys key
tells_keys T keys key h k other i s e = sym (each_stands (IsKey T) keys other i h s) ∙ ap (entry_text T) e ∙ k

-- the texts of entries are their keys
pub key_texts : (T : Table) (keys : List (List ℕ)) → Each (IsKey T) keys → map (entry_text T) (map (entry_of T) keys) ≡ keys
key_texts T [] h = refl
key_texts T (k ∷ ks) h =
    let e : entry_text T (entry_of T k) ≡ k = h.0 in
    let r : map (entry_text T) (map (entry_of T) ks) ≡ ks = key_texts T ks h.1 in
    cc
