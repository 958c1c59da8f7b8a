-- If a meaning's outline goes on from another's, its canonical bytes are at least as many.
use Rattle.std.proofs.Common.{◌≡◌, ℕ, ◌≤◌, List, [], ◌∷◌, ◌++◌, length, map, refl, sym, ap, subst, ◌∙◌, true, arith, length-append}
use Rattle.std.proofs.lemmas.Grind.{flat_map-append}
use Rattle.std.proofs.lemmas.List.{map-append}
use Rattle.std.specs.List.{flat_map}
use Rattle.schema.specs.Each.{Each}
use Rattle.schema.specs.Shape.{Shape, IsMessage, Table, Mappings, Locations, Functions, Links, Strings, Attributes, Stacks}
use Rattle.schema.specs.Texts.{items_text, long_field}
use Rattle.schema_laws.proofs.Lists.{each_left, each_right}
use Rattle.meaning.specs.Tree.{Tree}
use Rattle.meaning.specs.Tables.{Tables, IsSound, entry, has, with_new, field_of}
use Rattle.meaning.specs.Meaning.{uses}
use Rattle.meaning.specs.Canonical.{Covers, zeros, renumber, entries, records, record_list}
use Rattle.meaning.specs.Message.{tables_for, meaning_text, record_text, entry_text, table_text, dictionary_text}
use Rattle.meaning.specs.Renumbering.{is_plain}
use Rattle.meaning.proofs.Closure.{tables-closed}
use Rattle.meaning.proofs.Growth.{Grown, grown_by, renumber-grown}
use Rattle.meaning.proofs.Places.{each_all, all_in, grown-begins, map-map, map-same, with_new-append}
use Rattle.meaning.proofs.Texts.{text-parts}
use Rattle.parts.specs.Parts.{parts_text}
use Rattle.parts.proofs.Lengths.{long_grows}
use Rattle.parts.proofs.Sizes.{text_grows}
use Rattle.parts.specs.Records.{holder, profile_part}
use Rattle.operations.specs.Outlines.{Item, ResourceItem, ScopeItem, ProfileItem, outline, item_part, item_uses}
use Rattle.operations.proofs.Renumbered.{parts-outline}
use Rattle.operations.proofs.Walks.{meaning-walk}
use Rattle.parts.proofs.Spelling.{parts-text}

-- ---- texts by outlines

-- the canonical bytes of a meaning by its outline
pub outline-text : (g h k : Shape) → IsMessage g → IsMessage h → IsMessage k → is_plain g ≡ true → is_plain h ≡ true → (ms : List Tree)
    → let v = tables_for (holder g (holder h k)) ms in
    meaning_text (holder g (holder h k)) ms ≡ parts_text (map (item_part g h k v) (outline ms)) ++ long_field 2 (dictionary_text (entries v))
outline-text g h k l m n q p ms =
    let r : Shape = holder g (holder h k) in
    let v : Tables = tables_for r ms in
    text-parts r tt ms
    ∙ ap (λ x. x ++ long_field 2 (dictionary_text (entries v)))
    (ap (items_text 1) (sym (map-map (renumber v r) (record_text r) ms)) ∙ sym (parts-text g h k l m n (map (renumber v r) ms))
    ∙ ap parts_text (parts-outline v g h k q p ms))

-- items that the lists cover have the same parts in lists that have grown
parts-grown : (g h k : Shape) (v w : Tables) → Grown v w → (is : List Item)
    → ((T : Table) → Each (λ x. has (v T) x ≡ true) (flat_map (item_uses k T) is)) → map (item_part g h k w) is ≡ map (item_part g h k v) is
parts-grown g h k v w e [] c = refl
parts-grown g h k v w e (ResourceItem t ∷ is) c = ap (λ l. item_part g h k v (ResourceItem t) ∷ l) (parts-grown g h k v w e is c)
parts-grown g h k v w e (ScopeItem t ∷ is) c = ap (λ l. item_part g h k v (ScopeItem t) ∷ l) (parts-grown g h k v w e is c)
parts-grown g h k v w e (ProfileItem t ∷ is) c =
    let here : renumber w k t ≡ renumber v k t = renumber-grown v w e k t (λ T. each_left (λ x. has (v T) x ≡ true) (item_uses k T (ProfileItem t)) _ (c T)) in
    let rest = parts-grown g h k v w e is (λ T. each_right (λ x. has (v T) x ≡ true) (item_uses k T (ProfileItem t)) _ (c T)) in
    ap (λ x. profile_part k x ∷ map (item_part g h k w) is) here ∙ ap (λ l. profile_part k (renumber v k t) ∷ l) rest

-- ---- dictionaries that grow

-- each table's entries go on
entries-grown : (v w : Tables) → ((T : Table) → Each (Covers v (entry T)) (v T)) → Grown v w
    → (T : Table) (us : List Tree) → w T ≡ with_new (v T) us → (es : List Tree) × (entries w T ≡ entries v T ++ es)
entries-grown v w c g T us h =
    let r = grown-begins us (v T) in
    let e : w T ≡ v T ++ r.0 = h ∙ r.1 in
    let f : Tree → Tree = renumber w (entry T) in
    let s : map f (v T) ≡ map (renumber v (entry T)) (v T) =
    map-same f (renumber v (entry T)) (v T) (each_all (Covers v (entry T)) (λ y. f y ≡ renumber v (entry T) y) (renumber-grown v w g (entry T)) (v T) (c T)) in
    (map f r.0, ap (map f) e ∙ map-append f (v T) r.0 ∙ ap (λ l. l ++ map f r.0) s)

append_grows : (a b c d : List ℕ) → length a ≤ length c → length b ≤ length d → length (a ++ b) ≤ length (c ++ d)
append_grows a b c d h i = omega (arith, length-append a b, length-append c d)

table_grows : (T : Table) (d e more : List Tree) → e ≡ d ++ more → length (table_text T d) ≤ length (table_text T e)
table_grows T d e more h =
    let f : List ℕ → List ℕ = long_field (field_of T) in
    let a : table_text T e ≡ table_text T d ++ flat_map f (map (entry_text T) more) =
    ap (table_text T) h ∙ ap (flat_map f) (map-append (entry_text T) d more) ∙ flat_map-append f (map (entry_text T) d) (map (entry_text T) more) in
    omega (arith, ap length a, length-append (table_text T d) (flat_map f (map (entry_text T) more)))

dictionary_grows : (d e : Tables) → ((T : Table) → (more : List Tree) × (e T ≡ d T ++ more)) → length (dictionary_text d) ≤ length (dictionary_text e)
dictionary_grows d e h =
    let g : (T : Table) → length (table_text T (d T)) ≤ length (table_text T (e T)) = λ T. table_grows T (d T) (e T) (h T).0 (h T).1 in
    append_grows _ _ _ _ (g Mappings) (append_grows _ _ _ _ (g Locations) (append_grows _ _ _ _ (g Functions)
    (append_grows _ _ _ _ (g Links) (append_grows _ _ _ _ (g Strings) (append_grows _ _ _ _ (g Attributes) (g Stacks))))))

-- ---- the law

-- the tables of a longer outline gain what its new items meet
tables-longer : (g h k : Shape) → is_plain g ≡ true → is_plain h ≡ true → (ms ns : List Tree) (more : List Item) → outline ns ≡ outline ms ++ more
    → (T : Table) → tables_for (holder g (holder h k)) ns T ≡ with_new (tables_for (holder g (holder h k)) ms T) (flat_map (item_uses k T) more)
tables-longer g h k q p ms ns more e T =
    let a = meaning-walk T g h k q p ms in
    let b = meaning-walk T g h k q p ns ∙ ap (flat_map (item_uses k T)) e ∙ flat_map-append (item_uses k T) (outline ms) more in
    ap (with_new (zeros T)) b ∙ with_new-append (flat_map (item_uses k T) (outline ms)) (flat_map (item_uses k T) more) (zeros T)
    ∙ ap (λ l. with_new (with_new (zeros T) l) (flat_map (item_uses k T) more)) (sym a)

pub longer : (g h k : Shape) → IsMessage g → IsMessage h → IsMessage k → is_plain g ≡ true → is_plain h ≡ true → IsSound (holder g (holder h k))
    → (ms ns : List Tree) (more : List Item) → outline ns ≡ outline ms ++ more
    → length (meaning_text (holder g (holder h k)) ms) ≤ length (meaning_text (holder g (holder h k)) ns)
longer g h k l m n q p s ms ns more e =
    let r : Shape = holder g (holder h k) in
    let v : Tables = tables_for r ms in
    let w : Tables = tables_for r ns in
    let grows : (T : Table) → w T ≡ with_new (v T) (flat_map (item_uses k T) more) = tables-longer g h k q p ms ns more e in
    let grown : Grown v w = grown_by v w (λ T. flat_map (item_uses k T) more) grows in
    let covers : (T : Table) → Each (λ x. has (v T) x ≡ true) (flat_map (item_uses k T) (outline ms)) =
    λ T. subst (λ l. Each (λ x. has (v T) x ≡ true) l) (meaning-walk T g h k q p ms) (all_in (uses T (records r) (record_list ms)) (zeros T)) in
    let parts : map (item_part g h k w) (outline ns) ≡ map (item_part g h k v) (outline ms) ++ map (item_part g h k w) more =
    ap (map (item_part g h k w)) e ∙ map-append (item_part g h k w) (outline ms) more
    ∙ ap (λ x. x ++ map (item_part g h k w) more) (parts-grown g h k v w grown (outline ms) covers) in
    let texts : length (parts_text (map (item_part g h k v) (outline ms))) ≤ length (parts_text (map (item_part g h k w) (outline ns))) =
    rw parts (text_grows (map (item_part g h k v) (outline ms)) (map (item_part g h k w) more)) in
    let dictionaries : length (dictionary_text (entries v)) ≤ length (dictionary_text (entries w)) =
    dictionary_grows (entries v) (entries w)
    (λ T. entries-grown v w (tables-closed (records r) (s, tt) (record_list ms)) grown T (flat_map (item_uses k T) more) (grows T)) in
    rw (outline-text g h k l m n q p ms, outline-text g h k l m n q p ns)
    (append_grows _ _ _ _ texts (long_grows 2 _ _ dictionaries))
