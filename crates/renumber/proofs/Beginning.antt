-- The beginning: zero entries alone, and no entry that was met.
use Rattle.std.proofs.Common.{◌≡◌, ℕ, List, [], ◌∷◌, length, map, replicate, None, refl, sym, ap, ◌∙◌, arith}
use Rattle.std.proofs.lemmas.List.{length-map}
use Rattle.schema.specs.Messages.{dictionary, entries_in}
use Rattle.schema.specs.Shape.{Value, Table, Mappings, Locations, Functions, Links, Strings, Attributes, Stacks}
use Rattle.schema.specs.Tables.{every_table}
use Rattle.meaning.specs.Meaning.{blank}
use Rattle.meaning.specs.Message.{tables_in}
use Rattle.meaning.specs.Tables.{entry}
use Rattle.meaning.specs.Tree.{tree}
use Rattle.dict_rec.specs.declared.dictionary.Dictionary.{Dictionary}
use Rattle.dict_rec.specs.Views.{dictionary_view}
use Rattle.key_tables.specs.Keys.{Keys, at}
use Rattle.renumber.specs.Entries.{count_in, entry_of, entry_count, new_entries, old_entries}
use Rattle.renumber.specs.Walk.{MemoLists, unmet_of}
use Rattle.renumber.proofs.Keys.{zero_entry_of}
use Rattle.renumber.proofs.Memos.{unmet_replicate}

-- the zero entries alone
pub zeros_alone : (keys : Keys) → ((T : Table) → at keys T ≡ [] ∷ []) → (T : Table) → new_entries keys T ≡ blank (entry T) ∷ []
zeros_alone keys h T = ap (map (entry_of T)) (h T) ∙ ap (λ t. t ∷ []) (zero_entry_of T)

-- ---- none was met

-- tables of so many entries, none of which was met
abbrev pub none_of : List ℕ → MemoLists
none_of ns = map (λ n. replicate n None) ns

-- at each table's place is its list
none_at : (f : Table → ℕ) (T : Table) → at (none_of (map f every_table)) T ≡ replicate (f T) None
none_at f Mappings = refl
none_at f Locations = refl
none_at f Functions = refl
none_at f Links = refl
none_at f Strings = refl
none_at f Attributes = refl
none_at f Stacks = refl

-- the number of entries of a table
abbrev pub size_in : Dictionary → Table → ℕ
size_in d T = length (entries_in (dictionary_view d) T)

pub none_by_table : (d : Dictionary) (m : MemoLists) → m ≡ none_of (map (size_in d) every_table) → (T : Table) → at m T ≡ replicate (length (old_entries d T)) None
none_by_table d m e T =
    ap (λ x. at x T) e ∙ none_at (size_in d) T ∙ ap (λ n. replicate n None) (sym (length-map (entries_in (dictionary_view d) T) (tree (entry T))))

-- so many are unmet as there are
counted : (d : Value dictionary) (Ts : List Table) → unmet_of (none_of (map (λ T. length (entries_in d T)) Ts)) ≡ count_in (tables_in d) Ts
counted d [] = refl
counted d (T ∷ Ts) =
    let a = unmet_replicate (length (entries_in d T)) in
    let b = counted d Ts in
    let c = length-map (entries_in d T) (tree (entry T)) in
    omega (arith, a, b, c)

pub none_unmet : (d : Dictionary) (m : MemoLists) → m ≡ none_of (map (size_in d) every_table) → unmet_of m ≡ entry_count (old_entries d)
none_unmet d m e = ap unmet_of e ∙ counted (dictionary_view d) every_table
