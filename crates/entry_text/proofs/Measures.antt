-- Lengths of the entries of a table.
use Rattle.std.proofs.Common.{◌≡◌, ℕ, List, map, get_or, length, sym, ap, subst, ◌∙◌, arith, Result, IfOk}
use Rattle.std.proofs.lemmas.List.{get_or-map, length-map}
use Rattle.std.proofs.lemmas.Simd.{map-map}
use Rattle.schema.specs.Messages.{dictionary, entry, entries_in}
use Rattle.schema.specs.Shape.{Table, Value, empty}
use Rattle.meaning.specs.Message.{tables_in}
use Rattle.meaning.specs.Tables.{Tables}
use Rattle.shown.proofs.Meant.{index-means}
use Rattle.line_text.specs.Counting.{capped}
use Rattle.entry_text.specs.EntryTexts.{entry_text}
use Rattle.entry_text.specs.Lengths.{AreLengths, value_length}

-- those of all entries of a table
pub all_lengths : {E : Type 0} (d : Value dictionary) (D : Tables) (T : Table) (view : E → Value (entry T)) (es : List E) (ns : List ℕ)
    → tables_in d ≡ D → map view es ≡ entries_in d T → ns ≡ map (λ e. value_length D T (view e)) es → AreLengths D T ns
all_lengths d D T view es ns held e is = subst (λ (F : Tables). ns ≡ map (λ x. value_length F T (view x)) es → AreLengths F T ns) held inside is
  where
    inside : ns ≡ map (λ x. value_length (tables_in d) T (view x)) es → AreLengths (tables_in d) T ns
    inside are i below =
        ap (λ (l : List ℕ). get_or l i 0) values
        ∙ get_or-map (value_length (tables_in d) T) (entries_in d T) i (empty (entry T)) 0 (omega (arith, below, ap length values, length-map (entries_in d T) (value_length (tables_in d) T)))
        ∙ ap (λ v. capped (length (entry_text T v))) (sym (index-means d T i))
      where
        values : ns ≡ map (value_length (tables_in d) T) (entries_in d T)
        values = are ∙ sym (map-map (value_length (tables_in d) T) view es) ∙ ap (map (value_length (tables_in d) T)) e

-- an answer with what is the same tables
pub ok_as : {A E : Type 0} (r : Result A E) (f : A → Tables) (d d' : Tables) → d ≡ d' → IfOk r (λ x. f x ≡ d) → IfOk r (λ x. f x ≡ d')
ok_as r f d d' e = subst (λ (t : Tables). IfOk r (λ x. f x ≡ t)) e
