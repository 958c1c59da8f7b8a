-- The entries that indexes name.
use Rattle.std.proofs.Common.{rules, ◌≡◌, true, false, int_lt, nat_abs, subst, ℕ, zero, suc, ℤ, pos, negsuc, List, [], ◌∷◌, map, get_or, Option, refl, sym, ap, ◌∙◌}
use Rattle.std.specs.List.{slice_get}
use Rattle.schema.specs.Messages.{dictionary, entry, entries_in}
use Rattle.schema.specs.Shape.{Index, Table, Value, empty}
use Rattle.meaning.specs.Message.{tables_in}
use Rattle.shown.specs.Direct.{meant}
use Rattle.shown.proofs.Meant.{index-means, below-means}
use Rattle.entry_text.specs.DictionaryTexts.{or_empty}

-- an index below 0, which the code has as another term
pub below_all : (d : Value dictionary) (T : Table) (i z : ℤ) → z ≡ i → int_lt z (pos 0) ≡ true → meant (tables_in d) (Index T (entry T)) i ≡ meant (tables_in d) (entry T) (empty (entry T))
below_all d T i (pos n) same below = absurd (search (rules, below))
below_all d T i (negsuc n) same below = subst (λ (k : ℤ). meant (tables_in d) (Index T (entry T)) k ≡ meant (tables_in d) (entry T) (empty (entry T))) same (below-means d T n)

-- the entry of a list
found : {E : Type 0} (T : Table) (view : E → Value (entry T)) (es : List E) (i : ℕ) → get_or (map view es) i (empty (entry T)) ≡ or_empty T view (slice_get es i)
found T view [] i = refl
found T view (e ∷ es) zero = refl
found T view (e ∷ es) (suc i) = found T view es i

-- an index that is not below 0
at_place : {E : Type 0} (d : Value dictionary) (T : Table) (view : E → Value (entry T)) (es : List E) (i : ℕ) (o : Option E)
    → map view es ≡ entries_in d T → o ≡ slice_get es i → meant (tables_in d) (Index T (entry T)) (pos i) ≡ meant (tables_in d) (entry T) (or_empty T view o)
at_place d T view es i o e is =
    index-means d T i
    ∙ ap (λ (l : List (Value (entry T))). meant (tables_in d) (entry T) (get_or l i (empty (entry T)))) (sym e)
    ∙ ap (meant (tables_in d) (entry T)) (found T view es i ∙ ap (or_empty T view) (sym is))

pub at_index : {E : Type 0} (d : Value dictionary) (T : Table) (view : E → Value (entry T)) (es : List E) (i z : ℤ) (o : Option E)
    → z ≡ i → int_lt z (pos 0) ≡ false → map view es ≡ entries_in d T → o ≡ slice_get es (nat_abs z)
    → meant (tables_in d) (Index T (entry T)) i ≡ meant (tables_in d) (entry T) (or_empty T view o)
at_index d T view es i (pos n) o same from e is =
    subst (λ (k : ℤ). meant (tables_in d) (Index T (entry T)) k ≡ meant (tables_in d) (entry T) (or_empty T view o)) same (at_place d T view es n o e is)
at_index d T view es i (negsuc n) o same from e is = absurd (search (rules, from))
