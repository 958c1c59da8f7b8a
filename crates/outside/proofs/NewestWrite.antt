-- A scan of writes for the first under a name.
use Rattle.std.proofs.Common.{◌≡◌, ℕ, List, ◌∷◌, Bool, cond, Option, Some, sym, ap, ◌∙◌, nat_eq}
use Rattle.std.specs.Ordering.{nat_cmp}
use Rattle.std.specs.Cmp.Lexicographic.{slice_cmp, pointwise, texts_ties}
use Rattle.std.specs.FinMap.{find, from_entries, get-from_entries}
use Rattle.std.proofs.lemmas.Cmp.{nat_list_cmp_total}
use Rattle.outside.specs.FileMap.{found, got_of}

-- one entry of those left, whose name was compared
pub find_step : (name held : List ℕ) (entry : List ℕ × List ℕ) (all left rest : List (List ℕ × List ℕ)) (same : Bool)
    → find (slice_cmp nat_cmp) name all ≡ find (slice_cmp nat_cmp) name left → left ≡ entry ∷ rest → held ≡ entry.0
    → same ≡ pointwise nat_eq name held
    → find (slice_cmp nat_cmp) name all ≡ cond same (Some entry.1) (find (slice_cmp nat_cmp) name rest)
find_step name held entry all left rest same so_far is is_held test =
    so_far
    ∙ ap (find (slice_cmp nat_cmp) name) is
    ∙ ap (λ (b : Bool). cond b (Some entry.1) (find (slice_cmp nat_cmp) name rest))
    (sym (texts_ties name entry.0) ∙ ap (pointwise nat_eq name) (sym is_held) ∙ sym test)

-- what the first entry under a name holds is what the map of all entries has there
pub found_got_of : (name : List ℕ) (all : List (List ℕ × List ℕ)) (limit : ℕ) (o : Option (List ℕ))
    → o ≡ find (slice_cmp nat_cmp) name all → found o limit ≡ got_of (from_entries all) name limit
found_got_of name all limit o is =
    ap (λ (p : Option (List ℕ)). found p limit) (is ∙ sym (get-from_entries nat_list_cmp_total all name))
