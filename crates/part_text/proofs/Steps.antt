-- What is open after extents, by the last one.
use Rattle.std.proofs.Common.{◌≡◌, ℕ, ◌+◌, ◌-◌, List, [], ◌∷◌, ◌++◌, take, drop, refl, ap, ◌∙◌, arith}
use Rattle.std.proofs.lemmas.List.{drop-drop}
use Rattle.part_text.specs.Extents.{front_len, back_len, fronts_len, backs_len}
use Rattle.part_text.specs.Remainders.{scope_after, resource_after, scope_open, resource_open}
use Rattle.part_text.specs.declared.extent.Extent.{Extent}

pub fronts_of : (ps qs : List Extent) → fronts_len (ps ++ qs) ≡ fronts_len ps + fronts_len qs
fronts_of [] qs = omega arith
fronts_of (p ∷ ps) qs = omega (arith, fronts_of ps qs)

pub backs_of : (ps qs : List Extent) → backs_len (ps ++ qs) ≡ backs_len ps + backs_len qs
backs_of [] qs = omega arith
backs_of (p ∷ ps) qs = omega (arith, backs_of ps qs)

pub scope_to : (ps : List Extent) (p : Extent) (u sb : List ℕ) → scope_open (ps ++ p ∷ []) u sb ≡ scope_after p (scope_open ps u sb) (drop (backs_len ps) u)
scope_to [] p u sb = refl
scope_to (q ∷ ps) p u sb =
    scope_to ps p (drop (back_len q) u) (scope_after q sb u)
    ∙ ap (scope_after p (scope_open ps (drop (back_len q) u) (scope_after q sb u))) (drop-drop (backs_len ps) (back_len q) u)

pub resource_to : (ps : List Extent) (p : Extent) (u rb : List ℕ) → resource_open (ps ++ p ∷ []) u rb ≡ resource_after p (resource_open ps u rb) (drop (backs_len ps) u)
resource_to [] p u rb = refl
resource_to (q ∷ ps) p u rb =
    resource_to ps p (drop (back_len q) u) (resource_after q rb u)
    ∙ ap (resource_after p (resource_open ps (drop (back_len q) u) (resource_after q rb u))) (drop-drop (backs_len ps) (back_len q) u)

-- the same for a list that ends with this extent
pub last_front : (all ps : List Extent) (p : Extent) → all ≡ ps ++ p ∷ [] → fronts_len all ≡ fronts_len ps + front_len p
last_front all ps p e = omega (arith, ap fronts_len e, fronts_of ps (p ∷ []))

pub last_back : (all ps : List Extent) (p : Extent) → all ≡ ps ++ p ∷ [] → backs_len all ≡ backs_len ps + back_len p
last_back all ps p e = omega (arith, ap backs_len e, backs_of ps (p ∷ []))

pub last_scope : (all ps : List Extent) (p : Extent) (u : List ℕ) → all ≡ ps ++ p ∷ [] → scope_open all u [] ≡ scope_after p (scope_open ps u []) (drop (backs_len ps) u)
last_scope all ps p u e = ap (λ qs. scope_open qs u []) e ∙ scope_to ps p u []

pub last_resource : (all ps : List Extent) (p : Extent) (u : List ℕ) → all ≡ ps ++ p ∷ []
    → resource_open all u [] ≡ resource_after p (resource_open ps u []) (drop (backs_len ps) u)
last_resource all ps p u e = ap (λ qs. resource_open qs u []) e ∙ resource_to ps p u []

-- the last text of some
pub last_text : (u : List ℕ) (n b end : ℕ) → end ≡ n + b → take (end - (end - b)) (drop (end - b) u) ≡ take b (drop n u)
last_text u n b end e =
    let k : end - b ≡ n = omega arith in
    let l : end - (end - b) ≡ b = omega arith in
    ap (λ (i : ℕ). take i (drop (end - b) u)) l ∙ ap (λ (i : ℕ). take b (drop i u)) k
