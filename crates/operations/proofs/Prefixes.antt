-- What is grouped of the prefixes of a flat list: each by the one before it and the profile that comes next.
use Rattle.std.proofs.Common.{◌≡◌, ℕ, suc, ◌<◌, List, [], ◌∷◌, ◌++◌, length, take, drop, get_or, sym, ap, subst, ◌∙◌, arith, append_assoc}
use Rattle.std.proofs.Math.Seq.{take-suc}
use Rattle.std.proofs.lemmas.List.{take-append-drop}
use Rattle.schema.specs.Each.{Each}
use Rattle.schema_laws.proofs.Lists.{each_left, each_right}
use Rattle.meaning.specs.Tree.{Tree}
use Rattle.operations.specs.Flat.{FlatProfile, HasHeadsOf, group, record_of}
use Rattle.operations.specs.Seams.{seam, under_last}
use Rattle.operations.proofs.OneMore.{group-elsewhere, group-scope, group-profile}

-- what holds of each element holds of each of a prefix, and of each of what is left after it
pub each_taken : {A : Type 0} (P : A → Type 0) (n : ℕ) (xs : List A) → Each P xs → Each P (take n xs)
each_taken P n xs h = each_left P (take n xs) (drop n xs) (subst (Each P) (sym (take-append-drop n xs)) h)

pub each_left_over : {A : Type 0} (P : A → Type 0) (n : ℕ) (xs : List A) → Each P xs → Each P (drop n xs)
each_left_over P n xs h = each_right P (take n xs) (drop n xs) (subst (Each P) (sym (take-append-drop n xs)) h)

-- two elements more
two-more : {A : Type 0} (l : List A) (n : ℕ) (d : A) → suc n < length l → take (suc (suc n)) l ≡ take n l ++ get_or l n d ∷ get_or l (suc n) d ∷ []
two-more l n d h =
    take-suc l (suc n) d h ∙ ap (λ x. x ++ get_or l (suc n) d ∷ []) (take-suc l n d (omega arith))
    ∙ append_assoc (take n l) (get_or l n d ∷ []) (get_or l (suc n) d ∷ [])

-- so is what is grouped, where it is so with `with_next` after any list that ends in the two
prefix-grouped : (l : List FlatProfile) (n : ℕ) (d : FlatProfile) → suc n < length l → (with_next : List Tree → List Tree)
    → (take (suc (suc n)) l ≡ take n l ++ get_or l n d ∷ get_or l (suc n) d ∷ []
    → group (take n l ++ get_or l n d ∷ get_or l (suc n) d ∷ []) ≡ with_next (group (take n l ++ get_or l n d ∷ [])))
    → group (take (suc (suc n)) l) ≡ with_next (group (take (suc n) l))
prefix-grouped l n d h with_next g =
    let e = two-more l n d h in
    ap group e ∙ g e ∙ ap (λ x. with_next (group x)) (sym (take-suc l n d (omega arith)))

pub prefix-elsewhere : (l : List FlatProfile) (n : ℕ) (d : FlatProfile) → suc n < length l
    → ((get_or l n d).resource_place ≡ (get_or l (suc n) d).resource_place → ⊥)
    → group (take (suc (suc n)) l) ≡ group (take (suc n) l) ++ record_of (get_or l (suc n) d) ∷ []
prefix-elsewhere l n d h p =
    prefix-grouped l n d h (λ x. x ++ record_of (get_or l (suc n) d) ∷ []) (λ e. group-elsewhere (take n l) (get_or l n d) (get_or l (suc n) d) p)

pub prefix-scope : (rs : List Tree) (l : List FlatProfile) (n : ℕ) (d : FlatProfile) → Each (HasHeadsOf rs) l → suc n < length l
    → (get_or l n d).resource_place ≡ (get_or l (suc n) d).resource_place
    → ((get_or l n d).scope_place ≡ (get_or l (suc n) d).scope_place → ⊥)
    → group (take (suc (suc n)) l) ≡ under_last (group (take (suc n) l)) (record_of (get_or l (suc n) d) ∷ [])
prefix-scope rs l n d k h p q =
    prefix-grouped l n d h (λ x. under_last x (record_of (get_or l (suc n) d) ∷ []))
    (λ e. group-scope rs (take n l) (get_or l n d) (get_or l (suc n) d) (subst (Each (HasHeadsOf rs)) e (each_taken (HasHeadsOf rs) (suc (suc n)) l k)) p q)

pub prefix-profile : (rs : List Tree) (l : List FlatProfile) (n : ℕ) (d : FlatProfile) → Each (HasHeadsOf rs) l → suc n < length l
    → (get_or l n d).resource_place ≡ (get_or l (suc n) d).resource_place
    → (get_or l n d).scope_place ≡ (get_or l (suc n) d).scope_place
    → group (take (suc (suc n)) l) ≡ seam (group (take (suc n) l)) (record_of (get_or l (suc n) d) ∷ [])
prefix-profile rs l n d k h p q =
    prefix-grouped l n d h (λ x. seam x (record_of (get_or l (suc n) d) ∷ []))
    (λ e. group-profile rs (take n l) (get_or l n d) (get_or l (suc n) d) (subst (Each (HasHeadsOf rs)) e (each_taken (HasHeadsOf rs) (suc (suc n)) l k)) p q)
