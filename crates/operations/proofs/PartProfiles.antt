-- The parts of meanings have their profiles.
use Rattle.std.proofs.Common.{◌≡◌, ℕ, zero, suc, List, [], ◌∷◌, ◌++◌, length, map, take, drop, Bool, true, false, cond, refl, sym, ap, subst, ◌∙◌, arith, append_assoc}
use Rattle.std.specs.Prelude.{◌==◌}
use Rattle.std.specs.List.{flat_map}
use Rattle.std.proofs.lemmas.Bool.{eqb-true}
use Rattle.std.proofs.lemmas.List.{map-append, take-append-drop}
use Rattle.std.proofs.lemmas.List.Folds.{flat_map-map}
use Rattle.schema.specs.Each.{Each}
use Rattle.schema_laws.proofs.Lists.{each_left, each_right}
use Rattle.meaning.specs.Tree.{Tree, Nil}
use Rattle.operations.specs.Outlines.{head, holding, ResourceItem, ScopeItem, ProfileItem}
use Rattle.operations.specs.Flat.{FlatProfile, flat, bare, HasHeadsOf, items_after, Gathered, with_item, gathered, group}
use Rattle.operations.specs.Cuts.{first_length, cut, parts}
use Rattle.operations.proofs.Bare.{Bare, under, in_scope, in_resource, bare-from, bare-one, each-one}
use Rattle.operations.proofs.HeadPlaces.{flat-placed, same-resource, same-scope, resource-head, scope-head}
use Rattle.operations.proofs.Joining.{held-holding}
use Rattle.operations.proofs.Longest.{cut-all}
use Rattle.operations.proofs.Walks.{flat-flat}

-- ---- grouped profiles

-- the bare profiles of what items make, under the heads before them
abbrev listed_under : Tree → Tree → Gathered → List Bare
listed_under h s o = map (under h s) o.profiles ++ (flat_map (in_scope h) o.scopes ++ flat_map in_resource o.resources)

after-scope : (h s t : Tree) (o : Gathered) → listed_under h s (with_item (ScopeItem t) o) ≡ listed_under h (head t) o
after-scope h s t o =
    ap (λ l. (map (under h (head t)) l ++ flat_map (in_scope h) o.scopes) ++ flat_map in_resource o.resources) (held-holding t o.profiles)
    ∙ append_assoc (map (under h (head t)) o.profiles) (flat_map (in_scope h) o.scopes) (flat_map in_resource o.resources)

after-resource : (h s g t : Tree) (o : Gathered)
    → listed_under h s (with_item (ResourceItem g) (with_item (ScopeItem t) o)) ≡ listed_under (head g) (head t) o
after-resource h s g t o =
    ap (λ l. flat_map (in_scope (head g)) l ++ flat_map in_resource o.resources) (held-holding g (holding t o.profiles ∷ o.scopes))
    ∙ after-scope (head g) s t o

after-listed : (rs : List Tree) (l : List FlatProfile) (e : FlatProfile) → HasHeadsOf rs e → Each (HasHeadsOf rs) l
    → listed_under e.resource e.scope (gathered (items_after e l)) ≡ map bare l
after-listed rs [] e p q = refl
after-listed rs (f ∷ l) e p q = by_tests (e.resource_place == f.resource_place) (e.scope_place == f.scope_place) (ap (λ x. bare f ∷ x) (after-listed rs l f q.0 q.1)) refl refl
  where
    o : Gathered
    o = gathered (ProfileItem f.profile ∷ items_after f l)

    by_tests : (b c : Bool) → listed_under f.resource f.scope o ≡ map bare (f ∷ l) → (e.resource_place == f.resource_place) ≡ b → (e.scope_place == f.scope_place) ≡ c
        → listed_under e.resource e.scope (gathered (cond b (cond c [] (ScopeItem f.scope ∷ [])) (ResourceItem f.resource ∷ ScopeItem f.scope ∷ []) ++ ProfileItem f.profile ∷ items_after f l))
        ≡ map bare (f ∷ l)
    by_tests true true here x y =
        let i : e.resource_place ≡ f.resource_place = eqb-true e.resource_place f.resource_place x in
        let j : e.scope_place ≡ f.scope_place = eqb-true e.scope_place f.scope_place y in
        ap (λ h. listed_under h e.scope o) (same-resource rs e f p q.0 i) ∙ ap (λ s. listed_under f.resource s o) (same-scope rs e f p q.0 i j) ∙ here
    by_tests true false here x y =
        let i : e.resource_place ≡ f.resource_place = eqb-true e.resource_place f.resource_place x in
        after-scope e.resource e.scope f.scope o ∙ ap (λ h. listed_under h (head f.scope) o) (same-resource rs e f p q.0 i)
        ∙ ap (λ s. listed_under f.resource s o) (scope-head rs f q.0) ∙ here
    by_tests false c here x y =
        after-resource e.resource e.scope f.resource f.scope o ∙ ap (λ h. listed_under h (head f.scope) o) (resource-head rs f q.0)
        ∙ ap (λ s. listed_under f.resource s o) (scope-head rs f q.0) ∙ here

-- a group has the profiles of its flat list
group-listed : (rs : List Tree) (l : List FlatProfile) → Each (HasHeadsOf rs) l → map bare (flat (group l ∷ [])) ≡ map bare l
group-listed rs [] q = refl
group-listed rs (e ∷ l) q =
    let o : Gathered = gathered (ProfileItem e.profile ∷ items_after e l) in
    bare-one (group (e ∷ l)) ∙ after-resource Nil Nil e.resource e.scope o
    ∙ ap (λ h. listed_under h (head e.scope) o) (resource-head rs e q.0) ∙ ap (λ s. listed_under e.resource s o) (scope-head rs e q.0)
    ∙ ap (λ x. bare e ∷ x) (after-listed rs l e q.0 q.1)

-- ---- parts

-- what holds of each profile holds in each part
each_cut : (P : FlatProfile → Type 0) (more limit : ℕ) (l : List FlatProfile) → Each P l → Each (Each P) (cut more limit l)
each_cut P zero limit l h = tt
each_cut P (suc more) limit [] h = tt
each_cut P (suc more) limit (e ∷ l) h =
    let n = first_length limit (e ∷ l) in
    let both : Each P (take n (e ∷ l) ++ drop n (e ∷ l)) = subst (Each P) (sym (take-append-drop n (e ∷ l))) h in
    (each_left P (take n (e ∷ l)) (drop n (e ∷ l)) both, each_cut P more limit (drop n (e ∷ l)) (each_right P (take n (e ∷ l)) (drop n (e ∷ l)) both))

groups-listed : (rs : List Tree) (c : List (List FlatProfile)) → Each (Each (HasHeadsOf rs)) c
    → flat_map (λ l. map bare (flat (group l ∷ []))) c ≡ map bare (flat_map (λ l. l) c)
groups-listed rs [] h = refl
groups-listed rs (l ∷ c) h =
    ap (λ x. x ++ flat_map (λ l. map bare (flat (group l ∷ []))) c) (group-listed rs l h.0) ∙ ap (λ x. map bare l ++ x) (groups-listed rs c h.1)
    ∙ sym (map-append bare l (flat_map (λ l. l) c))

-- the profiles of meanings are those of each
pub each-flat : (ms : List (List Tree)) → map bare (flat ms) ≡ flat_map (λ m. map bare (flat (m ∷ []))) ms
each-flat ms = bare-from 0 (flat_map (λ m. m) ms) ∙ flat-flat (λ m. m) in_resource ms ∙ sym (each-one ms)

parts-each : (limit : ℕ) (ms : List (List Tree)) → flat_map (λ m. map bare (flat (m ∷ []))) (parts limit ms) ≡ map bare (flat ms)
parts-each limit ms =
    let rs : List Tree = flat_map (λ m. m) ms in
    let l : List FlatProfile = flat ms in
    let c : List (List FlatProfile) = cut (length l) limit l in
    flat_map-map (λ m. map bare (flat (m ∷ []))) group c
    ∙ groups-listed rs c (each_cut (HasHeadsOf rs) (length l) limit l (flat-placed ms))
    ∙ ap (map bare) (cut-all (length l) limit l (omega arith))

pub parts-flat : (limit : ℕ) (ms : List (List Tree)) → map bare (flat (parts limit ms)) ≡ map bare (flat ms)
parts-flat limit ms = each-flat (parts limit ms) ∙ parts-each limit ms
