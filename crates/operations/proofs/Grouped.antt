-- Grouped profiles have the outline of their items, which goes on as the flat list does.
use Rattle.std.proofs.Common.{◌≡◌, List, [], ◌∷◌, ◌++◌, map, Bool, true, false, cond, refl, sym, ap, ◌∙◌, append_assoc}
use Rattle.std.specs.Prelude.{◌==◌}
use Rattle.std.specs.List.{flat_map}
use Rattle.meaning.specs.Tree.{Tree}
use Rattle.operations.specs.Outlines.{head, holding, Item, ResourceItem, ScopeItem, ProfileItem, profile_item, scope_outline, outline}
use Rattle.operations.specs.Flat.{FlatProfile, new_heads, items_after, items, Gathered, with_item, gathered, group}
use Rattle.operations.proofs.Joining.{held-holding}

-- the outline of what items make
abbrev spread : Gathered → List Item
spread o = map profile_item o.profiles ++ (flat_map scope_outline o.scopes ++ outline o.resources)

-- an item whose head holds nothing
abbrev pub bared : Item → Item
bared (ResourceItem h) = ResourceItem (head h)
bared (ScopeItem h) = ScopeItem (head h)
bared (ProfileItem p) = ProfileItem p

of_scope : (h : Tree) (o : Gathered) → spread (with_item (ScopeItem h) o) ≡ ScopeItem (head h) ∷ spread o
of_scope h o =
    ap (λ l. ScopeItem (head h) ∷ ((map profile_item l ++ flat_map scope_outline o.scopes) ++ outline o.resources)) (held-holding h o.profiles)
    ∙ ap (λ l. ScopeItem (head h) ∷ l) (append_assoc (map profile_item o.profiles) (flat_map scope_outline o.scopes) (outline o.resources))

-- a resource head and a scope head after it
of_resource : (g h : Tree) (o : Gathered) → spread (with_item (ResourceItem g) (with_item (ScopeItem h) o)) ≡ ResourceItem (head g) ∷ ScopeItem (head h) ∷ spread o
of_resource g h o =
    ap (λ l. ResourceItem (head g) ∷ (flat_map scope_outline l ++ outline o.resources)) (held-holding g (holding h o.profiles ∷ o.scopes))
    ∙ ap (λ l. ResourceItem (head g) ∷ l) (of_scope h o)

after-outline : (l : List FlatProfile) (e : FlatProfile) → spread (gathered (items_after e l)) ≡ map bared (items_after e l)
after-outline [] e = refl
after-outline (f ∷ l) e = by_tests (e.resource_place == f.resource_place) (e.scope_place == f.scope_place) (after-outline l f)
  where
    by_tests : (b c : Bool) → spread (gathered (items_after f l)) ≡ map bared (items_after f l)
        → spread (gathered (cond b (cond c [] (ScopeItem f.scope ∷ [])) (ResourceItem f.resource ∷ ScopeItem f.scope ∷ []) ++ ProfileItem f.profile ∷ items_after f l))
        ≡ map bared (cond b (cond c [] (ScopeItem f.scope ∷ [])) (ResourceItem f.resource ∷ ScopeItem f.scope ∷ []) ++ ProfileItem f.profile ∷ items_after f l)
    by_tests true true r = ap (λ x. ProfileItem f.profile ∷ x) r
    by_tests true false r =
        of_scope f.scope (gathered (ProfileItem f.profile ∷ items_after f l)) ∙ ap (λ x. ScopeItem (head f.scope) ∷ ProfileItem f.profile ∷ x) r
    by_tests false c r =
        of_resource f.resource f.scope (gathered (ProfileItem f.profile ∷ items_after f l))
        ∙ ap (λ x. ResourceItem (head f.resource) ∷ ScopeItem (head f.scope) ∷ ProfileItem f.profile ∷ x) r

items-outline : (l : List FlatProfile) → spread (gathered (items l)) ≡ map bared (items l)
items-outline [] = refl
items-outline (e ∷ l) =
    of_resource e.resource e.scope (gathered (ProfileItem e.profile ∷ items_after e l))
    ∙ ap (λ x. ResourceItem (head e.resource) ∷ ScopeItem (head e.scope) ∷ ProfileItem e.profile ∷ x) (after-outline l e)

-- the outline of what was grouped
pub group-outline : (l : List FlatProfile) → outline (group l) ≡ map bared (items l)
group-outline [] = refl
group-outline (e ∷ l) = items-outline (e ∷ l)

-- ---- more profiles

after-append : (l more : List FlatProfile) (e : FlatProfile) → (is : List Item) × (items_after e (l ++ more) ≡ items_after e l ++ is)
after-append [] more e = (items_after e more, refl)
after-append (f ∷ l) more e =
    let r = after-append l more f in
    (r.0, ap (λ x. new_heads e f ++ ProfileItem f.profile ∷ x) r.1 ∙ sym (append_assoc (new_heads e f) (ProfileItem f.profile ∷ items_after f l) r.0))

pub items-append : (l more : List FlatProfile) → (is : List Item) × (items (l ++ more) ≡ items l ++ is)
items-append [] more = (items more, refl)
items-append (e ∷ l) more =
    let r = after-append l more e in
    (r.0, ap (λ x. ResourceItem e.resource ∷ ScopeItem e.scope ∷ ProfileItem e.profile ∷ x) r.1)
