-- What is grouped of a flat list with one profile more at its end.
use Rattle.std.proofs.Common.{◌≡◌, List, [], ◌∷◌, ◌++◌, Bool, true, false, cond, refl, sym, ap, subst, ◌∙◌, append_assoc}
use Rattle.std.specs.Prelude.{◌==◌}
use Rattle.std.proofs.lemmas.Bool.{eqb-true}
use Rattle.schema.specs.Each.{Each}
use Rattle.schema_laws.proofs.Lists.{each_append, each_left, each_right}
use Rattle.meaning.specs.Tree.{Tree, same}
use Rattle.meaning.proofs.Trees.{same-itself}
use Rattle.operations.specs.Flat.{FlatProfile, HasHeadsOf, new_heads, items_after, items, Gathered, with_item, gathered, group, record_of}
use Rattle.operations.specs.Outlines.{head, holding, Item, ResourceItem, ScopeItem, ProfileItem}
use Rattle.operations.specs.Seams.{append_joining, same_head, joined_scope, joined_resource, seam, joined_under, under_last}
use Rattle.operations.proofs.HeadPlaces.{same-resource, same-scope}
use Rattle.operations.proofs.Joining.{held-holding}
use Rattle.operations.proofs.Regrouped.{made, heads-none, heads-scope, heads-both}

-- ---- the last of some profiles

abbrev last : FlatProfile → List FlatProfile → FlatProfile
last d [] = d
last d (x ∷ l) = last x l

last-append : (d e : FlatProfile) (l : List FlatProfile) → last d (l ++ e ∷ []) ≡ e
last-append d e [] = refl
last-append d e (x ∷ l) = last-append x e l

each-last : (P : FlatProfile → Type 0) (d : FlatProfile) (l : List FlatProfile) → Each P (d ∷ l) → P (last d l)
each-last P d [] h = h.0
each-last P d (x ∷ l) h = each-last P x l h.1

-- where no heads come after a profile, the places stay
resource-stays : (l : List FlatProfile) (x : FlatProfile) → (gathered (items_after x l)).resources ≡ [] → x.resource_place ≡ (last x l).resource_place
resource-stays [] x h = refl
resource-stays (y ∷ l) x h = by_tests (x.resource_place == y.resource_place) (x.scope_place == y.scope_place) refl (resource-stays l y) h
  where
    by_tests : (b c : Bool) → (x.resource_place == y.resource_place) ≡ b
        → ((gathered (items_after y l)).resources ≡ [] → y.resource_place ≡ (last y l).resource_place)
        → (gathered (cond b (cond c [] (ScopeItem y.scope ∷ [])) (ResourceItem y.resource ∷ ScopeItem y.scope ∷ []) ++ ProfileItem y.profile ∷ items_after y l)).resources ≡ []
        → x.resource_place ≡ (last y l).resource_place
    by_tests true true e r h = eqb-true x.resource_place y.resource_place e ∙ r h
    by_tests true false e r h = eqb-true x.resource_place y.resource_place e ∙ r h
    by_tests false c e r h = cc

scope-stays : (l : List FlatProfile) (x : FlatProfile) → (gathered (items_after x l)).resources ≡ [] → (gathered (items_after x l)).scopes ≡ []
    → x.scope_place ≡ (last x l).scope_place
scope-stays [] x h k = refl
scope-stays (y ∷ l) x h k = by_tests (x.resource_place == y.resource_place) (x.scope_place == y.scope_place) refl (scope-stays l y) h k
  where
    by_tests : (b c : Bool) → (x.scope_place == y.scope_place) ≡ c
        → ((gathered (items_after y l)).resources ≡ [] → (gathered (items_after y l)).scopes ≡ [] → y.scope_place ≡ (last y l).scope_place)
        → (gathered (cond b (cond c [] (ScopeItem y.scope ∷ [])) (ResourceItem y.resource ∷ ScopeItem y.scope ∷ []) ++ ProfileItem y.profile ∷ items_after y l)).resources ≡ []
        → (gathered (cond b (cond c [] (ScopeItem y.scope ∷ [])) (ResourceItem y.resource ∷ ScopeItem y.scope ∷ []) ++ ProfileItem y.profile ∷ items_after y l)).scopes ≡ []
        → x.scope_place ≡ (last y l).scope_place
    by_tests true true e r h k = eqb-true x.scope_place y.scope_place e ∙ r h k
    by_tests true false e r h k = cc
    by_tests false c e r h k = cc

-- ---- under the last heads

abbrev Inside : Type 0
Inside = List Tree → List Tree → List Tree × List Tree

-- What is gathered with f at the end: where there are resource records, the last of them and f's record are joined; else `inside`
-- says what becomes of the scope records and of the profiles before them.
abbrev grown_at : (Tree → Tree → Tree) → Inside → FlatProfile → List Tree → List Tree → List Tree → Gathered
grown_at joined inside f [] ss ps = let r = inside ss ps in made r.1 r.0 []
grown_at joined inside f (u ∷ us) ss ps = made ps ss (append_joining same_head joined (u ∷ us) (record_of f ∷ []))

abbrev grown : (Tree → Tree → Tree) → Inside → FlatProfile → Gathered → Gathered
grown joined inside f o = grown_at joined inside f o.resources o.scopes o.profiles

-- `inside` goes with items from the right, if the last scope head is such as P says and the last resource head is that of f; and
-- `joined` makes of the last resource record and f's what `inside` says.
record Grows (P : Tree → Type 0) (joined : Tree → Tree → Tree) (inside : Inside) (f : FlatProfile) : Type 0 where
  with_profile : (q : Tree) (ss ps : List Tree) → inside ss (q ∷ ps) ≡ ((inside ss ps).0, q ∷ (inside ss ps).1)
  with_scope : (h : Tree) (ss ps : List Tree) → (ss ≡ [] → P h) → inside (holding h ps ∷ ss) [] ≡ (holding h (inside ss ps).1 ∷ (inside ss ps).0, [])
  with_resource : (h s : Tree) (ss : List Tree) → h ≡ f.resource → joined (holding h (s ∷ ss)) (record_of f) ≡ holding h (inside (s ∷ ss) []).0

grown-profile : (P : Tree → Type 0) (joined : Tree → Tree → Tree) (inside : Inside) (f : FlatProfile) → Grows P joined inside f
    → (q : Tree) (us ss ps : List Tree) → with_item (ProfileItem q) (grown_at joined inside f us ss ps) ≡ grown_at joined inside f us ss (q ∷ ps)
grown-profile P joined inside f g q [] ss ps = sym (ap (λ r. made r.1 r.0 []) (g.with_profile q ss ps))
grown-profile P joined inside f g q (u ∷ us) ss ps = refl

grown-scope : (P : Tree → Type 0) (joined : Tree → Tree → Tree) (inside : Inside) (f : FlatProfile) → Grows P joined inside f
    → (h : Tree) (us ss ps : List Tree) → (us ≡ [] → ss ≡ [] → P h)
    → with_item (ScopeItem h) (grown_at joined inside f us ss ps) ≡ grown_at joined inside f us (holding h ps ∷ ss) []
grown-scope P joined inside f g h [] ss ps c = sym (ap (λ r. made r.1 r.0 []) (g.with_scope h ss ps (c refl)))
grown-scope P joined inside f g h (u ∷ us) ss ps c = refl

grown-resource : (P : Tree → Type 0) (joined : Tree → Tree → Tree) (inside : Inside) (f : FlatProfile) → Grows P joined inside f
    → (h : Tree) (us : List Tree) (s : Tree) (ss : List Tree) → (us ≡ [] → h ≡ f.resource)
    → with_item (ResourceItem h) (grown_at joined inside f us (s ∷ ss) []) ≡ grown_at joined inside f (holding h (s ∷ ss) ∷ us) [] []
grown-resource P joined inside f g h [] s ss c =
    let t : Tree = holding h (s ∷ ss) in
    let e : same_head t (record_of f) ≡ true = ap (λ x. same (head x) (head f.resource)) (c refl) ∙ same-itself (head f.resource) in
    ap (λ x. made [] [] (x ∷ [])) (sym (g.with_resource h s ss (c refl)))
    ∙ ap (λ b. made [] [] (cond b (joined t (record_of f) ∷ []) (t ∷ record_of f ∷ []))) (sym e)
grown-resource P joined inside f g h (u ∷ us) s ss c = refl

-- a resource head and a scope head after it
grown-both : (P : Tree → Type 0) (joined : Tree → Tree → Tree) (inside : Inside) (f : FlatProfile) → Grows P joined inside f
    → (t h : Tree) (us ss ps : List Tree) → (us ≡ [] → t ≡ f.resource) → (us ≡ [] → ss ≡ [] → P h)
    → with_item (ResourceItem t) (with_item (ScopeItem h) (grown_at joined inside f us ss ps)) ≡ grown_at joined inside f (holding t (holding h ps ∷ ss) ∷ us) [] []
grown-both P joined inside f g t h us ss ps a b =
    ap (with_item (ResourceItem t)) (grown-scope P joined inside f g h us ss ps b) ∙ grown-resource P joined inside f g t us (holding h ps) ss a

-- ---- the induction

-- if the last profile has f's resource head, and no new head comes after x, then x has it
resource-known : (rs : List Tree) (f : FlatProfile) (l : List FlatProfile) (x : FlatProfile) → Each (HasHeadsOf rs) (x ∷ l) → (last x l).resource ≡ f.resource
    → (gathered (items_after x l)).resources ≡ [] → x.resource ≡ f.resource
resource-known rs f l x h a k = same-resource rs x (last x l) h.0 (each-last (HasHeadsOf rs) x l h) (resource-stays l x k) ∙ a

scope-known : (rs : List Tree) (P : Tree → Type 0) (l : List FlatProfile) (x : FlatProfile) → Each (HasHeadsOf rs) (x ∷ l) → P (last x l).scope
    → (gathered (items_after x l)).resources ≡ [] → (gathered (items_after x l)).scopes ≡ [] → P x.scope
scope-known rs P l x h b k m =
    subst P (sym (same-scope rs x (last x l) h.0 (each-last (HasHeadsOf rs) x l h) (resource-stays l x k) (scope-stays l x k m))) b

-- What is to be known of the profile before f: it is in the same resource record, P is true of its scope head, and after it f makes
-- what `inside` makes of nothing.
record IsBefore (P : Tree → Type 0) (joined : Tree → Tree → Tree) (inside : Inside) (f e : FlatProfile) : Type 0 where
  resource : e.resource ≡ f.resource
  scope : P e.scope
  begins : gathered (new_heads e f ++ ProfileItem f.profile ∷ []) ≡ grown joined inside f (gathered [])

after-grown : (P : Tree → Type 0) (joined : Tree → Tree → Tree) (inside : Inside) (f : FlatProfile) → Grows P joined inside f
    → (rs : List Tree) (l : List FlatProfile) (d : FlatProfile) → Each (HasHeadsOf rs) (d ∷ l) → IsBefore P joined inside f (last d l)
    → gathered (items_after d (l ++ f ∷ [])) ≡ grown joined inside f (gathered (items_after d l))
after-grown P joined inside f g rs [] d h b = b.begins
after-grown P joined inside f g rs (x ∷ l) d h b =
    by_tests (d.resource_place == x.resource_place) (d.scope_place == x.scope_place)
    (ap (with_item (ProfileItem x.profile)) (after-grown P joined inside f g rs l x h.1 b) ∙ grown-profile P joined inside f g x.profile o.resources o.scopes o.profiles)
  where
    o : Gathered
    o = gathered (items_after x l)

    by_tests : (r s : Bool) → gathered (ProfileItem x.profile ∷ items_after x (l ++ f ∷ [])) ≡ grown joined inside f (with_item (ProfileItem x.profile) o)
        → gathered (cond r (cond s [] (ScopeItem x.scope ∷ [])) (ResourceItem x.resource ∷ ScopeItem x.scope ∷ []) ++ ProfileItem x.profile ∷ items_after x (l ++ f ∷ []))
        ≡ grown joined inside f (gathered (cond r (cond s [] (ScopeItem x.scope ∷ [])) (ResourceItem x.resource ∷ ScopeItem x.scope ∷ []) ++ ProfileItem x.profile ∷ items_after x l))
    by_tests true true e = e
    by_tests true false e =
        ap (with_item (ScopeItem x.scope)) e
        ∙ grown-scope P joined inside f g x.scope o.resources o.scopes (x.profile ∷ o.profiles) (scope-known rs P l x h.1 b.scope)
    by_tests false s e =
        ap (λ w. with_item (ResourceItem x.resource) (with_item (ScopeItem x.scope) w)) e
        ∙ grown-both P joined inside f g x.resource x.scope o.resources o.scopes (x.profile ∷ o.profiles)
        (resource-known rs f l x h.1 b.resource) (scope-known rs P l x h.1 b.scope)

group-grown : (P : Tree → Type 0) (joined : Tree → Tree → Tree) (inside : Inside) (f : FlatProfile) → Grows P joined inside f
    → (rs : List Tree) (d : FlatProfile) (l : List FlatProfile) → Each (HasHeadsOf rs) (d ∷ l) → IsBefore P joined inside f (last d l)
    → group (d ∷ (l ++ f ∷ [])) ≡ append_joining same_head joined (group (d ∷ l)) (record_of f ∷ [])
group-grown P joined inside f g rs d l h b =
    let o : Gathered = gathered (items_after d l) in
    ap (λ w. (with_item (ResourceItem d.resource) (with_item (ScopeItem d.scope) (with_item (ProfileItem d.profile) w))).resources)
    (after-grown P joined inside f g rs l d h b)
    ∙ ap (λ w. (with_item (ResourceItem d.resource) (with_item (ScopeItem d.scope) w)).resources)
    (grown-profile P joined inside f g d.profile o.resources o.scopes o.profiles)
    ∙ ap (λ w. w.resources) (grown-both P joined inside f g d.resource d.scope o.resources o.scopes (d.profile ∷ o.profiles)
    (resource-known rs f l d h b.resource) (scope-known rs P l d h b.scope))

-- so it is with a list whose last profile is e
at_end : (Q : List FlatProfile → Type 0) (R : FlatProfile → Type 0) (f : FlatProfile) (with_f : List Tree → List Tree)
    → ((d : FlatProfile) (l : List FlatProfile) → Q (d ∷ l) → R (last d l) → group (d ∷ (l ++ f ∷ [])) ≡ with_f (group (d ∷ l)))
    → (l : List FlatProfile) (e : FlatProfile) → Q (l ++ e ∷ []) → R e → group (l ++ e ∷ f ∷ []) ≡ with_f (group (l ++ e ∷ []))
at_end Q R f with_f h [] e q r = h e [] q r
at_end Q R f with_f h (d ∷ l) e q r =
    ap (λ x. group (d ∷ x)) (sym (append_assoc l (e ∷ []) (f ∷ []))) ∙ h d (l ++ e ∷ []) q (subst R (sym (last-append d e l)) r)

-- ---- a profile of the same scope record

-- f's scope record, with f's profile alone
abbrev scope_record : FlatProfile → Tree
scope_record f = holding f.scope (f.profile ∷ [])

-- f's profile after the last of the last scope record
abbrev in_last_scope : FlatProfile → Inside
in_last_scope f [] ps = ([], ps ++ f.profile ∷ [])
in_last_scope f (s ∷ ss) ps = (append_joining same_head joined_scope (s ∷ ss) (scope_record f ∷ []), ps)

profile-grows : (f : FlatProfile) → Grows (λ h. h ≡ f.scope) joined_resource (in_last_scope f) f
profile-grows f = record {
  with_profile = λ q ss ps. profiles q ss ps;
  with_scope = λ h ss ps c. scopes h ss ps c;
  with_resource = λ h s ss c. ap (λ x. holding h (append_joining same_head joined_scope x (scope_record f ∷ []))) (held-holding h (s ∷ ss));
}
  where
    profiles : (q : Tree) (ss ps : List Tree) → in_last_scope f ss (q ∷ ps) ≡ ((in_last_scope f ss ps).0, q ∷ (in_last_scope f ss ps).1)
    profiles q [] ps = refl
    profiles q (s ∷ ss) ps = refl

    scopes : (h : Tree) (ss ps : List Tree) → (ss ≡ [] → h ≡ f.scope)
        → in_last_scope f (holding h ps ∷ ss) [] ≡ (holding h (in_last_scope f ss ps).1 ∷ (in_last_scope f ss ps).0, [])
    scopes h [] ps c =
        let t : Tree = holding h ps in
        let e : same_head t (scope_record f) ≡ true = ap (λ x. same (head x) (head f.scope)) (c refl) ∙ same-itself (head f.scope) in
        ap (λ b. (cond b (joined_scope t (scope_record f) ∷ []) (t ∷ scope_record f ∷ []), [])) e
        ∙ ap (λ x. (holding h (x ++ f.profile ∷ []) ∷ [], [])) (held-holding h ps)
    scopes h (s ∷ ss) ps c = refl

pub group-profile : (rs : List Tree) (l : List FlatProfile) (e f : FlatProfile) → Each (HasHeadsOf rs) (l ++ e ∷ f ∷ [])
    → e.resource_place ≡ f.resource_place → e.scope_place ≡ f.scope_place → group (l ++ e ∷ f ∷ []) ≡ seam (group (l ++ e ∷ [])) (record_of f ∷ [])
group-profile rs l e f h i j =
    let w = each_right (HasHeadsOf rs) l (e ∷ f ∷ []) h in
    at_end (Each (HasHeadsOf rs)) (IsBefore (λ x. x ≡ f.scope) joined_resource (in_last_scope f) f) f (λ x. seam x (record_of f ∷ []))
    (group-grown (λ x. x ≡ f.scope) joined_resource (in_last_scope f) f (profile-grows f) rs) l e
    (each_append (HasHeadsOf rs) l (e ∷ []) (each_left (HasHeadsOf rs) l (e ∷ f ∷ []) h) (w.0, tt))
    (record {
      resource = same-resource rs e f w.0 w.1.0 i;
      scope = same-scope rs e f w.0 w.1.0 i j;
      begins = ap (λ x. gathered (x ++ ProfileItem f.profile ∷ [])) (heads-none e f i j);
    })

-- ---- a profile of another scope record of the same resource record

-- nothing need be known of the last scope head
abbrev Any : Tree → Type 0
Any h = Unit {0}

-- f's scope record after the others
abbrev in_new_scope : FlatProfile → Inside
in_new_scope f ss ps = (ss ++ scope_record f ∷ [], ps)

scope-grows : (f : FlatProfile) → Grows Any joined_under (in_new_scope f) f
scope-grows f = record {
  with_profile = λ q ss ps. refl;
  with_scope = λ h ss ps c. refl;
  with_resource = λ h s ss c. ap (λ x. holding h (x ++ scope_record f ∷ [])) (held-holding h (s ∷ ss));
}

pub group-scope : (rs : List Tree) (l : List FlatProfile) (e f : FlatProfile) → Each (HasHeadsOf rs) (l ++ e ∷ f ∷ [])
    → e.resource_place ≡ f.resource_place → (e.scope_place ≡ f.scope_place → ⊥) → group (l ++ e ∷ f ∷ []) ≡ under_last (group (l ++ e ∷ [])) (record_of f ∷ [])
group-scope rs l e f h i n =
    let w = each_right (HasHeadsOf rs) l (e ∷ f ∷ []) h in
    at_end (Each (HasHeadsOf rs)) (IsBefore Any joined_under (in_new_scope f) f) f (λ x. under_last x (record_of f ∷ []))
    (group-grown Any joined_under (in_new_scope f) f (scope-grows f) rs) l e
    (each_append (HasHeadsOf rs) l (e ∷ []) (each_left (HasHeadsOf rs) l (e ∷ f ∷ []) h) (w.0, tt))
    (record {
      resource = same-resource rs e f w.0 w.1.0 i;
      scope = tt;
      begins = ap (λ x. gathered (x ++ ProfileItem f.profile ∷ [])) (heads-scope e f i n);
    })

-- ---- a profile of another resource record

after-more : (l : List FlatProfile) (d f : FlatProfile) → items_after d (l ++ f ∷ []) ≡ items_after d l ++ (new_heads (last d l) f ++ ProfileItem f.profile ∷ [])
after-more [] d f = refl
after-more (x ∷ l) d f =
    ap (λ is. new_heads d x ++ ProfileItem x.profile ∷ is) (after-more l x f)
    ∙ sym (append_assoc (new_heads d x) (ProfileItem x.profile ∷ items_after x l) (new_heads (last x l) f ++ ProfileItem f.profile ∷ []))

-- items that make resource records, after others
gathered-more : (is more : List Item) (us : List Tree) → gathered more ≡ made [] [] us
    → gathered (is ++ more) ≡ made (gathered is).profiles (gathered is).scopes ((gathered is).resources ++ us)
gathered-more [] more us h = h
gathered-more (ProfileItem p ∷ is) more us h = ap (with_item (ProfileItem p)) (gathered-more is more us h)
gathered-more (ScopeItem t ∷ is) more us h = ap (with_item (ScopeItem t)) (gathered-more is more us h)
gathered-more (ResourceItem t ∷ is) more us h = ap (with_item (ResourceItem t)) (gathered-more is more us h)

-- whether the next profile is in another resource record
abbrev IsElsewhere : FlatProfile → FlatProfile → Type 0
IsElsewhere f e = e.resource_place ≡ f.resource_place → ⊥

after-elsewhere : (f d : FlatProfile) (l : List FlatProfile) → IsElsewhere f (last d l) → group (d ∷ (l ++ f ∷ [])) ≡ group (d ∷ l) ++ record_of f ∷ []
after-elsewhere f d l n =
    ap (λ is. (gathered (ResourceItem d.resource ∷ ScopeItem d.scope ∷ ProfileItem d.profile ∷ is)).resources) (after-more l d f)
    ∙ ap (λ o. o.resources) (gathered-more (items (d ∷ l)) (new_heads (last d l) f ++ ProfileItem f.profile ∷ []) (record_of f ∷ [])
    (ap (λ x. gathered (x ++ ProfileItem f.profile ∷ [])) (heads-both (last d l) f n)))

pub group-elsewhere : (l : List FlatProfile) (e f : FlatProfile) → IsElsewhere f e → group (l ++ e ∷ f ∷ []) ≡ group (l ++ e ∷ []) ++ record_of f ∷ []
group-elsewhere l e f n =
    at_end (λ x. Unit {0}) (IsElsewhere f) f (λ x. x ++ record_of f ∷ []) (λ d x q. after-elsewhere f d x) l e tt n
