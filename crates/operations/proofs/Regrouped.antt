-- Grouping what is flat gives the records as they were, without the empty ones.
use Rattle.std.proofs.Common.{◌≡◌, ℕ, suc, ◌<◌, ◌≤◌, List, [], ◌∷◌, ◌++◌, map, refl, ap, subst, ◌∙◌, arith, append_assoc}
use Rattle.std.specs.List.{flat_map}
use Rattle.std.proofs.lemmas.Bool.{eq-eqb, ne_eqb}
use Rattle.schema.specs.Shape.{Shape, Text, End, One, Value}
use Rattle.meaning.specs.Tree.{Tree, Cons, tree, value, listed, IsOf}
use Rattle.meaning.proofs.Trees.{elements-listed}
use Rattle.parts.specs.Records.{holder, held}
use Rattle.operations.specs.Outlines.{head, holding, Item, ResourceItem, ScopeItem, ProfileItem}
use Rattle.operations.specs.Flat.{FlatProfile, flat_profile, flat_scopes, flat_resources, flat, new_heads, items_after, items, Gathered, with_item, gathered, group, if_holding, scopes_with_profiles, without_empty}

-- what was gathered, by its three lists
abbrev pub made : List Tree → List Tree → List Tree → Gathered
made ps ss us = record { profiles = ps; scopes = ss; resources = us }

-- ---- the heads between two neighbours

pub heads-none : (e f : FlatProfile) → e.resource_place ≡ f.resource_place → e.scope_place ≡ f.scope_place → new_heads e f ≡ []
heads-none e f h k = rw (eq-eqb e.resource_place f.resource_place h, eq-eqb e.scope_place f.scope_place k) refl

pub heads-scope : (e f : FlatProfile) → e.resource_place ≡ f.resource_place → (e.scope_place ≡ f.scope_place → ⊥) → new_heads e f ≡ ScopeItem f.scope ∷ []
heads-scope e f h k = rw (eq-eqb e.resource_place f.resource_place h, ne_eqb e.scope_place f.scope_place k) refl

pub heads-both : (e f : FlatProfile) → (e.resource_place ≡ f.resource_place → ⊥) → new_heads e f ≡ ResourceItem f.resource ∷ ScopeItem f.scope ∷ []
heads-both e f h = rw (ne_eqb e.resource_place f.resource_place h) refl

less-differs : (a b : ℕ) → a < b → a ≡ b → ⊥
less-differs a b l e = omega arith

-- ---- records behind a profile

-- more profiles of its scope record
profiles-gathered : (h g : Tree) (i j : ℕ) (l : List FlatProfile) (ss us : List Tree)
    → ((p : Tree) → gathered (items_after (flat_profile h g i j p) l) ≡ made [] ss us)
    → (ps : List Tree) (p : Tree) → gathered (items_after (flat_profile h g i j p) (map (flat_profile h g i j) ps ++ l)) ≡ made ps ss us
profiles-gathered h g i j l ss us c [] p = c p
profiles-gathered h g i j l ss us c (q ∷ ps) p =
    let e : FlatProfile = flat_profile h g i j p in
    let f : FlatProfile = flat_profile h g i j q in
    ap (λ x. gathered (x ++ ProfileItem q ∷ items_after f (map (flat_profile h g i j) ps ++ l))) (heads-none e f refl refl)
    ∙ ap (with_item (ProfileItem q)) (profiles-gathered h g i j l ss us c ps q)

-- more scope records of its resource record
scopes-gathered : (h : Tree) (i : ℕ) (l : List FlatProfile) (us : List Tree)
    → ((g p : Tree) (j : ℕ) → gathered (items_after (flat_profile h g i j p) l) ≡ made [] [] us)
    → (ss : List Tree) (g p : Tree) (j k : ℕ) → j < k → gathered (items_after (flat_profile h g i j p) (flat_scopes h i k ss ++ l)) ≡ made [] (scopes_with_profiles ss) us
scopes-gathered h i l us c [] g p j k lt = c g p j
scopes-gathered h i l us c (s ∷ ss) g p j k lt =
    ap (λ x. gathered (items_after e x)) (append_assoc (map (flat_profile h (head s) i k) (held s)) (flat_scopes h i (suc k) ss) l)
    ∙ by_profiles (held s) (scopes-gathered h i l us c ss g p j (suc k) (omega arith)) (λ q. scopes-gathered h i l us c ss (head s) q k (suc k) (omega arith))
  where
    e : FlatProfile
    e = flat_profile h g i j p

    by_profiles : (ps : List Tree) → gathered (items_after e (flat_scopes h i (suc k) ss ++ l)) ≡ made [] (scopes_with_profiles ss) us
        → ((q : Tree) → gathered (items_after (flat_profile h (head s) i k q) (flat_scopes h i (suc k) ss ++ l)) ≡ made [] (scopes_with_profiles ss) us)
        → gathered (items_after e (map (flat_profile h (head s) i k) ps ++ (flat_scopes h i (suc k) ss ++ l))) ≡ made [] (if_holding s ps ++ scopes_with_profiles ss) us
    by_profiles [] here more = here
    by_profiles (q ∷ ps) here more =
        let f : FlatProfile = flat_profile h (head s) i k q in
        let m : List FlatProfile = flat_scopes h i (suc k) ss ++ l in
        ap (λ x. gathered (x ++ ProfileItem q ∷ items_after f (map (flat_profile h (head s) i k) ps ++ m))) (heads-scope e f refl (less-differs j k lt))
        ∙ ap (λ o. with_item (ScopeItem (head s)) (with_item (ProfileItem q) o)) (profiles-gathered h (head s) i k m (scopes_with_profiles ss) us more ps q)

-- ---- records from a new resource record on

-- These begin with the heads of the first profile, if its resource record has this place or a later one.
record Begins (i : ℕ) (begin : List FlatProfile → List Item) : Type 0 where
  none : begin [] ≡ []
  some : (f : FlatProfile) (l : List FlatProfile) → i ≤ f.resource_place → begin (f ∷ l) ≡ items (f ∷ l)

begins-after : (e : FlatProfile) (i : ℕ) → e.resource_place < i → Begins i (items_after e)
begins-after e i lt = record {
  none = refl;
  some = λ f l le. ap (λ x. x ++ ProfileItem f.profile ∷ items_after f l) (heads-both e f (less-differs e.resource_place f.resource_place (omega arith)));
}

begins-later : (i : ℕ) (begin : List FlatProfile → List Item) → Begins i begin → Begins (suc i) begin
begins-later i begin b = record { none = b.none; some = λ f l le. b.some f l (omega arith) }

first-gathered : (r : Tree) (i : ℕ) (begin : List FlatProfile → List Item) → Begins i begin → (l : List FlatProfile) (us : List Tree)
    → gathered (begin l) ≡ made [] [] us
    → ((g p : Tree) (j : ℕ) → gathered (items_after (flat_profile (head r) g i j p) l) ≡ made [] [] us)
    → (ss : List Tree) (k : ℕ) → gathered (begin (flat_scopes (head r) i k ss ++ l)) ≡ made [] [] (if_holding r (scopes_with_profiles ss) ++ us)
first-gathered r i begin b l us d c [] k = d
first-gathered r i begin b l us d c (s ∷ ss) k =
    ap (λ x. gathered (begin x)) (append_assoc (map (flat_profile (head r) (head s) i k) (held s)) (flat_scopes (head r) i (suc k) ss) l)
    ∙ by_profiles (held s) (first-gathered r i begin b l us d c ss (suc k))
  where
    by_profiles : (ps : List Tree) → gathered (begin (flat_scopes (head r) i (suc k) ss ++ l)) ≡ made [] [] (if_holding r (scopes_with_profiles ss) ++ us)
        → gathered (begin (map (flat_profile (head r) (head s) i k) ps ++ (flat_scopes (head r) i (suc k) ss ++ l)))
        ≡ made [] [] (if_holding r (if_holding s ps ++ scopes_with_profiles ss) ++ us)
    by_profiles [] here = here
    by_profiles (q ∷ ps) here =
        let f : FlatProfile = flat_profile (head r) (head s) i k q in
        let m : List FlatProfile = flat_scopes (head r) i (suc k) ss ++ l in
        ap gathered (b.some f (map (flat_profile (head r) (head s) i k) ps ++ m) (omega arith))
        ∙ ap (λ o. with_item (ResourceItem (head r)) (with_item (ScopeItem (head s)) (with_item (ProfileItem q) o)))
        (profiles-gathered (head r) (head s) i k m (scopes_with_profiles ss) us
        (λ p. scopes-gathered (head r) i l us c ss (head s) p k (suc k) (omega arith)) ps q)

resources-gathered : (rs : List Tree) (i : ℕ) (begin : List FlatProfile → List Item) → Begins i begin
    → gathered (begin (flat_resources i rs)) ≡ made [] [] (without_empty rs)
resources-gathered [] i begin b = ap gathered b.none
resources-gathered (r ∷ rs) i begin b =
    first-gathered r i begin b (flat_resources (suc i) rs) (without_empty rs) (resources-gathered rs (suc i) begin (begins-later i begin b))
    (λ g p j. let e : FlatProfile = flat_profile (head r) g i j p in resources-gathered rs (suc i) (items_after e) (begins-after e (suc i) (omega arith)))
    (held r) 0

pub group-flat : (ms : List (List Tree)) → group (flat ms) ≡ without_empty (flat_map (λ m. m) ms)
group-flat ms = ap (λ o. o.resources) (resources-gathered (flat_map (λ m. m) ms) 0 items (record { none = refl; some = λ f l le. refl }))

-- ---- a record by its head and what it holds

tree-holding : (h k : Shape) (x : Value (holder h k)) → let t = tree (holder h k) x in (holding t (held t) ≡ t)
tree-holding h k x =
    ap (λ l. Cons (tree h x.0) (Cons (listed l) (tree (One 3 Text End) x.1.1))) (elements-listed (map (tree k) x.1.0))

pub whole-record : (h k : Shape) (t : Tree) → IsOf (holder h k) t → holding t (held t) ≡ t
whole-record h k t i = subst (λ u. holding u (held u) ≡ u) i (tree-holding h k (value (holder h k) t))
