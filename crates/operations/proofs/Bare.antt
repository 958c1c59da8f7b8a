-- The profiles of joined meanings.
use Rattle.std.proofs.Common.{◌≡◌, ℕ, suc, List, [], ◌∷◌, ◌++◌, map, Bool, true, false, cond, refl, sym, ap, ◌∙◌, append_assoc}
use Rattle.std.proofs.lemmas.Grind.{flat_map-append}
use Rattle.std.proofs.lemmas.List.{append-nil, map-append}
use Rattle.std.specs.List.{flat_map}
use Rattle.meaning.specs.Tree.{Tree}
use Rattle.meaning.proofs.Places.{map-map}
use Rattle.meaning.proofs.Trees.{same-true}
use Rattle.parts.specs.Records.{held}
use Rattle.operations.specs.Outlines.{head}
use Rattle.operations.specs.Flat.{flat_profile, flat_scopes, flat_resources, flat, bare}
use Rattle.operations.specs.Seams.{append_joining, same_head, joined_scope, joined_resource, seam, join_onto, join, joined_under, under_last}
use Rattle.operations.proofs.Joining.{held-holding}

abbrev pub Bare : Type 0
Bare = Tree × (Tree × Tree)

-- a profile under these heads
abbrev pub under : Tree → Tree → Tree → Bare
under r s p = (r, (s, p))

-- the bare profiles of a scope record under this resource head, and of a resource record
abbrev pub in_scope : Tree → Tree → List Bare
in_scope h s = map (under h (head s)) (held s)

abbrev pub in_resource : Tree → List Bare
in_resource r = flat_map (in_scope (head r)) (held r)

bare-scopes : (h : Tree) (i j : ℕ) (ss : List Tree) → map bare (flat_scopes h i j ss) ≡ flat_map (in_scope h) ss
bare-scopes h i j [] = refl
bare-scopes h i j (s ∷ ss) =
    map-append bare (map (flat_profile h (head s) i j) (held s)) (flat_scopes h i (suc j) ss)
    ∙ ap (λ l. l ++ map bare (flat_scopes h i (suc j) ss)) (map-map (flat_profile h (head s) i j) bare (held s))
    ∙ ap (λ l. in_scope h s ++ l) (bare-scopes h i (suc j) ss)

pub bare-from : (i : ℕ) (rs : List Tree) → map bare (flat_resources i rs) ≡ flat_map in_resource rs
bare-from i [] = refl
bare-from i (r ∷ rs) =
    map-append bare (flat_scopes (head r) i 0 (held r)) (flat_resources (suc i) rs)
    ∙ ap (λ l. l ++ map bare (flat_resources (suc i) rs)) (bare-scopes (head r) i 0 (held r))
    ∙ ap (λ l. in_resource r ++ l) (bare-from (suc i) rs)

-- what is listed of joined elements is what is listed of both
joining-all : {X : Type 0} (alike : Tree → Tree → Bool) (joined : Tree → Tree → Tree) (o : Tree → List X)
    → ((r s : Tree) → alike r s ≡ true → o (joined r s) ≡ o r ++ o s) → (a b : List Tree) → flat_map o (append_joining alike joined a b) ≡ flat_map o a ++ flat_map o b
joining-all alike joined o h [] b = refl
joining-all alike joined o h (r ∷ []) [] = sym (append-nil (o r ++ []))
joining-all alike joined o h (r ∷ []) (s ∷ b) = by_test (alike r s) refl
  where
    by_test : (c : Bool) → alike r s ≡ c → flat_map o (cond c (joined r s ∷ b) (r ∷ s ∷ b)) ≡ (o r ++ []) ++ (o s ++ flat_map o b)
    by_test true e =
        ap (λ x. x ++ flat_map o b) (h r s e) ∙ append_assoc (o r) (o s) (flat_map o b) ∙ ap (λ x. x ++ (o s ++ flat_map o b)) (sym (append-nil (o r)))
    by_test false e = ap (λ x. x ++ (o s ++ flat_map o b)) (sym (append-nil (o r)))
joining-all alike joined o h (r ∷ q ∷ a) b =
    ap (λ x. o r ++ x) (joining-all alike joined o h (q ∷ a) b) ∙ sym (append_assoc (o r) (flat_map o (q ∷ a)) (flat_map o b))

scopes-all : (h r s : Tree) → same_head r s ≡ true → in_scope h (joined_scope r s) ≡ in_scope h r ++ in_scope h s
scopes-all h r s e =
    ap (map (under h (head r))) (held-holding r (held r ++ held s)) ∙ map-append (under h (head r)) (held r) (held s)
    ∙ ap (λ x. in_scope h r ++ map (under h x) (held s)) (same-true (head r) (head s) e)

resources-all : (r s : Tree) → same_head r s ≡ true → in_resource (joined_resource r s) ≡ in_resource r ++ in_resource s
resources-all r s e =
    ap (flat_map (in_scope (head r))) (held-holding r (append_joining same_head joined_scope (held r) (held s)))
    ∙ joining-all same_head joined_scope (in_scope (head r)) (scopes-all (head r)) (held r) (held s)
    ∙ ap (λ x. in_resource r ++ flat_map (in_scope x) (held s)) (same-true (head r) (head s) e)

seam-all : (a b : List Tree) → flat_map in_resource (seam a b) ≡ flat_map in_resource a ++ flat_map in_resource b
seam-all a b = joining-all same_head joined_resource in_resource resources-all a b

join-all : (ms : List (List Tree)) (a : List Tree) → flat_map in_resource (join_onto a ms) ≡ flat_map in_resource a ++ flat_map (λ m. flat_map in_resource m) ms
join-all [] a = sym (append-nil (flat_map in_resource a))
join-all (m ∷ ms) a =
    join-all ms (seam a m) ∙ ap (λ x. x ++ flat_map (λ m. flat_map in_resource m) ms) (seam-all a m)
    ∙ append_assoc (flat_map in_resource a) (flat_map in_resource m) (flat_map (λ m. flat_map in_resource m) ms)

-- of one meaning
pub bare-one : (m : List Tree) → map bare (flat (m ∷ [])) ≡ flat_map in_resource m
bare-one m = ap (λ l. map bare (flat_resources 0 l)) (append-nil m) ∙ bare-from 0 m

pub each-one : (ms : List (List Tree)) → flat_map (λ m. map bare (flat (m ∷ []))) ms ≡ flat_map (λ m. flat_map in_resource m) ms
each-one [] = refl
each-one (m ∷ ms) =
    ap (λ l. l ++ flat_map (λ m. map bare (flat (m ∷ []))) ms) (bare-one m) ∙ ap (λ l. flat_map in_resource m ++ l) (each-one ms)

pub flat-join : (ms : List (List Tree)) → map bare (flat (join ms ∷ [])) ≡ flat_map (λ m. map bare (flat (m ∷ []))) ms
flat-join ms = bare-one (join ms) ∙ join-all ms [] ∙ sym (each-one ms)

-- ---- and of two of which the one comes under the last resource record of the other

resources-under : (r s : Tree) → same_head r s ≡ true → in_resource (joined_under r s) ≡ in_resource r ++ in_resource s
resources-under r s e =
    ap (flat_map (in_scope (head r))) (held-holding r (held r ++ held s)) ∙ flat_map-append (in_scope (head r)) (held r) (held s)
    ∙ ap (λ x. in_resource r ++ flat_map (in_scope x) (held s)) (same-true (head r) (head s) e)

pub flat-under : (a b : List Tree) → map bare (flat (under_last a b ∷ [])) ≡ map bare (flat (a ∷ [])) ++ map bare (flat (b ∷ []))
flat-under a b =
    bare-one (under_last a b) ∙ joining-all same_head joined_under in_resource resources-under a b
    ∙ ap (λ l. l ++ flat_map in_resource b) (sym (bare-one a)) ∙ ap (λ l. map bare (flat (a ∷ [])) ++ l) (sym (bare-one b))
