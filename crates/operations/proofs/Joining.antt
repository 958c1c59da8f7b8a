-- Lists that are appended, with the two that meet joined.
use Rattle.std.proofs.Common.{◌≡◌, ℕ, suc, ◌≤◌, List, [], ◌∷◌, ◌++◌, length, map, drop, Bool, true, false, cond, refl, sym, ap, ◌∙◌, arith, append_assoc}
use Rattle.std.proofs.lemmas.Grind.{flat_map-append}
use Rattle.std.proofs.lemmas.List.{append-nil, map-append, drop-append-le}
use Rattle.std.specs.List.{flat_map}
use Rattle.meaning.specs.Tree.{Tree}
use Rattle.meaning.proofs.Trees.{elements-listed}
use Rattle.parts.specs.Records.{held}
use Rattle.operations.specs.Outlines.{head, holding, ResourceItem, ScopeItem, profile_item, scope_outline, resource_outline, outline}
use Rattle.operations.specs.Seams.{append_joining, same_head, joined_scope, joined_resource, seam, join_onto, joined_under, under_last, repeats, repeated_heads, repeated_resource}

-- ---- what the definitions say

pub joining-none : (alike : Tree → Tree → Bool) (joined : Tree → Tree → Tree) (a : List Tree) → append_joining alike joined a [] ≡ a
joining-none alike joined [] = refl
joining-none alike joined (r ∷ []) = refl
joining-none alike joined (r ∷ q ∷ a) = ap (λ l. r ∷ l) (joining-none alike joined (q ∷ a))

put-if : (c : Bool) (r : Tree) (x y : List Tree) → r ∷ cond c x y ≡ cond c (r ∷ x) (r ∷ y)
put-if true r x y = refl
put-if false r x y = refl

pub joining-between : (alike : Tree → Tree → Bool) (joined : Tree → Tree → Tree) (a : List Tree) (r s : Tree) (b : List Tree)
    → append_joining alike joined (a ++ r ∷ []) (s ∷ b) ≡ cond (alike r s) (a ++ joined r s ∷ b) (a ++ r ∷ s ∷ b)
joining-between alike joined [] r s b = refl
joining-between alike joined (p ∷ []) r s b = put-if (alike r s) p (joined r s ∷ b) (r ∷ s ∷ b)
joining-between alike joined (p ∷ q ∷ a) r s b =
    ap (λ l. p ∷ l) (joining-between alike joined (q ∷ a) r s b) ∙ put-if (alike r s) p ((q ∷ a) ++ joined r s ∷ b) ((q ∷ a) ++ r ∷ s ∷ b)

pub join-more : (ms : List (List Tree)) (m a : List Tree) → join_onto a (ms ++ m ∷ []) ≡ seam (join_onto a ms) m
join-more [] m a = refl
join-more (n ∷ ms) m a = join-more ms m (seam a n)

pub join-append : (ms ns : List (List Tree)) (a : List Tree) → join_onto a (ms ++ ns) ≡ join_onto (join_onto a ms) ns
join-append [] ns a = refl
join-append (m ∷ ms) ns a = join-append ms ns (seam a m)

-- ---- what goes on

-- where what is listed of joined elements leaves out the first items of the second, so it is with the lists
pub joining-items : {X : Type 0} (alike : Tree → Tree → Bool) (joined : Tree → Tree → Tree) (inside : Tree → Tree → ℕ) (o : Tree → List X)
    → ((r s : Tree) → o (joined r s) ≡ o r ++ drop (suc (inside r s)) (o s)) → ((r s : Tree) → suc (inside r s) ≤ length (o s))
    → (a b : List Tree) → flat_map o (append_joining alike joined a b) ≡ flat_map o a ++ drop (repeats alike inside a b) (flat_map o b)
joining-items alike joined inside o h l [] b = refl
joining-items alike joined inside o h l (r ∷ []) [] = sym (append-nil (o r ++ []))
joining-items alike joined inside o h l (r ∷ []) (s ∷ b) = by_test (alike r s)
  where
    by_test : (c : Bool) → flat_map o (cond c (joined r s ∷ b) (r ∷ s ∷ b)) ≡ (o r ++ []) ++ drop (cond c (suc (inside r s)) 0) (o s ++ flat_map o b)
    by_test true =
        ap (λ x. x ++ flat_map o b) (h r s) ∙ append_assoc (o r) (drop (suc (inside r s)) (o s)) (flat_map o b)
        ∙ ap (λ x. o r ++ x) (sym (drop-append-le (suc (inside r s)) (o s) (flat_map o b) (l r s)))
        ∙ ap (λ x. x ++ drop (suc (inside r s)) (o s ++ flat_map o b)) (sym (append-nil (o r)))
    by_test false = ap (λ x. x ++ (o s ++ flat_map o b)) (sym (append-nil (o r)))
joining-items alike joined inside o h l (r ∷ q ∷ a) b =
    ap (λ x. o r ++ x) (joining-items alike joined inside o h l (q ∷ a) b)
    ∙ sym (append_assoc (o r) (flat_map o (q ∷ a)) (drop (repeats alike inside (q ∷ a) b) (flat_map o b)))

-- what a record holds that was made to hold it
pub held-holding : (t : Tree) (ts : List Tree) → held (holding t ts) ≡ ts
held-holding t ts = elements-listed ts

scopes-go_on : (r s : Tree) → scope_outline (joined_scope r s) ≡ scope_outline r ++ drop 1 (scope_outline s)
scopes-go_on r s =
    ap (λ l. ScopeItem (head r) ∷ l) (ap (map profile_item) (held-holding r (held r ++ held s)) ∙ map-append profile_item (held r) (held s))

abbrev pub repeated_scopes : Tree → Tree → ℕ
repeated_scopes r s = repeats same_head (λ q t. 0) (held r) (held s)

scopes-append_joining : (a b : List Tree) → flat_map scope_outline (append_joining same_head joined_scope a b)
    ≡ flat_map scope_outline a ++ drop (repeats same_head (λ q t. 0) a b) (flat_map scope_outline b)
scopes-append_joining a b = joining-items same_head joined_scope (λ q t. 0) scope_outline scopes-go_on (λ r s. omega arith) a b

resources-go_on : (r s : Tree) → resource_outline (joined_resource r s) ≡ resource_outline r ++ drop (suc (repeated_scopes r s)) (resource_outline s)
resources-go_on r s =
    ap (λ l. ResourceItem (head r) ∷ l)
    (ap (flat_map scope_outline) (held-holding r (append_joining same_head joined_scope (held r) (held s))) ∙ scopes-append_joining (held r) (held s))

-- no more heads are left out than there are items
pub few : (a b : List Tree) → repeats same_head (λ q t. 0) a b ≤ length (flat_map scope_outline b)
few [] b = omega arith
few (r ∷ []) [] = omega arith
few (r ∷ []) (s ∷ b) = by_test (same_head r s)
  where
    by_test : (c : Bool) → cond c 1 0 ≤ length (flat_map scope_outline (s ∷ b))
    by_test true = omega arith
    by_test false = omega arith
few (r ∷ q ∷ a) b = few (q ∷ a) b

pub seam-outline : (a b : List Tree) → outline (seam a b) ≡ outline a ++ drop (repeated_heads a b) (outline b)
seam-outline a b =
    joining-items same_head joined_resource repeated_scopes resource_outline resources-go_on (λ r s. let f = few (held r) (held s) in omega arith) a b

under-go_on : (r s : Tree) → resource_outline (joined_under r s) ≡ resource_outline r ++ drop 1 (resource_outline s)
under-go_on r s =
    ap (λ l. ResourceItem (head r) ∷ l)
    (ap (flat_map scope_outline) (held-holding r (held r ++ held s)) ∙ flat_map-append scope_outline (held r) (held s))

pub under-outline : (a b : List Tree) → outline (under_last a b) ≡ outline a ++ drop (repeated_resource a b) (outline b)
under-outline a b = joining-items same_head joined_under (λ r s. 0) resource_outline under-go_on (λ r s. omega arith) a b
