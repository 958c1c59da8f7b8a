-- The heads of flat profiles are those of the records at their places.
use Rattle.std.proofs.Common.{◌≡◌, ℕ, suc, ◌+◌, ◌<◌, List, [], ◌∷◌, length, map, sym, ap, ◌∙◌, arith}
use Rattle.std.specs.List.{flat_map}
use Rattle.schema.specs.Each.{Each}
use Rattle.schema_laws.proofs.Lists.{each_append}
use Rattle.meaning.specs.Tree.{Tree}
use Rattle.parts.specs.Records.{held}
use Rattle.operations.specs.Flat.{FlatProfile, flat_profile, flat_scopes, flat_resources, flat, record_at, HasHeadsOf}
use Rattle.operations.specs.Outlines.{head}

profiles-placed : (rs : List Tree) (r s : Tree) (i j : ℕ) → r ≡ record_at rs i → s ≡ record_at (held (record_at rs i)) j
    → (ps : List Tree) → Each (HasHeadsOf rs) (map (flat_profile (head r) (head s) i j) ps)
profiles-placed rs r s i j f g [] = tt
profiles-placed rs r s i j f g (p ∷ ps) = (record { resource_head = ap head f; scope_head = ap head g }, profiles-placed rs r s i j f g ps)

scopes-placed : (rs : List Tree) (r : Tree) (i j : ℕ) → r ≡ record_at rs i → (ss : List Tree) → ((n : ℕ) → n < length ss → record_at ss n ≡ record_at (held (record_at rs i)) (j + n))
    → Each (HasHeadsOf rs) (flat_scopes (head r) i j ss)
scopes-placed rs r i j f [] g = tt
scopes-placed rs r i j f (s ∷ ss) g =
    let z : j + 0 ≡ j = omega arith in
    let here : s ≡ record_at (held (record_at rs i)) j = g 0 (omega arith) ∙ ap (record_at (held (record_at rs i))) z in
    let rest : (n : ℕ) → n < length ss → record_at ss n ≡ record_at (held (record_at rs i)) (suc j + n) =
    λ n l. let e : j + suc n ≡ suc j + n = omega arith in g (suc n) (omega arith) ∙ ap (record_at (held (record_at rs i))) e in
    each_append (HasHeadsOf rs) (map (flat_profile (head r) (head s) i j) (held s)) (flat_scopes (head r) i (suc j) ss)
    (profiles-placed rs r s i j f here (held s)) (scopes-placed rs r i (suc j) f ss rest)

resources-placed : (rs : List Tree) (i : ℕ) (more : List Tree) → ((n : ℕ) → n < length more → record_at more n ≡ record_at rs (i + n))
    → Each (HasHeadsOf rs) (flat_resources i more)
resources-placed rs i [] g = tt
resources-placed rs i (r ∷ more) g =
    let z : i + 0 ≡ i = omega arith in
    let here : r ≡ record_at rs i = g 0 (omega arith) ∙ ap (record_at rs) z in
    let rest : (n : ℕ) → n < length more → record_at more n ≡ record_at rs (suc i + n) =
    λ n l. let e : i + suc n ≡ suc i + n = omega arith in g (suc n) (omega arith) ∙ ap (record_at rs) e in
    each_append (HasHeadsOf rs) (flat_scopes (head r) i 0 (held r)) (flat_resources (suc i) more)
    (scopes-placed rs r i 0 here (held r) (λ n l. let e : n ≡ 0 + n = omega arith in ap (λ t. record_at (held t) n) here ∙ ap (record_at (held (record_at rs i))) e)) (resources-placed rs (suc i) more rest)

-- the profiles of meanings have the heads of their records
pub flat-placed : (ms : List (List Tree)) → Each (HasHeadsOf (flat_map (λ m. m) ms)) (flat ms)
flat-placed ms = let rs : List Tree = flat_map (λ m. m) ms in resources-placed rs 0 rs (λ n h. let e : n ≡ 0 + n = omega arith in ap (record_at rs) e)

-- ---- what places tell

pub same-resource : (rs : List Tree) (e f : FlatProfile) → HasHeadsOf rs e → HasHeadsOf rs f → e.resource_place ≡ f.resource_place → e.resource ≡ f.resource
same-resource rs e f p q i = p.resource_head ∙ ap (λ n. head (record_at rs n)) i ∙ sym q.resource_head

pub same-scope : (rs : List Tree) (e f : FlatProfile) → HasHeadsOf rs e → HasHeadsOf rs f
    → e.resource_place ≡ f.resource_place → e.scope_place ≡ f.scope_place → e.scope ≡ f.scope
same-scope rs e f p q i j =
    p.scope_head ∙ ap (λ n. head (record_at (held (record_at rs n)) e.scope_place)) i
    ∙ ap (λ n. head (record_at (held (record_at rs f.resource_place)) n)) j ∙ sym q.scope_head

-- the heads of a record are heads alone
pub resource-head : (rs : List Tree) (e : FlatProfile) → HasHeadsOf rs e → head e.resource ≡ e.resource
resource-head rs e p = ap head p.resource_head ∙ sym p.resource_head

pub scope-head : (rs : List Tree) (e : FlatProfile) → HasHeadsOf rs e → head e.scope ≡ e.scope
scope-head rs e p = ap head p.scope_head ∙ sym p.scope_head
