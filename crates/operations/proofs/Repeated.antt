-- The heads that are left out, by their texts.
use Rattle.std.proofs.Common.{◌≡◌, ℕ, suc, List, [], ◌∷◌, ◌++◌, map, drop, Option, Some, None, Bool, true, false, ◌&&◌, cond, refl, sym, ap, ◌∙◌, append_assoc}
use Rattle.std.specs.List.{flat_map}
use Rattle.std.specs.Str.{bytes_eq}
use Rattle.std.proofs.lemmas.Slice.Eq.{bytes_eq-Decides}
use Rattle.schema.specs.Each.{Each}
use Rattle.schema.specs.Fits.{Lawful}
use Rattle.schema.specs.Messages.{profile, scope, resource, resource_profiles}
use Rattle.schema.specs.Shape.{Shape, IsMessage}
use Rattle.schema_laws.proofs.Lawfulness.{lawful_from}
use Rattle.meaning.specs.Tree.{Tree}
use Rattle.meaning.specs.Tables.{Tables}
use Rattle.meaning.specs.Canonical.{renumber, values}
use Rattle.meaning.specs.Renumbering.{IsDeduplicated, Drafted, WrittenEach}
use Rattle.parts.specs.Parts.{RecordPart, ResourceBegins, ScopeBegins, ProfileText}
use Rattle.parts.specs.LastHeads.{LastHeads, no_heads, heads_from, last_heads, is_head, repeated_parts, repeated_scope, repeated_head}
use Rattle.parts.specs.Records.{held, front, back, record_parts}
use Rattle.operations.specs.Outlines.{Item, profile_item, scope_outline, outline, item_part}
use Rattle.operations.proofs.Renumbered.{parts-outline}
use Rattle.operations.specs.Heads.{HeadFits, HeadsFit, head_shape}
use Rattle.operations.specs.Seams.{seam, under_last, same_head, repeats, repeated_heads, repeated_resource}
use Rattle.operations.proofs.Joining.{repeated_scopes}
use Rattle.operations.proofs.Apart.{same-texts, same-heads}
use Rattle.operations.proofs.Drafts.{joined_draft, under_draft}

-- ---- heads

-- the two texts of a head
abbrev texts : Shape → Tree → List ℕ × List ℕ
texts h t = (front h t, back t)

-- the test of trees is that of texts
heads-by-texts : (h : Shape) → IsMessage h → Lawful (head_shape h) → (r s : Tree) → HeadFits h r → HeadFits h s
    → same_head r s ≡ is_head (Some (texts h r)) (front h s) (back s)
heads-by-texts h m l r s a b = by_tests (same_head r s) (bytes_eq (front h r) (front h s)) (bytes_eq (back r) (back s)) refl refl refl
  where
    by_tests : (x y z : Bool) → same_head r s ≡ x → bytes_eq (front h r) (front h s) ≡ y → bytes_eq (back r) (back s) ≡ z → x ≡ (y && z)
    by_tests true true true e f g = refl
    by_tests true false z e f g =
        let k = same-heads h r s e in
        let n : bytes_eq (front h r) (front h s) ≡ true = (bytes_eq-Decides (front h r) (front h s)).1 k.0 in cc
    by_tests true true false e f g =
        let k = same-heads h r s e in
        let n : bytes_eq (back r) (back s) ≡ true = (bytes_eq-Decides (back r) (back s)).1 k.1 in cc
    by_tests false true true e f g =
        let n : same_head r s ≡ true =
        same-texts h m l r s a b ((bytes_eq-Decides (front h r) (front h s)).0 f) ((bytes_eq-Decides (back r) (back s)).0 g) in cc
    by_tests false false z e f g = refl
    by_tests false true false e f g = refl

-- ---- the last heads of parts

-- the parts of items, with new indexes
abbrev parts_under : Tables → List Item → List RecordPart
parts_under v is = map (item_part resource scope profile v) is

-- profiles change no last head
last-profiles : (v : Tables) (l : LastHeads) (ps : List Tree) (more : List Item) → heads_from l (parts_under v (map profile_item ps ++ more)) ≡ heads_from l (parts_under v more)
last-profiles v l [] more = refl
last-profiles v l (p ∷ ps) more = last-profiles v l ps more

-- the last scope record's texts
abbrev last_scope : Option (List ℕ × List ℕ) → List Tree → Option (List ℕ × List ℕ)
last_scope o [] = o
last_scope o (s ∷ ss) = last_scope (Some (texts scope s)) ss

abbrev last_in : Option (List ℕ × List ℕ) → Option (List ℕ × List ℕ) → LastHeads
last_in r o = record { resource = r; scope = o }

-- so it is with parts
last-scopes : (v : Tables) (r o : Option (List ℕ × List ℕ)) (ss : List Tree) (more : List Item)
    → heads_from (last_in r o) (parts_under v (flat_map scope_outline ss ++ more)) ≡ heads_from (last_in r (last_scope o ss)) (parts_under v more)
last-scopes v r o [] more = refl
last-scopes v r o (s ∷ ss) more =
    ap (λ is. heads_from (last_in r (Some (texts scope s))) (parts_under v is)) (append_assoc (map profile_item (held s)) (flat_map scope_outline ss) more)
    ∙ last-profiles v (last_in r (Some (texts scope s))) (held s) (flat_map scope_outline ss ++ more)
    ∙ last-scopes v r (Some (texts scope s)) ss more

-- the last heads of resource records
abbrev last_from : LastHeads → List Tree → LastHeads
last_from l [] = l
last_from l (r ∷ rs) = last_from (last_in (Some (texts resource r)) (last_scope None (held r))) rs

last-resources : (v : Tables) (l : LastHeads) (rs : List Tree) → heads_from l (parts_under v (outline rs)) ≡ last_from l rs
last-resources v l [] = refl
last-resources v l (r ∷ rs) =
    last-scopes v (Some (texts resource r)) None (held r) (outline rs) ∙ last-resources v (last_in (Some (texts resource r)) (last_scope None (held r))) rs

-- ---- what is left out

-- of scope records, where o is the last head before them
scopes-repeated : (w : Tables) (o : Option (List ℕ × List ℕ)) (ss ts : List Tree) (rest : List Tree) → Each (HeadFits scope) ss → Each (HeadFits scope) ts
    → (let none : List Tree = [] in (ss ≡ none → o ≡ None))
    → repeats same_head (λ q t. 0) ss ts ≡ repeated_scope (last_scope o ss) (parts_under w (flat_map scope_outline ts ++ outline rest))
scopes-repeated w o [] [] [] a b n = refl
scopes-repeated w o [] [] (r ∷ rest) a b n = refl
scopes-repeated w o [] (t ∷ ts) rest a b n = rw (n refl) refl
scopes-repeated w o (s ∷ []) [] [] a b n = refl
scopes-repeated w o (s ∷ []) [] (r ∷ rest) a b n = refl
scopes-repeated w o (s ∷ []) (t ∷ ts) rest a b n =
    ap (λ x. cond x 1 0) (heads-by-texts scope tt (lawful_from (head_shape scope) refl) s t a.0 b.0)
scopes-repeated w o (s ∷ q ∷ ss) ts rest a b n = scopes-repeated w (Some (texts scope s)) (q ∷ ss) ts rest a.1 b (λ e. cc)

-- how many parts begin a resource record with the last texts, and then what `found` says of those after it
abbrev parts_found : (Option (List ℕ × List ℕ) → List RecordPart → ℕ) → LastHeads → List RecordPart → ℕ
parts_found found l (ResourceBegins f b ∷ ps) = cond (is_head l.resource f b) (suc (found l.scope ps)) 0
parts_found found l ps = 0

parts-found : (l : LastHeads) (ps : List RecordPart) → parts_found repeated_scope l ps ≡ repeated_parts l ps
parts-found l [] = refl
parts-found l (ResourceBegins f b ∷ ps) = refl
parts-found l (ScopeBegins f b ∷ ps) = refl
parts-found l (ProfileText p ∷ ps) = refl

head-found : (l : LastHeads) (ps : List RecordPart) → parts_found (λ o qs. 0) l ps ≡ repeated_head l ps
head-found l [] = refl
head-found l (ResourceBegins f b ∷ ps) = refl
head-found l (ScopeBegins f b ∷ ps) = refl
head-found l (ProfileText p ∷ ps) = refl

-- `found` says by texts what `inside` says of two resource records
abbrev FindsInside : (Tree → Tree → ℕ) → (Option (List ℕ × List ℕ) → List RecordPart → ℕ) → Type 0
FindsInside inside found =
    (w : Tables) → (r s : Tree) → (rest : List Tree) → Each (HeadFits scope) (held r) → Each (HeadFits scope) (held s)
    → inside r s ≡ found (last_scope None (held r)) (parts_under w (flat_map scope_outline (held s) ++ outline rest))

-- of resource records, where l has the last heads before them
resources-repeated : (inside : Tree → Tree → ℕ) (found : Option (List ℕ × List ℕ) → List RecordPart → ℕ) → FindsInside inside found
    → (w : Tables) (l : LastHeads) (a b : List Tree) → HeadsFit a → HeadsFit b → (let none : List Tree = [] in (a ≡ none → l.resource ≡ None))
    → repeats same_head inside a b ≡ parts_found found (last_from l a) (parts_under w (outline b))
resources-repeated inside found h w l [] [] f g n = refl
resources-repeated inside found h w l [] (s ∷ b) f g n = rw (n refl) refl
resources-repeated inside found h w l (r ∷ []) [] f g n = refl
resources-repeated inside found h w l (r ∷ []) (s ∷ b) f g n =
    ap (λ x. cond x (suc (inside r s)) 0) (heads-by-texts resource tt (lawful_from (head_shape resource) refl) r s f.0.0 g.0.0)
    ∙ ap (λ x. cond (is_head (Some (texts resource r)) (front resource s) (back s)) (suc x) 0) (h w r s b f.0.1 g.0.1)
resources-repeated inside found h w l (r ∷ q ∷ a) b f g n =
    resources-repeated inside found h w (last_in (Some (texts resource r)) (last_scope None (held r))) (q ∷ a) b f.1 g (λ e. cc)

-- of two meanings
meanings-repeated : (inside : Tree → Tree → ℕ) (found : Option (List ℕ × List ℕ) → List RecordPart → ℕ) → FindsInside inside found
    → (v w : Tables) (a b : List Tree) → HeadsFit a → HeadsFit b
    → repeats same_head inside a b
    ≡ parts_found found (last_heads (record_parts (map (renumber v resource_profiles) a))) (record_parts (map (renumber w resource_profiles) b))
meanings-repeated inside found h v w a b f g =
    resources-repeated inside found h w no_heads a b f g (λ e. refl)
    ∙ ap (λ l. parts_found found l (parts_under w (outline b)))
    (sym (last-resources v no_heads a) ∙ ap last_heads (sym (parts-outline v resource scope profile refl refl a)))
    ∙ ap (parts_found found (last_heads (record_parts (map (renumber v resource_profiles) a)))) (sym (parts-outline w resource scope profile refl refl b))

pub repeated-texts : (v w : Tables) (a b : List Tree) → HeadsFit a → HeadsFit b
    → repeated_heads a b ≡ repeated_parts (last_heads (record_parts (map (renumber v resource_profiles) a))) (record_parts (map (renumber w resource_profiles) b))
repeated-texts v w a b f g =
    meanings-repeated repeated_scopes repeated_scope (λ u r s rest x y. scopes-repeated u None (held r) (held s) rest x y (λ e. refl)) v w a b f g
    ∙ parts-found (last_heads (record_parts (map (renumber v resource_profiles) a))) (record_parts (map (renumber w resource_profiles) b))

pub head-texts : (v w : Tables) (a b : List Tree) → HeadsFit a → HeadsFit b
    → repeated_resource a b ≡ repeated_head (last_heads (record_parts (map (renumber v resource_profiles) a))) (record_parts (map (renumber w resource_profiles) b))
head-texts v w a b f g =
    meanings-repeated (λ r s. 0) (λ o ps. 0) (λ u r s rest x y. refl) v w a b f g
    ∙ head-found (last_heads (record_parts (map (renumber v resource_profiles) a))) (record_parts (map (renumber w resource_profiles) b))

-- so it is with the records of a draft, and what is written after them
written-texts : (d e : Tables) (ms ns xs ys : List Tree) → Drafted resource_profiles d ms xs → WrittenEach resource_profiles (values d) (values e) ns ys
    → (n : ℕ) (count : LastHeads → List RecordPart → ℕ)
    → n ≡ count (last_heads (record_parts (map (renumber (values d) resource_profiles) ms))) (record_parts (map (renumber (values e) resource_profiles) ns))
    → n ≡ count (last_heads (record_parts xs)) (record_parts ys)
written-texts d e ms ns xs ys r q n count h =
    h ∙ ap (λ x. count (last_heads (record_parts x)) (record_parts (map (renumber (values e) resource_profiles) ns))) (sym r.written.renumbered)
    ∙ ap (λ x. count (last_heads (record_parts xs)) (record_parts x)) (sym q.renumbered)

pub draft-by-texts : (d e : Tables) (ms ns xs ys : List Tree)
    → Drafted resource_profiles d ms xs → IsDeduplicated e → WrittenEach resource_profiles (values d) (values e) ns ys → HeadsFit ms → HeadsFit ns
    → (zs : List Tree) × Drafted resource_profiles e (seam ms ns) zs
    × (record_parts zs ≡ record_parts xs ++ drop (repeated_parts (last_heads (record_parts xs)) (record_parts ys)) (record_parts ys))
draft-by-texts d e ms ns xs ys r s q f g =
    let j = joined_draft d e ms ns xs ys r s q in
    let k = written-texts d e ms ns xs ys r q (repeated_heads ms ns) repeated_parts (repeated-texts (values d) (values e) ms ns f g) in
    (j.0, j.1, j.2 ∙ ap (λ n. record_parts xs ++ drop n (record_parts ys)) k)

pub under-by-texts : (d e : Tables) (ms ns xs ys : List Tree)
    → Drafted resource_profiles d ms xs → IsDeduplicated e → WrittenEach resource_profiles (values d) (values e) ns ys → HeadsFit ms → HeadsFit ns
    → (zs : List Tree) × Drafted resource_profiles e (under_last ms ns) zs
    × (record_parts zs ≡ record_parts xs ++ drop (repeated_head (last_heads (record_parts xs)) (record_parts ys)) (record_parts ys))
under-by-texts d e ms ns xs ys r s q f g =
    let j = under_draft d e ms ns xs ys r s q in
    let k = written-texts d e ms ns xs ys r q (repeated_resource ms ns) repeated_head (head-texts (values d) (values e) ms ns f g) in
    (j.0, j.1, j.2 ∙ ap (λ n. record_parts xs ++ drop n (record_parts ys)) k)
