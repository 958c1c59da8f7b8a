-- Drafts of joined meanings.
use Rattle.std.proofs.Common.{◌≡◌, ℕ, zero, suc, ◌≤◌, arith, List, [], ◌∷◌, ◌++◌, length, map, drop, Bool, true, false, cond, refl, sym, ap, ◌∙◌}
use Rattle.std.proofs.lemmas.Grind.{flat_map-append}
use Rattle.std.proofs.lemmas.List.{map-append, drop-append-le}
use Rattle.std.specs.List.{flat_map}
use Rattle.schema.specs.Messages.{profile, scope, resource, resource_profiles}
use Rattle.schema.specs.Shape.{Table}
use Rattle.meaning.specs.Tree.{Tree}
use Rattle.meaning.specs.Tables.{Tables, with_new}
use Rattle.meaning.specs.Meaning.{uses}
use Rattle.meaning.specs.Canonical.{zeros, values, renumber}
use Rattle.meaning.specs.Renumbering.{IsDeduplicated, Drafted, WrittenEach}
use Rattle.meaning.proofs.Drafts.{draft_joined}
use Rattle.meaning.proofs.Growth.{kept-each, each_covers, each_grown}
use Rattle.parts.specs.Parts.{RecordPart}
use Rattle.parts.specs.Records.{held, record_parts}
use Rattle.operations.specs.Outlines.{Item, scope_outline, resource_outline, outline, item_part, item_uses}
use Rattle.operations.proofs.Renumbered.{parts-outline}
use Rattle.operations.proofs.Walks.{records-walk}
use Rattle.operations.specs.Seams.{seam, under_last, same_head, repeats, repeated_heads, repeated_resource}
use Rattle.operations.proofs.Joining.{repeated_scopes, seam-outline, under-outline, few}

-- ---- what is left out are heads, in which a walk meets nothing

-- in scope records
drop-scopes : (T : Table) (a b : List Tree)
    → flat_map (item_uses profile T) (drop (repeats same_head (λ q t. 0) a b) (flat_map scope_outline b)) ≡ flat_map (item_uses profile T) (flat_map scope_outline b)
drop-scopes T [] b = refl
drop-scopes T (r ∷ []) [] = refl
drop-scopes T (r ∷ []) (s ∷ b) = by_test (same_head r s)
  where
    by_test : (c : Bool) → flat_map (item_uses profile T) (drop (cond c 1 0) (flat_map scope_outline (s ∷ b))) ≡ flat_map (item_uses profile T) (flat_map scope_outline (s ∷ b))
    by_test true = refl
    by_test false = refl
drop-scopes T (r ∷ q ∷ a) b = drop-scopes T (q ∷ a) b

-- In resource records, where so it is with as many items of scope records as `inside` says.
drop-resources : (T : Table) (inside : Tree → Tree → ℕ) → ((r s : Tree) → inside r s ≤ length (flat_map scope_outline (held s)))
    → ((r s : Tree) → flat_map (item_uses profile T) (drop (inside r s) (flat_map scope_outline (held s))) ≡ flat_map (item_uses profile T) (flat_map scope_outline (held s)))
    → (a b : List Tree) → flat_map (item_uses profile T) (drop (repeats same_head inside a b) (outline b)) ≡ flat_map (item_uses profile T) (outline b)
drop-resources T inside l h [] b = refl
drop-resources T inside l h (r ∷ []) [] = refl
drop-resources T inside l h (r ∷ []) (s ∷ b) = by_test (same_head r s)
  where
    n : ℕ
    n = inside r s

    by_test : (c : Bool) → flat_map (item_uses profile T) (drop (cond c (suc n) 0) (outline (s ∷ b))) ≡ flat_map (item_uses profile T) (outline (s ∷ b))
    by_test false = refl
    by_test true =
        let u = item_uses profile T in
        let ss = flat_map scope_outline (held s) in
        ap (flat_map u) (drop-append-le n ss (outline b) (l r s))
        ∙ flat_map-append u (drop n ss) (outline b) ∙ ap (λ x. x ++ flat_map u (outline b)) (h r s)
        ∙ sym (flat_map-append u ss (outline b))
drop-resources T inside l h (r ∷ q ∷ a) b = drop-resources T inside l h (q ∷ a) b

-- ---- a meaning after another

-- The outline of m is that of a, and then that of b without its first n items, in which a walk meets nothing.
record GoesOn (a b m : List Tree) (n : ℕ) : Type 0 where
  pub outlines : outline m ≡ outline a ++ drop n (outline b)
  pub walks : (T : Table) → flat_map (item_uses profile T) (drop n (outline b)) ≡ flat_map (item_uses profile T) (outline b)

seam-on : (a b : List Tree) → GoesOn a b (seam a b) (repeated_heads a b)
seam-on a b = record {
  outlines = seam-outline a b;
  walks = λ T. drop-resources T repeated_scopes (λ r s. few (held r) (held s)) (λ r s. drop-scopes T (held r) (held s)) a b;
}

under-on : (a b : List Tree) → GoesOn a b (under_last a b) (repeated_resource a b)
under-on a b = record {
  outlines = under-outline a b;
  walks = λ T. drop-resources T (λ r s. 0) (λ r s. omega arith) (λ r s. refl) a b;
}

append-on : (a b : List Tree) → GoesOn a b (a ++ b) 0
append-on a b = record { outlines = flat_map-append resource_outline a b; walks = λ T. refl }

-- it has the walk of the two
walk-on : (T : Table) (a b m : List Tree) (n : ℕ) → GoesOn a b m n
    → flat_map (uses T resource_profiles) m ≡ flat_map (uses T resource_profiles) (a ++ b)
walk-on T a b m n g =
    let u = item_uses profile T in
    let w : (ms : List Tree) → flat_map (uses T resource_profiles) ms ≡ flat_map u (outline ms) = records-walk T resource scope profile refl refl in
    w m ∙ ap (flat_map u) g.outlines ∙ flat_map-append u (outline a) (drop n (outline b))
    ∙ ap (λ x. flat_map u (outline a) ++ x) (g.walks T)
    ∙ sym (flat_map-append (uses T resource_profiles) a b ∙ ap (λ x. x ++ flat_map (uses T resource_profiles) b) (w a) ∙ ap (λ x. flat_map u (outline a) ++ x) (w b))

-- ---- drafts

-- dropping before and after a map
drop-map : {X Y : Type 0} (f : X → Y) (n : ℕ) (xs : List X) → map f (drop n xs) ≡ drop n (map f xs)
drop-map f zero xs = refl
drop-map f (suc n) [] = refl
drop-map f (suc n) (x ∷ xs) = drop-map f n xs

-- the parts of its records
parts-on : (v : Tables) (a b m : List Tree) (n : ℕ) → GoesOn a b m n
    → record_parts (map (renumber v resource_profiles) m)
    ≡ record_parts (map (renumber v resource_profiles) a) ++ drop n (record_parts (map (renumber v resource_profiles) b))
parts-on v a b m n g =
    let f : Item → RecordPart = item_part resource scope profile v in
    let w : (ms : List Tree) → record_parts (map (renumber v resource_profiles) ms) ≡ map f (outline ms) = parts-outline v resource scope profile refl refl in
    w m ∙ ap (map f) g.outlines ∙ map-append f (outline a) (drop n (outline b))
    ∙ ap (λ x. map f (outline a) ++ x) (drop-map f n (outline b))
    ∙ ap (λ x. x ++ drop n (map f (outline b))) (sym (w a))
    ∙ ap (λ x. record_parts (map (renumber v resource_profiles) a) ++ drop n x) (sym (w b))

-- what is written after a draft makes a draft of a meaning that goes on so
draft-on : (d e : Tables) (ms ns xs ys m : List Tree) (n : ℕ) → GoesOn ms ns m n
    → Drafted resource_profiles d ms xs → IsDeduplicated e → WrittenEach resource_profiles (values d) (values e) ns ys
    → (zs : List Tree) × Drafted resource_profiles e m zs × (record_parts zs ≡ record_parts xs ++ drop n (record_parts ys))
draft-on d e ms ns xs ys m n g r s q =
    let v : Tables = values e in
    let all = draft_joined r s q in
    let zs : List Tree = map (renumber v resource_profiles) m in
    let front : xs ≡ map (renumber v resource_profiles) ms = r.written.renumbered ∙ sym (kept-each resource_profiles (values d) (values e) (each_grown q) ms (each_covers r.written)) in (
      zs,
      record {
        deduplicated = s;
        written = record { walked = λ T. all.written.walked T ∙ ap (with_new (zeros T)) (sym (walk-on T ms ns m n g)); renumbered = refl };
      },
      parts-on v ms ns m n g
          ∙ ap (λ x. record_parts x ++ drop n (record_parts (map (renumber v resource_profiles) ns))) (sym front)
          ∙ ap (λ x. record_parts xs ++ drop n (record_parts x)) (sym q.renumbered),
    )

-- of the seam, of the one under the last resource record of the other, and of the one after the other
pub joined_draft : (d e : Tables) (ms ns xs ys : List Tree)
    → Drafted resource_profiles d ms xs → IsDeduplicated e → WrittenEach resource_profiles (values d) (values e) ns ys
    → (zs : List Tree) × Drafted resource_profiles e (seam ms ns) zs × (record_parts zs ≡ record_parts xs ++ drop (repeated_heads ms ns) (record_parts ys))
joined_draft d e ms ns xs ys r s q = draft-on d e ms ns xs ys (seam ms ns) (repeated_heads ms ns) (seam-on ms ns) r s q

pub under_draft : (d e : Tables) (ms ns xs ys : List Tree)
    → Drafted resource_profiles d ms xs → IsDeduplicated e → WrittenEach resource_profiles (values d) (values e) ns ys
    → (zs : List Tree) × Drafted resource_profiles e (under_last ms ns) zs × (record_parts zs ≡ record_parts xs ++ drop (repeated_resource ms ns) (record_parts ys))
under_draft d e ms ns xs ys r s q = draft-on d e ms ns xs ys (under_last ms ns) (repeated_resource ms ns) (under-on ms ns) r s q

pub appended_draft : (d e : Tables) (ms ns xs ys : List Tree)
    → Drafted resource_profiles d ms xs → IsDeduplicated e → WrittenEach resource_profiles (values d) (values e) ns ys
    → (zs : List Tree) × Drafted resource_profiles e (ms ++ ns) zs × (record_parts zs ≡ record_parts xs ++ record_parts ys)
appended_draft d e ms ns xs ys r s q = draft-on d e ms ns xs ys (ms ++ ns) 0 (append-on ms ns) r s q
