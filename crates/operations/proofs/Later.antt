-- The flat list of several meanings by those of each: places go on.
use Rattle.std.proofs.Common.{◌≡◌, ℕ, suc, ◌+◌, List, [], ◌∷◌, ◌++◌, length, map, refl, sym, ap, ◌∙◌, arith, append_assoc}
use Rattle.std.proofs.lemmas.Grind.{flat_map-append}
use Rattle.std.proofs.lemmas.List.{append-nil, map-append}
use Rattle.std.specs.List.{flat_map}
use Rattle.meaning.specs.Tree.{Tree}
use Rattle.meaning.proofs.Places.{map-map}
use Rattle.parts.specs.Records.{held}
use Rattle.operations.specs.Flat.{flat_profile, flat_scopes, flat_resources, flat, later}
use Rattle.operations.specs.Outlines.{head}

-- with a place that is so many later
scopes-later : (n : ℕ) (r : Tree) (i j : ℕ) (ss : List Tree) → flat_scopes r (n + i) j ss ≡ map (later n) (flat_scopes r i j ss)
scopes-later n r i j [] = refl
scopes-later n r i j (s ∷ ss) =
    ap (λ l. map (flat_profile r (head s) (n + i) j) (held s) ++ l) (scopes-later n r i (suc j) ss)
    ∙ ap (λ l. l ++ map (later n) (flat_scopes r i (suc j) ss)) (sym (map-map (flat_profile r (head s) i j) (later n) (held s)))
    ∙ sym (map-append (later n) (map (flat_profile r (head s) i j) (held s)) (flat_scopes r i (suc j) ss))

resources-later : (n i : ℕ) (rs : List Tree) → flat_resources (n + i) rs ≡ map (later n) (flat_resources i rs)
resources-later n i [] = refl
resources-later n i (r ∷ rs) =
    let e : suc (n + i) ≡ n + suc i = omega arith in
    ap (λ l. flat_scopes (head r) (n + i) 0 (held r) ++ l) (ap (λ k. flat_resources k rs) e ∙ resources-later n (suc i) rs)
    ∙ ap (λ l. l ++ map (later n) (flat_resources (suc i) rs)) (scopes-later n (head r) i 0 (held r))
    ∙ sym (map-append (later n) (flat_scopes (head r) i 0 (held r)) (flat_resources (suc i) rs))

-- records after others
resources-append : (i : ℕ) (rs more : List Tree) → flat_resources i (rs ++ more) ≡ flat_resources i rs ++ flat_resources (length rs + i) more
resources-append i [] more = let e : i ≡ 0 + i = omega arith in ap (λ k. flat_resources k more) e
resources-append i (r ∷ rs) more =
    let e : length rs + suc i ≡ suc (length rs) + i = omega arith in
    ap (λ l. flat_scopes (head r) i 0 (held r) ++ l)
    (resources-append (suc i) rs more ∙ ap (λ k. flat_resources (suc i) rs ++ flat_resources k more) e)
    ∙ sym (append_assoc (flat_scopes (head r) i 0 (held r)) (flat_resources (suc i) rs) (flat_resources (suc (length rs) + i) more))

pub meanings-append : (ms ns : List (List Tree)) → flat (ms ++ ns) ≡ flat ms ++ map (later (length (flat_map (λ m. m) ms))) (flat ns)
meanings-append ms ns =
    let rs : List Tree = flat_map (λ m. m) ms in
    let more : List Tree = flat_map (λ m. m) ns in
    ap (flat_resources 0) (flat_map-append (λ m. m) ms ns) ∙ resources-append 0 rs more ∙ ap (λ l. flat_resources 0 rs ++ l) (resources-later (length rs) 0 more)

pub first-append : (m : List Tree) (ms : List (List Tree)) → flat (m ∷ ms) ≡ flat (m ∷ []) ++ map (later (length m)) (flat ms)
first-append m ms = meanings-append (m ∷ []) ms ∙ ap (λ rs. flat (m ∷ []) ++ map (later (length rs)) (flat ms)) (append-nil m)
