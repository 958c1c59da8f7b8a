-- Extents and the parts that they cut from the two runs: one more, and fewer.
use Rattle.std.proofs.Common.{◌≡◌, ℕ, zero, suc, ◌+◌, ◌≤◌, List, [], ◌∷◌, ◌++◌, length, take, drop, refl, sym, ap, ◌∙◌, arith}
use Rattle.std.proofs.lemmas.List.{take-append-le, drop-append-le, length-take-le, length-drop, drop-drop, take-append-drop}
use Rattle.parts.specs.Parts.{RecordPart, ResourceBegins, ScopeBegins, ProfileText}
use Rattle.parts.specs.Sums.{with_sum, sums_of, no_sums}
use Rattle.parts.proofs.Sizes.{sums_append}
use Rattle.part_text.specs.Extents.{front_len, back_len, fronts_len, backs_len, part_in, parts_in}
use Rattle.part_text.specs.declared.extent.Extent.{Extent}
use Rattle.part_text.specs.declared.extent.Extent.TheVariants as extents
use Rattle.draft_records.specs.Marks.{front_of, back_of, texts_len, closings_len}

-- ---- one extent

-- its part does not see what comes after its texts
part-front : (p : Extent) (t u v w : List ℕ) → front_len p ≤ length t → back_len p ≤ length u → part_in p (t ++ v) (u ++ w) ≡ part_in p t u
part-front (extents.Profile n) t u v w l m = ap ProfileText (take-append-le n t v l)
part-front (extents.Scope f b) t u v w l m =
    ap (λ x. ScopeBegins x (take b (u ++ w))) (take-append-le f t v l) ∙ ap (ScopeBegins (take f t)) (take-append-le b u w m)
part-front (extents.Resource f b) t u v w l m =
    ap (λ x. ResourceBegins x (take b (u ++ w))) (take-append-le f t v l) ∙ ap (ResourceBegins (take f t)) (take-append-le b u w m)

-- the lengths of its texts
part-front_of : (p : Extent) (t u : List ℕ) → front_len p ≤ length t → length (front_of (part_in p t u)) ≡ front_len p
part-front_of (extents.Profile n) t u l = length-take-le n t l
part-front_of (extents.Scope f b) t u l = length-take-le f t l
part-front_of (extents.Resource f b) t u l = length-take-le f t l

part-back_of : (p : Extent) (t u : List ℕ) → back_len p ≤ length u → length (back_of (part_in p t u)) ≡ back_len p
part-back_of (extents.Profile n) t u l = refl
part-back_of (extents.Scope f b) t u l = length-take-le b u l
part-back_of (extents.Resource f b) t u l = length-take-le b u l

-- ---- several

pub parts-push : (ps : List Extent) (p : Extent) (t u : List ℕ)
    → parts_in (ps ++ p ∷ []) t u ≡ parts_in ps t u ++ part_in p (drop (fronts_len ps) t) (drop (backs_len ps) u) ∷ []
parts-push [] p t u = refl
parts-push (q ∷ ps) p t u =
    ap (λ x. part_in q t u ∷ x) (parts-push ps p (drop (front_len q) t) (drop (back_len q) u))
    ∙ ap (λ x. part_in q t u ∷ (parts_in ps (drop (front_len q) t) (drop (back_len q) u) ++ part_in p x (drop (backs_len ps) (drop (back_len q) u)) ∷ [])) (drop-drop (fronts_len ps) (front_len q) t)
    ∙ ap (λ x. part_in q t u ∷ (parts_in ps (drop (front_len q) t) (drop (back_len q) u) ++ part_in p (drop (front_len q + fronts_len ps) t) x ∷ [])) (drop-drop (backs_len ps) (back_len q) u)

pub fronts_push : (ps : List Extent) (p : Extent) → fronts_len (ps ++ p ∷ []) ≡ fronts_len ps + front_len p
fronts_push [] p = omega arith
fronts_push (q ∷ ps) p = let r = fronts_push ps p in omega arith

pub backs_push : (ps : List Extent) (p : Extent) → backs_len (ps ++ p ∷ []) ≡ backs_len ps + back_len p
backs_push [] p = omega arith
backs_push (q ∷ ps) p = let r = backs_push ps p in omega arith

pub parts-count : (ps : List Extent) (t u : List ℕ) → length (parts_in ps t u) ≡ length ps
parts-count [] t u = refl
parts-count (p ∷ ps) t u = ap suc (parts-count ps (drop (front_len p) t) (drop (back_len p) u))

-- texts after those of the extents are not seen
pub parts-front : (ps : List Extent) (t u v w : List ℕ) → fronts_len ps ≤ length t → backs_len ps ≤ length u → parts_in ps (t ++ v) (u ++ w) ≡ parts_in ps t u
parts-front [] t u v w l m = refl
parts-front (p ∷ ps) t u v w l m =
    let d = length-drop (front_len p) t in
    let e = length-drop (back_len p) u in
    ap (λ x. x ∷ parts_in ps (drop (front_len p) (t ++ v)) (drop (back_len p) (u ++ w))) (part-front p t u v w (omega arith) (omega arith))
    ∙ ap (λ x. part_in p t u ∷ parts_in ps x (drop (back_len p) (u ++ w))) (drop-append-le (front_len p) t v (omega arith))
    ∙ ap (λ x. part_in p t u ∷ parts_in ps (drop (front_len p) t ++ v) x) (drop-append-le (back_len p) u w (omega arith))
    ∙ ap (λ x. part_in p t u ∷ x) (parts-front ps (drop (front_len p) t) (drop (back_len p) u) v w (omega arith) (omega arith))

-- the texts of the extents alone
pub parts-cut : (ps : List Extent) (t u : List ℕ) (m n : ℕ) → fronts_len ps ≤ length (take m t) → backs_len ps ≤ length (take n u) → parts_in ps (take m t) (take n u) ≡ parts_in ps t u
parts-cut ps t u m n l k =
    sym (parts-front ps (take m t) (take n u) (drop m t) (drop n u) l k)
    ∙ ap (λ x. parts_in ps x (take n u ++ drop n u)) (take-append-drop m t) ∙ ap (parts_in ps t) (take-append-drop n u)

-- the lengths of their texts
pub parts-texts : (ps : List Extent) (t u : List ℕ) → fronts_len ps ≤ length t → texts_len (parts_in ps t u) ≡ fronts_len ps
parts-texts [] t u l = refl
parts-texts (p ∷ ps) t u l =
    let d = length-drop (front_len p) t in
    let r = parts-texts ps (drop (front_len p) t) (drop (back_len p) u) (omega arith) in
    let h = part-front_of p t u (omega arith) in
    omega arith

pub parts-closings : (ps : List Extent) (t u : List ℕ) → backs_len ps ≤ length u → closings_len (parts_in ps t u) ≡ backs_len ps
parts-closings [] t u l = refl
parts-closings (p ∷ ps) t u l =
    let d = length-drop (back_len p) u in
    let r = parts-closings ps (drop (front_len p) t) (drop (back_len p) u) (omega arith) in
    let h = part-back_of p t u (omega arith) in
    omega arith

-- ---- fewer extents, and what they have of the texts

pub parts-fewer : (n : ℕ) (ps : List Extent) (t u : List ℕ) → take n (parts_in ps t u) ≡ parts_in (take n ps) t u
parts-fewer zero ps t u = refl
parts-fewer (suc n) [] t u = refl
parts-fewer (suc n) (p ∷ ps) t u = ap (λ l. part_in p t u ∷ l) (parts-fewer n ps (drop (front_len p) t) (drop (back_len p) u))

pub fronts_fewer : (n : ℕ) (ps : List Extent) → fronts_len (take n ps) ≤ fronts_len ps
fronts_fewer zero ps = omega arith
fronts_fewer (suc n) [] = omega arith
fronts_fewer (suc n) (p ∷ ps) = let r = fronts_fewer n ps in omega arith

pub backs_fewer : (n : ℕ) (ps : List Extent) → backs_len (take n ps) ≤ backs_len ps
backs_fewer zero ps = omega arith
backs_fewer (suc n) [] = omega arith
backs_fewer (suc n) (p ∷ ps) = let r = backs_fewer n ps in omega arith

-- what is left where the runs are cut back to the texts of the first extents
pub record IsCut (ps : List Extent) (t u : List ℕ) (n m k : ℕ) : Type 0 where
  pub texts : fronts_len (take n ps) ≡ length (take m t)
  pub backs : backs_len (take n ps) ≡ length (take k u)
  pub parts : parts_in (take n ps) (take m t) (take k u) ≡ take n (parts_in ps t u)

pub cut-extents : (ps : List Extent) (t u : List ℕ) (n m k : ℕ) → fronts_len ps ≡ length t → backs_len ps ≡ length u
    → m ≡ texts_len (take n (parts_in ps t u)) → k ≡ closings_len (take n (parts_in ps t u)) → IsCut ps t u n m k
cut-extents ps t u n m k e f g h =
    let a = fronts_fewer n ps in
    let b = backs_fewer n ps in
    let x : m ≡ fronts_len (take n ps) = g ∙ ap texts_len (parts-fewer n ps t u) ∙ parts-texts (take n ps) t u (omega arith) in
    let y : k ≡ backs_len (take n ps) = h ∙ ap closings_len (parts-fewer n ps t u) ∙ parts-closings (take n ps) t u (omega arith) in
    let p : length (take m t) ≡ m = length-take-le m t (omega arith) in
    let q : length (take k u) ≡ k = length-take-le k u (omega arith) in
    record {
      texts = omega arith;
      backs = omega arith;
      parts = parts-cut (take n ps) t u m k (omega arith) (omega arith) ∙ sym (parts-fewer n ps t u);
    }

-- ---- sums

pub sums-push : (ps : List RecordPart) (p : RecordPart) → sums_of (ps ++ p ∷ []) ≡ with_sum (sums_of ps) p
sums-push ps p = sums_append ps (p ∷ []) no_sums
