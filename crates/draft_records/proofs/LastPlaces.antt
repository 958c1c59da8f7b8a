-- The places of the last heads, with more texts, with one more extent, and cut back.
use Rattle.std.proofs.Common.{◌≡◌, ℕ, ◌+◌, ◌≤◌, List, [], ◌∷◌, ◌++◌, length, take, drop, Option, Some, None, refl, sym, ap, ◌∙◌, arith}
use Rattle.std.proofs.lemmas.List.{take-append-le, drop-append-le, drop_at, length-take-le, length-drop, take-append-drop}
use Rattle.parts.specs.LastHeads.{LastHeads, with_head}
use Rattle.part_text.specs.Extents.{front_len, back_len, fronts_len, backs_len, part_in, parts_in}
use Rattle.part_text.specs.declared.extent.Extent.{Extent}
use Rattle.part_text.specs.declared.extent.Extent.TheVariants as extents
use Rattle.draft_records.specs.Marks.{front_of, back_of, texts_run, closings_run}
use Rattle.draft_records.specs.Places.{head_at, heads_at, IsInside, AreInside, places_after}
use Rattle.draft_records.specs.declared.places.HeadPlace.{HeadPlace}
use Rattle.draft_records.specs.declared.places.HeadPlaces.{HeadPlaces}

-- ---- the runs of the texts of parts

front-text : (p : Extent) (t u : List ℕ) → front_of (part_in p t u) ≡ take (front_len p) t
front-text (extents.Profile n) t u = refl
front-text (extents.Scope f b) t u = refl
front-text (extents.Resource f b) t u = refl

back-text : (p : Extent) (t u : List ℕ) → back_of (part_in p t u) ≡ take (back_len p) u
back-text (extents.Profile n) t u = refl
back-text (extents.Scope f b) t u = refl
back-text (extents.Resource f b) t u = refl

pub texts-run : (ps : List Extent) (t u : List ℕ) → fronts_len ps ≡ length t → texts_run (parts_in ps t u) ≡ t
texts-run [] [] u e = refl
texts-run [] (x ∷ t) u e = absurd (omega arith)
texts-run (p ∷ ps) t u e =
    let d = length-drop (front_len p) t in
    ap (λ x. x ++ texts_run (parts_in ps (drop (front_len p) t) (drop (back_len p) u))) (front-text p t u)
    ∙ ap (λ x. take (front_len p) t ++ x) (texts-run ps (drop (front_len p) t) (drop (back_len p) u) (omega arith))
    ∙ take-append-drop (front_len p) t

pub closings-run : (ps : List Extent) (t u : List ℕ) → backs_len ps ≡ length u → closings_run (parts_in ps t u) ≡ u
closings-run [] t [] e = refl
closings-run [] t (x ∷ u) e = absurd (omega arith)
closings-run (p ∷ ps) t u e =
    let d = length-drop (back_len p) u in
    ap (λ x. x ++ closings_run (parts_in ps (drop (front_len p) t) (drop (back_len p) u))) (back-text p t u)
    ∙ ap (λ x. take (back_len p) u ++ x) (closings-run ps (drop (front_len p) t) (drop (back_len p) u) (omega arith))
    ∙ take-append-drop (back_len p) u

-- ---- the texts at places

abbrev both : List ℕ → List ℕ → Option (List ℕ × List ℕ)
both f b = Some (f, b)

abbrev packed : Option (List ℕ × List ℕ) → Option (List ℕ × List ℕ) → LastHeads
packed r s = record { resource = r; scope = s }

text-front : (m n : ℕ) (t v : List ℕ) → m + n ≤ length t → take n (drop m (t ++ v)) ≡ take n (drop m t)
text-front m n t v l =
    let d = length-drop m t in
    ap (take n) (drop-append-le m t v (omega arith)) ∙ take-append-le n (drop m t) v (omega arith)

head-front : (o : Option HeadPlace) (t u v w : List ℕ) → IsInside o (length t) (length u) → head_at o (t ++ v) (u ++ w) ≡ head_at o t u
head-front None t u v w i = refl
head-front (Some p) t u v w i =
    ap (λ x. both x (take p.back (drop p.back_at (u ++ w)))) (text-front p.front_at p.front t v i.0)
    ∙ ap (both (take p.front (drop p.front_at t))) (text-front p.back_at p.back u w i.1)

-- a head whose texts come first after these
head-here : (f b m n : ℕ) (t u v w : List ℕ) → m ≡ length t → n ≡ length u
    → head_at (Some (record { front_at = m; front = f; back_at = n; back = b })) (t ++ v) (u ++ w) ≡ Some (take f v, take b w)
head-here f b m n t u v w e g =
    ap (λ x. both (take f x) (take b (drop n (u ++ w)))) (drop_at t v m (sym e)) ∙ ap (λ x. both (take f v) (take b x)) (drop_at u w n (sym g))

-- texts after those of the places are not seen
pub heads-front : (h : HeadPlaces) (t u v w : List ℕ) → AreInside h (length t) (length u) → heads_at h (t ++ v) (u ++ w) ≡ heads_at h t u
heads-front h t u v w i =
    ap (λ x. packed x (head_at h.scope (t ++ v) (u ++ w))) (head-front h.resource t u v w i.resource)
    ∙ ap (packed (head_at h.resource t u)) (head-front h.scope t u v w i.scope)

pub heads-cut : (h : HeadPlaces) (t u : List ℕ) (m n : ℕ) → AreInside h (length (take m t)) (length (take n u)) → heads_at h (take m t) (take n u) ≡ heads_at h t u
heads-cut h t u m n i =
    sym (heads-front h (take m t) (take n u) (drop m t) (drop n u) i)
    ∙ ap (λ x. heads_at h x (take n u ++ drop n u)) (take-append-drop m t) ∙ ap (heads_at h t) (take-append-drop n u)

pub heads-same : (h h' : HeadPlaces) (t t' u u' : List ℕ) → h' ≡ h → t' ≡ t → u' ≡ u → heads_at h' t' u' ≡ heads_at h t u
heads-same h h' t t' u u' e f g = ap (λ x. heads_at x t' u') e ∙ ap (λ x. heads_at h x u') f ∙ ap (heads_at h t) g

-- with one more extent
heads-after : (h : HeadPlaces) (p : Extent) (m n : ℕ) (t u v w : List ℕ) → m ≡ length t → n ≡ length u → AreInside h (length t) (length u)
    → heads_at (places_after h p m n) (t ++ v) (u ++ w) ≡ with_head (heads_at h t u) (part_in p v w)
heads-after h (extents.Profile k) m n t u v w e g i = heads-front h t u v w i
heads-after h (extents.Scope f b) m n t u v w e g i =
    ap (λ x. packed x (head_at (Some (record { front_at = m; front = f; back_at = n; back = b })) (t ++ v) (u ++ w))) (head-front h.resource t u v w i.resource)
    ∙ ap (packed (head_at h.resource t u)) (head-here f b m n t u v w e g)
heads-after h (extents.Resource f b) m n t u v w e g i = ap (λ x. packed x None) (head-here f b m n t u v w e g)

-- ---- inside

within : (o : Option HeadPlace) (m n m' n' : ℕ) → m ≤ m' → n ≤ n' → IsInside o m n → IsInside o m' n'
within None m n m' n' l k i = tt
within (Some p) m n m' n' l k i = (omega (arith, i.0, l), omega (arith, i.1, k))

pub inside-more : (h : HeadPlaces) (m n m' n' : ℕ) → m ≤ m' → n ≤ n' → AreInside h m n → AreInside h m' n'
inside-more h m n m' n' l k i = record { resource = within h.resource m n m' n' l k i.resource; scope = within h.scope m n m' n' l k i.scope }

pub inside-after : (h : HeadPlaces) (p : Extent) (m n m' n' : ℕ) → AreInside h m n → m + front_len p ≤ m' → n + back_len p ≤ n' → AreInside (places_after h p m n) m' n'
inside-after h (extents.Profile k) m n m' n' i a b = inside-more h m n m' n' (omega (arith, a)) (omega (arith, b)) i
inside-after h (extents.Scope f c) m n m' n' i a b =
    record { resource = within h.resource m n m' n' (omega (arith, a)) (omega (arith, b)) i.resource; scope = (a, b) }
inside-after h (extents.Resource f c) m n m' n' i a b = record { resource = (a, b); scope = tt }

-- ---- an extent whose texts stand at the ends

pub heads-push : (h : HeadPlaces) (p : Extent) (t u : List ℕ) (m n : ℕ) → m + front_len p ≡ length t → n + back_len p ≡ length u → AreInside h m n
    → heads_at (places_after h p m n) t u ≡ with_head (heads_at h t u) (part_in p (drop m t) (drop n u))
heads-push h p t u m n e g i =
    let c = length-take-le m t (omega arith) in
    let d = length-take-le n u (omega arith) in
    let a : AreInside h (length (take m t)) (length (take n u)) = inside-more h m n _ _ (omega arith) (omega arith) i in
    let q : HeadPlaces = places_after h p m n in
    heads-same q q (take m t ++ drop m t) t (take n u ++ drop n u) u refl (sym (take-append-drop m t)) (sym (take-append-drop n u))
    ∙ heads-after h p m n (take m t) (take n u) (drop m t) (drop n u) (omega arith) (omega arith) a
    ∙ ap (λ x. with_head x (part_in p (drop m t) (drop n u))) (heads-cut h t u m n a)
