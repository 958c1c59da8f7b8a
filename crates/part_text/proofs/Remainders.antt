-- What is put at an extent, and what is put after it, are what is put from it on.
use Rattle.std.proofs.Common.{◌≡◌, ℕ, ◌+◌, ◌*◌, ◌≤◌, List, [], ◌∷◌, ◌++◌, length, take, drop, refl, sym, ap, ◌∙◌, append_assoc, arith, length-append}
use Rattle.std.proofs.lemmas.List.{length-take-le, length-drop, drop-drop, append-nil, take-append-le, drop-append-le}
use Rattle.schema.specs.Texts.{varint, long_field}
use Rattle.parts.specs.Parts.{RecordPart, Texts, ResourceBegins, ScopeBegins, ProfileText, texts_of, payload, parts_text}
use Rattle.part_text.specs.Extents.{front_len, back_len, fronts_len, backs_len, part_in, parts_in}
use Rattle.part_text.specs.Remainders.{number_of, scope_closing, resource_closing, closed_text, scope_after, resource_after, scope_open, resource_open, rest_of}
use Rattle.part_text.specs.declared.extent.Extent.{Extent}
use Rattle.part_text.specs.declared.extent.Extent.TheVariants as extents

-- the texts after an extent, and its payload
abbrev pub texts_after : Extent → List Extent → List ℕ → List ℕ → Texts
texts_after p more t u = texts_of (parts_in more (drop (front_len p) t) (drop (back_len p) u))

abbrev pub payload_of : Extent → List Extent → List ℕ → List ℕ → List ℕ
payload_of p more t u = payload (part_in p t u) (texts_after p more t u)

-- a field by its tag, its length and its payload
long_split : (n : ℕ) (x : List ℕ) (len : ℕ) → len ≡ length x → (varint (n * 8 + 2) ++ varint len) ++ x ≡ long_field n x
unfolding long_field
long_split n x len e = ap (λ (m : ℕ). (varint (n * 8 + 2) ++ varint m) ++ x) e

in_profile : (v f p z : List ℕ) → (([] ++ []) ++ (v ++ f)) ++ (p ++ z) ≡ ((v ++ f) ++ p) ++ z
in_profile v f p z = sym (append_assoc (v ++ f) p z)

in_scope : (a v f p b s q r : List ℕ) → ((a ++ []) ++ (v ++ f)) ++ (p ++ (b ++ (s ++ (q ++ r)))) ≡ a ++ (((v ++ (f ++ (p ++ b))) ++ s) ++ (q ++ r))
in_scope a v f p b s q r = simp append_assoc refl

in_resource : (a q v f p s b r : List ℕ) → ((a ++ q) ++ (v ++ f)) ++ (p ++ ([] ++ (s ++ (b ++ r)))) ≡ a ++ (q ++ ((v ++ (f ++ ((p ++ s) ++ b))) ++ r))
in_resource a q v f p s b r = simp append_assoc refl

-- what is put from an extent on begins with what is put at it
pub rest_begins : (p : Extent) (more : List Extent) (t u sb rb : List ℕ) (len : ℕ) → len ≡ length (payload_of p more t u)
    → closed_text p len t sb rb ++ rest_of (parts_in more (drop (front_len p) t) (drop (back_len p) u)) (scope_after p sb u) (resource_after p rb u)
    ≡ rest_of (parts_in (p ∷ more) t u) sb rb
rest_begins (extents.Profile n) more t u sb rb len e =
    let g : Texts = texts_after (extents.Profile n) more t u in
    let z : List ℕ = sb ++ (g.scopes ++ (rb ++ g.resources)) in
    in_profile (varint (2 * 8 + 2) ++ varint len) (take n t) g.profiles z
    ∙ ap (λ x. (x ++ g.profiles) ++ z) (long_split 2 (take n t) len e)
rest_begins (extents.Scope f b) more t u sb rb len e =
    let g : Texts = texts_after (extents.Scope f b) more t u in
    in_scope sb (varint (2 * 8 + 2) ++ varint len) (take f t) g.profiles (take b u) g.scopes rb g.resources
    ∙ ap (λ x. sb ++ ((x ++ g.scopes) ++ (rb ++ g.resources))) (long_split 2 (take f t ++ (g.profiles ++ take b u)) len e)
rest_begins (extents.Resource f b) more t u sb rb len e =
    let g : Texts = texts_after (extents.Resource f b) more t u in
    in_resource sb rb (varint (1 * 8 + 2) ++ varint len) (take f t) g.profiles g.scopes (take b u) g.resources
    ∙ ap (λ x. sb ++ (rb ++ (x ++ g.resources))) (long_split 1 (take f t ++ ((g.profiles ++ g.scopes) ++ take b u)) len e)

-- ---- lengths

-- what is put at an extent
pub closed_text_len : (p : Extent) (len : ℕ) (t sb rb : List ℕ) → front_len p ≤ length t
    → length (closed_text p len t sb rb) ≡ length (scope_closing p sb) + length (resource_closing p rb) + (length (varint (number_of p * 8 + 2)) + length (varint len)) + front_len p
closed_text_len p len t sb rb l =
    let h : List ℕ = varint (number_of p * 8 + 2) ++ varint len in
    omega (arith, length-append (scope_closing p sb ++ resource_closing p rb) (h ++ take (front_len p) t), length-append (scope_closing p sb) (resource_closing p rb), length-append h (take (front_len p) t), length-append (varint (number_of p * 8 + 2)) (varint len), length-take-le (front_len p) t l)

-- what is put from an extent on, by what is put at it
pub rest_len : (p : Extent) (more : List Extent) (t u sb rb : List ℕ) (len : ℕ) → len ≡ length (payload_of p more t u)
    → length (closed_text p len t sb rb) + length (rest_of (parts_in more (drop (front_len p) t) (drop (back_len p) u)) (scope_after p sb u) (resource_after p rb u))
    ≡ length (rest_of (parts_in (p ∷ more) t u) sb rb)
rest_len p more t u sb rb len e =
    sym (length-append (closed_text p len t sb rb) (rest_of (parts_in more (drop (front_len p) t) (drop (back_len p) u)) (scope_after p sb u) (resource_after p rb u)))
    ∙ ap length (rest_begins p more t u sb rb len e)

-- what is put, by its texts
pub rest_size : (ps : List RecordPart) (sb rb : List ℕ) → length (rest_of ps sb rb)
    ≡ length (texts_of ps).profiles + (length sb + (length (texts_of ps).scopes + (length rb + length (texts_of ps).resources)))
rest_size ps sb rb =
    let g : Texts = texts_of ps in
    omega (arith, length-append g.profiles (sb ++ (g.scopes ++ (rb ++ g.resources))), length-append sb (g.scopes ++ (rb ++ g.resources)), length-append g.scopes (rb ++ g.resources), length-append rb g.resources)

-- the texts of extents in front, and what is put after these, have room in what is put from the first of them on
pub rest_after : (ps more : List Extent) (t u sb rb : List ℕ) → fronts_len ps ≤ length t
    → fronts_len ps + length (rest_of (parts_in more (drop (fronts_len ps) t) (drop (backs_len ps) u)) (scope_open ps u sb) (resource_open ps u rb))
    ≤ length (rest_of (parts_in (ps ++ more) t u) sb rb)
rest_after [] more t u sb rb l = omega arith
rest_after (p ∷ ps) more t u sb rb l =
    let v : List ℕ = drop (front_len p) t in
    let w : List ℕ = drop (back_len p) u in
    let so : List ℕ = scope_open ps w (scope_after p sb u) in
    let ro : List ℕ = resource_open ps w (resource_after p rb u) in
    let len : ℕ = length (payload_of p (ps ++ more) t u) in
    let r = rest_after ps more v w (scope_after p sb u) (resource_after p rb u) (omega (arith, length-drop (front_len p) t)) in
    let a = closed_text_len p len t sb rb (omega arith) in
    let b = rest_len p (ps ++ more) t u sb rb len refl in
    let c = ap (λ z. length (rest_of (parts_in more z (drop (backs_len ps) w)) so ro)) (drop-drop (fronts_len ps) (front_len p) t) in
    let d = ap (λ z. length (rest_of (parts_in more (drop (front_len p + fronts_len ps) t) z) so ro)) (drop-drop (backs_len ps) (back_len p) u) in
    omega arith

-- the text of the parts is no shorter than their texts in front
pub whole_least : (ps : List Extent) (t u : List ℕ) → fronts_len ps ≤ length t → fronts_len ps ≤ length (parts_text (parts_in ps t u))
whole_least ps t u l = omega (arith, rest_after ps [] t u [] [] l, ap (λ qs. length (parts_text (parts_in qs t u))) (append-nil ps))

-- ---- bytes after the texts are not seen

part_front : (p : Extent) (t e u : List ℕ) → front_len p ≤ length t → part_in p (t ++ e) u ≡ part_in p t u
part_front (extents.Profile n) t e u l = ap ProfileText (take-append-le n t e l)
part_front (extents.Scope f b) t e u l = ap (λ x. ScopeBegins x (take b u)) (take-append-le f t e l)
part_front (extents.Resource f b) t e u l = ap (λ x. ResourceBegins x (take b u)) (take-append-le f t e l)

pub parts_front : (ps : List Extent) (t e u : List ℕ) → fronts_len ps ≤ length t → parts_in ps (t ++ e) u ≡ parts_in ps t u
parts_front [] t e u l = refl
parts_front (p ∷ ps) t e u l =
    let k : front_len p ≤ length t = omega arith in
    ap (λ x. x ∷ parts_in ps (drop (front_len p) (t ++ e)) (drop (back_len p) u)) (part_front p t e u k)
    ∙ ap (λ x. part_in p t u ∷ parts_in ps x (drop (back_len p) u)) (drop-append-le (front_len p) t e k)
    ∙ ap (λ x. part_in p t u ∷ x) (parts_front ps (drop (front_len p) t) e (drop (back_len p) u) (omega (arith, length-drop (front_len p) t)))
