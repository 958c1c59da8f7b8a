-- The text while it is put from the end: what is put so far is what is put after the extents that are left.
use Rattle.std.proofs.Common.{◌≡◌, ℕ, ◌+◌, ◌*◌, ◌≤◌, List, [], ◌∷◌, ◌++◌, length, take, drop, refl, sym, ap, subst, ◌∙◌, append_assoc, arith, length-append}
use Rattle.std.proofs.lemmas.List.{length-take-le, length-drop, drop-drop, drop_at, append-nil, nil_from_length}
use Rattle.schema.specs.Texts.{varint}
use Rattle.parts.specs.Parts.{Texts, texts_of, parts_text}
use Rattle.part_text.specs.Extents.{front_len, back_len, fronts_len, backs_len, parts_in}
use Rattle.part_text.specs.Writes.{IsPutBefore}
use Rattle.part_text.specs.Remainders.{number_of, scope_closing, resource_closing, extent_text, closed_text, scope_after, resource_after, scope_open, resource_open, rest_of, payload_len_before, scope_before, resource_before}
use Rattle.part_text.specs.declared.extent.Extent.{Extent}
use Rattle.part_text.specs.declared.extent.Extent.TheVariants as extents
use Rattle.part_text.proofs.Writes.{take_earlier, same_block}
use Rattle.part_text.proofs.Steps.{fronts_of, backs_of, last_front, last_back, last_scope, last_resource}
use Rattle.part_text.proofs.Remainders.{texts_after, payload_of, rest_begins, rest_len, rest_size, rest_after, closed_text_len}

-- In these bytes stands from a place on what is put at the last extents, which cut these texts, where those close what is open
-- before them; and after it others. The scope record and the resource record that are open end at these places, and all at `size`.
pub record IsPut (size : ℕ) (after bytes : List ℕ) (more : List Extent) (t u sb rb : List ℕ) (put scope resource : ℕ) : Type 0 where
  pub text : drop put bytes ≡ rest_of (parts_in more t u) sb rb ++ after
  pub put_is : put + length (rest_of (parts_in more t u) sb rb) ≡ size
  pub scope_is : scope + (length (texts_of (parts_in more t u)).scopes + (length rb + length (texts_of (parts_in more t u)).resources)) ≡ size
  pub resource_is : resource + length (texts_of (parts_in more t u)).resources ≡ size

-- after the last extent only what closes what is open is put
pub closed : (size : ℕ) (b c t u sb rb : List ℕ) (put scope resource : ℕ) → IsPutBefore b c (sb ++ rb) put size → scope ≡ put + length sb → resource ≡ size
    → IsPut size (drop size b) c [] t u sb rb put scope resource
closed size b c t u sb rb put scope resource i s r = record {
  text = i.after ∙ ap (λ z. (sb ++ z) ++ drop size b) (sym (append-nil rb));
  put_is = omega (arith, i.ends, ap (λ z. length (sb ++ z)) (append-nil rb));
  scope_is = omega (arith, i.ends, s, length-append sb rb);
  resource_is = omega (arith, r);
}

-- the length of an extent's payload
pub payload_is : (size : ℕ) (e b : List ℕ) (p : Extent) (more : List Extent) (t u sb rb : List ℕ) (put scope resource : ℕ) → front_len p ≤ length t → back_len p ≤ length u
    → IsPut size e b more (drop (front_len p) t) (drop (back_len p) u) (scope_after p sb u) (resource_after p rb u) put scope resource
    → payload_len_before p put scope resource ≡ length (payload_of p more t u)
payload_is size e b (extents.Profile n) more t u sb rb put scope resource l k i = sym (length-take-le n t l)
payload_is size e b (extents.Scope f b₁) more t u sb rb put scope resource l k i =
    let g : Texts = texts_after (extents.Scope f b₁) more t u in
    omega (arith, i.put_is, i.scope_is, rest_size (parts_in more (drop f t) (drop b₁ u)) (take b₁ u) rb, length-append (take f t) (g.profiles ++ take b₁ u), length-append g.profiles (take b₁ u), length-take-le f t l)
payload_is size e b (extents.Resource f b₁) more t u sb rb put scope resource l k i =
    let g : Texts = texts_after (extents.Resource f b₁) more t u in
    omega (arith, i.put_is, i.resource_is, rest_size (parts_in more (drop f t) (drop b₁ u)) [] (take b₁ u), length-append (take f t) ((g.profiles ++ g.scopes) ++ take b₁ u), length-append (g.profiles ++ g.scopes) (take b₁ u), length-append g.profiles g.scopes, length-take-le f t l)

-- where the records end that are open before an extent
scope_stays : (size : ℕ) (e b : List ℕ) (p : Extent) (more : List Extent) (t u sb rb : List ℕ) (put scope resource put₁ : ℕ)
    → IsPut size e b more (drop (front_len p) t) (drop (back_len p) u) (scope_after p sb u) (resource_after p rb u) put scope resource
    → put₁ + length (rest_of (parts_in (p ∷ more) t u) sb rb) ≡ size
    → scope_before p (put₁ + length (scope_closing p sb)) scope + (length (texts_of (parts_in (p ∷ more) t u)).scopes + (length rb + length (texts_of (parts_in (p ∷ more) t u)).resources)) ≡ size
scope_stays size e b (extents.Profile n) more t u sb rb put scope resource put₁ i h = i.scope_is
scope_stays size e b (extents.Scope f b₁) more t u sb rb put scope resource put₁ i h = omega (arith, h, rest_size (parts_in (extents.Scope f b₁ ∷ more) t u) sb rb)
scope_stays size e b (extents.Resource f b₁) more t u sb rb put scope resource put₁ i h = omega (arith, h, rest_size (parts_in (extents.Resource f b₁ ∷ more) t u) sb rb)

resource_stays : (size : ℕ) (e b : List ℕ) (p : Extent) (more : List Extent) (t u sb rb : List ℕ) (put scope resource put₁ : ℕ)
    → IsPut size e b more (drop (front_len p) t) (drop (back_len p) u) (scope_after p sb u) (resource_after p rb u) put scope resource
    → put₁ + length (rest_of (parts_in (p ∷ more) t u) sb rb) ≡ size
    → resource_before p (put₁ + length (scope_closing p sb) + length (resource_closing p rb)) resource + length (texts_of (parts_in (p ∷ more) t u)).resources ≡ size
resource_stays size e b (extents.Profile n) more t u sb rb put scope resource put₁ i h = i.resource_is
resource_stays size e b (extents.Scope f b₁) more t u sb rb put scope resource put₁ i h = i.resource_is
resource_stays size e b (extents.Resource f b₁) more t u sb rb put scope resource put₁ i h = omega (arith, h, rest_size (parts_in (extents.Resource f b₁ ∷ more) t u) sb rb)

-- one more extent is put
pub extent_put : (size : ℕ) (e b c : List ℕ) (p : Extent) (more : List Extent) (t u sb rb : List ℕ) (put scope resource put₁ scope₁ resource₁ len : ℕ)
    → front_len p ≤ length t → back_len p ≤ length u
    → IsPut size e b more (drop (front_len p) t) (drop (back_len p) u) (scope_after p sb u) (resource_after p rb u) put scope resource
    → len ≡ payload_len_before p put scope resource → IsPutBefore b c (closed_text p len t sb rb) put₁ put
    → scope₁ ≡ scope_before p (put₁ + length (scope_closing p sb)) scope → resource₁ ≡ resource_before p (put₁ + length (scope_closing p sb) + length (resource_closing p rb)) resource
    → IsPut size e c (p ∷ more) t u sb rb put₁ scope₁ resource₁
extent_put size e b c p more t u sb rb put scope resource put₁ scope₁ resource₁ len l k i n j s r =
    let m : len ≡ length (payload_of p more t u) = n ∙ payload_is size e b p more t u sb rb put scope resource l k i in
    let rest : List ℕ = rest_of (parts_in more (drop (front_len p) t) (drop (back_len p) u)) (scope_after p sb u) (resource_after p rb u) in
    let h : put₁ + length (rest_of (parts_in (p ∷ more) t u) sb rb) ≡ size = omega (arith, rest_len p more t u sb rb len m, i.put_is, j.ends) in
    record {
      text = j.after ∙ ap (λ z. closed_text p len t sb rb ++ z) i.text ∙ sym (append_assoc (closed_text p len t sb rb) rest e)
          ∙ ap (λ z. z ++ e) (rest_begins p more t u sb rb len m);
      put_is = h;
      scope_is = ap (λ (a : ℕ). a + (length (texts_of (parts_in (p ∷ more) t u)).scopes + (length rb + length (texts_of (parts_in (p ∷ more) t u)).resources))) s
          ∙ scope_stays size e b p more t u sb rb put scope resource put₁ i h;
      resource_is = ap (λ (a : ℕ). a + length (texts_of (parts_in (p ∷ more) t u)).resources) r ∙ resource_stays size e b p more t u sb rb put scope resource put₁ i h;
    }

-- ---- the loop

-- the text of these extents' parts is so long, and the extents are within their texts
pub record IsWhole (t u : List ℕ) (size : ℕ) (extents : List Extent) : Type 0 where
  pub fronts : fronts_len extents ≤ length t
  pub backs : backs_len extents ≤ length u
  pub size_is : length (parts_text (parts_in extents t u)) ≡ size

pub whole_is : (t u : List ℕ) (size texts : ℕ) (extents : List Extent) → fronts_len extents ≡ texts → texts ≤ length t → backs_len extents ≡ length u
    → size ≡ length (parts_text (parts_in extents t u)) → IsWhole t u size extents
whole_is t u size texts extents f l g e = record { fronts = omega arith; backs = omega arith; size_is = sym e }

-- the extents after those that are left are put, and the texts of these stand where they stood
pub record IsUnderWay (t u : List ℕ) (size : ℕ) (extents : List Extent) (b : List ℕ) (left : List Extent) (texts closing put scope resource : ℕ) : Type 0 where
  pub cut : left ++ drop (length left) extents ≡ extents
  pub texts_is : texts ≡ fronts_len left
  pub closing_is : closing ≡ backs_len left
  pub same : take texts b ≡ take texts t
  pub later : IsPut size (drop size t) b (drop (length left) extents) (drop (fronts_len left) t) (drop (backs_len left) u) (scope_open left u []) (resource_open left u []) put scope resource

-- there is room for the texts of extents in front of what is put after them
pub room_in_front : (t u : List ℕ) (size : ℕ) (extents ps more : List Extent) → IsWhole t u size extents → ps ++ more ≡ extents
    → fronts_len ps + length (rest_of (parts_in more (drop (fronts_len ps) t) (drop (backs_len ps) u)) (scope_open ps u []) (resource_open ps u [])) ≤ size
room_in_front t u size extents ps more w e =
    omega (arith, w.fronts, w.size_is, rest_after ps more t u [] [] (omega (arith, w.fronts, ap fronts_len e, fronts_of ps more)), ap (λ qs. length (parts_text (parts_in qs t u))) e)

-- at the start
pub closing_room : (t u : List ℕ) (size : ℕ) (extents : List Extent) → IsWhole t u size extents
    → fronts_len extents + (length (scope_open extents u []) + length (resource_open extents u [])) ≤ size
closing_room t u size extents w =
    let so : List ℕ = scope_open extents u [] in
    let ro : List ℕ = resource_open extents u [] in
    omega (arith, room_in_front t u size extents extents [] w (append-nil extents), length-append so (ro ++ []), length-append ro [])

pub starts : (t u : List ℕ) (size : ℕ) (extents : List Extent) (c sc rc : List ℕ) (texts closing put scope resource : ℕ) → IsWhole t u size extents
    → texts ≡ fronts_len extents → closing ≡ backs_len extents → sc ≡ scope_open extents u [] → rc ≡ resource_open extents u []
    → IsPutBefore t c (sc ++ rc) put size → scope ≡ put + length sc → resource ≡ size
    → IsUnderWay t u size extents c extents texts closing put scope resource
starts t u size extents c sc rc texts closing put scope resource w f g y z j s r =
    let so : List ℕ = scope_open extents u [] in
    let ro : List ℕ = resource_open extents u [] in
    let i : IsPutBefore t c (so ++ ro) put size = subst (λ d. IsPutBefore t c (so ++ d) put size) z (subst (λ d. IsPutBefore t c (d ++ rc) put size) y j) in
    let none : drop (length extents) extents ≡ [] = nil_from_length (drop (length extents) extents) (omega (arith, length-drop (length extents) extents)) in
    record {
      cut = ap (λ qs. extents ++ qs) none ∙ append-nil extents;
      texts_is = f;
      closing_is = g;
      same = take_earlier c t texts put (omega (arith, closing_room t u size extents w, i.ends, length-append so ro)) i.front;
      later = subst (λ qs. IsPut size (drop size t) c qs (drop (fronts_len extents) t) (drop (backs_len extents) u) so ro put scope resource) (sym none)
          (closed size t c (drop (fronts_len extents) t) (drop (backs_len extents) u) so ro put scope resource i (s ∙ ap (λ d. put + length d) y) r);
    }

-- what is put so far, by the last extent that is left
pub at_last : (t u : List ℕ) (size : ℕ) (extents : List Extent) (b : List ℕ) (left ps : List Extent) (p : Extent) (texts closing put scope resource : ℕ)
    → IsUnderWay t u size extents b left texts closing put scope resource → left ≡ ps ++ p ∷ []
    → IsPut size (drop size t) b (drop (length left) extents) (drop (front_len p) (drop (fronts_len ps) t)) (drop (back_len p) (drop (backs_len ps) u))
    (scope_after p (scope_open ps u []) (drop (backs_len ps) u)) (resource_after p (resource_open ps u []) (drop (backs_len ps) u)) put scope resource
at_last t u size extents b left ps p texts closing put scope resource i e =
    let a : List ℕ = drop size t in
    let more : List Extent = drop (length left) extents in
    let t₁ : List ℕ = drop (front_len p) (drop (fronts_len ps) t) in
    let u₁ : List ℕ = drop (back_len p) (drop (backs_len ps) u) in
    let so : List ℕ = scope_open left u [] in
    let ro : List ℕ = resource_open left u [] in
    let f : drop (fronts_len left) t ≡ t₁ = ap (λ (n : ℕ). drop n t) (last_front left ps p e) ∙ sym (drop-drop (front_len p) (fronts_len ps) t) in
    let g : drop (backs_len left) u ≡ u₁ = ap (λ (n : ℕ). drop n u) (last_back left ps p e) ∙ sym (drop-drop (back_len p) (backs_len ps) u) in
    subst (λ z. IsPut size a b more t₁ u₁ (scope_after p (scope_open ps u []) (drop (backs_len ps) u)) z put scope resource) (last_resource left ps p u e)
    (subst (λ z. IsPut size a b more t₁ u₁ z ro put scope resource) (last_scope left ps p u e)
    (subst (λ z. IsPut size a b more t₁ z so ro put scope resource) g
    (subst (λ z. IsPut size a b more z (drop (backs_len left) u) so ro put scope resource) f i.later)))

-- the extents, cut before the last one that is left
cut_last : (extents left ps : List Extent) (p : Extent) → left ++ drop (length left) extents ≡ extents → left ≡ ps ++ p ∷ [] → ps ++ p ∷ drop (length left) extents ≡ extents
cut_last extents left ps p c e =
    sym (append_assoc ps (p ∷ []) (drop (length left) extents)) ∙ ap (λ qs. qs ++ drop (length left) extents) (sym e) ∙ c

-- its texts are there
pub last_within : (t u : List ℕ) (size : ℕ) (extents ps more : List Extent) (p : Extent) → IsWhole t u size extents → ps ++ p ∷ more ≡ extents
    → (front_len p ≤ length (drop (fronts_len ps) t)) × (back_len p ≤ length (drop (backs_len ps) u))
last_within t u size extents ps more p w e = (
  omega (arith, w.fronts, ap fronts_len e, fronts_of ps (p ∷ more), length-drop (fronts_len ps) t),
  omega (arith, w.backs, ap backs_len e, backs_of ps (p ∷ more), length-drop (backs_len ps) u),
)

-- there is room for the last extent that is left
pub extent_room : (t u : List ℕ) (size : ℕ) (extents : List Extent) (b : List ℕ) (left ps : List Extent) (p : Extent) (texts closing put scope resource len : ℕ)
    → IsWhole t u size extents → IsUnderWay t u size extents b left texts closing put scope resource → left ≡ ps ++ p ∷ [] → len ≡ payload_len_before p put scope resource
    → fronts_len ps + (length (scope_closing p (scope_open ps u [])) + length (resource_closing p (resource_open ps u [])) + (length (varint (number_of p * 8 + 2)) + length (varint len)) + front_len p) ≤ put
extent_room t u size extents b left ps p texts closing put scope resource len w i e n =
    let more : List Extent = drop (length left) extents in
    let t₁ : List ℕ = drop (fronts_len ps) t in
    let u₁ : List ℕ = drop (backs_len ps) u in
    let so : List ℕ = scope_open ps u [] in
    let ro : List ℕ = resource_open ps u [] in
    let c = cut_last extents left ps p i.cut e in
    let v = last_within t u size extents ps more p w c in
    let j = at_last t u size extents b left ps p texts closing put scope resource i e in
    let m = n ∙ payload_is size (drop size t) b p more t₁ u₁ so ro put scope resource v.0 v.1 j in
    omega (arith, room_in_front t u size extents ps (p ∷ more) w c, rest_len p more t₁ u₁ so ro len m, closed_text_len p len t₁ so ro v.0, j.put_is)

-- after it
pub extent_done : (t u : List ℕ) (size : ℕ) (extents : List Extent) (b c : List ℕ) (left ps : List Extent) (p : Extent) (sc rc : List ℕ) (texts closing put scope resource len texts₁ closing₁ put₁ scope₁ resource₁ : ℕ)
    → IsWhole t u size extents → IsUnderWay t u size extents b left texts closing put scope resource → left ≡ ps ++ p ∷ [] → len ≡ payload_len_before p put scope resource
    → texts₁ ≡ fronts_len ps → closing₁ ≡ backs_len ps → sc ≡ scope_closing p (scope_open ps u []) → rc ≡ resource_closing p (resource_open ps u [])
    → IsPutBefore b c ((sc ++ rc) ++ extent_text p len (drop texts₁ b)) put₁ put
    → scope₁ ≡ scope_before p (put₁ + length sc) scope → resource₁ ≡ resource_before p (put₁ + length sc + length rc) resource
    → IsUnderWay t u size extents c ps texts₁ closing₁ put₁ scope₁ resource₁
extent_done t u size extents b c left ps p sc rc texts closing put scope resource len texts₁ closing₁ put₁ scope₁ resource₁ w i e n f g y z j s r =
    let more : List Extent = drop (length left) extents in
    let t₁ : List ℕ = drop (fronts_len ps) t in
    let u₁ : List ℕ = drop (backs_len ps) u in
    let so : List ℕ = scope_open ps u [] in
    let ro : List ℕ = resource_open ps u [] in
    let k = cut_last extents left ps p i.cut e in
    let v = last_within t u size extents ps more p w k in
    let h : drop (length ps) extents ≡ p ∷ more = ap (drop (length ps)) (sym k) ∙ drop_at ps (p ∷ more) (length ps) refl in
    let x : take (front_len p) (drop texts₁ b) ≡ take (front_len p) t₁ =
    same_block b t texts₁ (front_len p) texts (omega (arith, i.texts_is, last_front left ps p e)) i.same ∙ ap (λ (m : ℕ). take (front_len p) (drop m t)) f in
    let text : (sc ++ rc) ++ extent_text p len (drop texts₁ b) ≡ closed_text p len t₁ so ro =
    ap (λ d. (sc ++ rc) ++ ((varint (number_of p * 8 + 2) ++ varint len) ++ d)) x
    ∙ ap (λ d. (d ++ rc) ++ extent_text p len t₁) y ∙ ap (λ d. (scope_closing p so ++ d) ++ extent_text p len t₁) z in
    let o = extent_room t u size extents b left ps p texts closing put scope resource len w i e n in
    record {
      cut = ap (λ qs. ps ++ qs) h ∙ k;
      texts_is = f;
      closing_is = g;
      same = take_earlier c b texts₁ put₁ (omega (arith, o, j.ends, ap length text, closed_text_len p len t₁ so ro v.0)) j.front
          ∙ take_earlier b t texts₁ texts (omega (arith, i.texts_is, last_front left ps p e)) i.same;
      later = subst (λ qs. IsPut size (drop size t) c qs t₁ u₁ so ro put₁ scope₁ resource₁) (sym h)
          (extent_put size (drop size t) b c p more t₁ u₁ so ro put scope resource put₁ scope₁ resource₁ len v.0 v.1
          (at_last t u size extents b left ps p texts closing put scope resource i e) n
          (subst (λ z. IsPutBefore b c z put₁ put) text j)
          (s ∙ ap (λ d. scope_before p (put₁ + length d) scope) y)
          (r ∙ ap (λ d. resource_before p (put₁ + length d + length rc) resource) y ∙ ap (λ d. resource_before p (put₁ + length (scope_closing p so) + length d) resource) z));
    }

-- at the end
pub all_put : (t u : List ℕ) (size : ℕ) (extents : List Extent) (b : List ℕ) (left : List Extent) (texts closing put scope resource : ℕ) → IsWhole t u size extents
    → IsUnderWay t u size extents b left texts closing put scope resource → left ≡ [] → b ≡ parts_text (parts_in extents t u) ++ drop size t
all_put t u size extents b left texts closing put scope resource w i e =
    let j = (subst (λ qs. IsUnderWay t u size extents b qs texts closing put scope resource) e i).later in
    let n : put ≡ 0 = omega (arith, j.put_is, w.size_is) in
    ap (λ (m : ℕ). drop m b) (sym n) ∙ j.text
