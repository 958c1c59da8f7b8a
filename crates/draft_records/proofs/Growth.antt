-- What is kept, with the texts of one more extent, with that extent, and cut back.
use Rattle.std.proofs.Common.{◌≡◌, ℕ, ◌-◌, List, [], ◌∷◌, ◌++◌, length, take, drop, sym, ap, subst, ◌∙◌, arith, length-append}
use Rattle.std.proofs.lemmas.List.{drop_at, length-take-le, take_all}
use Rattle.parts.specs.LastHeads.{last_heads, with_head}
use Rattle.parts.specs.Parts.{RecordPart, ResourceBegins, ScopeBegins, ProfileText}
use Rattle.parts.specs.Sums.{with_sum, sums_of}
use Rattle.parts.proofs.LastHeads.{last_heads-append}
use Rattle.part_text.specs.Extents.{front_len, back_len, fronts_len, backs_len, part_in, parts_in}
use Rattle.part_text.specs.declared.extent.Extent.{Extent}
use Rattle.part_text.specs.declared.extent.Extent.TheVariants as extents
use Rattle.draft_records.specs.Kept.{IsKept, IsAwaiting, awaited, parts_of}
use Rattle.draft_records.specs.Marks.{Mark, CanBeCut, IsMark, texts_len, closings_len, texts_run, closings_run}
use Rattle.draft_records.specs.Places.{AreInside, heads_at, places_after}
use Rattle.draft_records.specs.declared.kept.Kept.{Kept}
use Rattle.draft_records.specs.declared.places.HeadPlaces.{HeadPlaces}
use Rattle.draft_records.proofs.Cuts.{parts-push, fronts_push, backs_push, parts-front, parts-cut, parts-count, parts-texts, parts-closings, IsCut, cut-extents, sums-push}
use Rattle.draft_records.proofs.LastPlaces.{texts-run, closings-run, heads-front, heads-cut, heads-same, heads-push, inside-more, inside-after}

parts-of : (k k' : Kept) → k'.extents.items ≡ k.extents.items → k'.texts ≡ k.texts → k'.backs ≡ k.backs → parts_of k' ≡ parts_of k
parts-of k k' e f g =
    ap (λ ps. parts_in ps k'.texts k'.backs) e ∙ ap (λ t. parts_in k.extents.items t k'.backs) f ∙ ap (parts_in k.extents.items k.texts) g

-- places do not pass the texts of these extents
abbrev Holds : HeadPlaces → List Extent → Type 0
Holds h ps = AreInside h (fronts_len ps) (backs_len ps)

holds : (h h' : HeadPlaces) (ps ps' : List Extent) → h' ≡ h → ps' ≡ ps → Holds h ps → Holds h' ps'
holds h h' ps ps' j e i = subst (λ z. Holds z ps') (sym j) (subst (Holds h) (sym e) i)

-- nothing changed
pub record IsSame (k k' : Kept) : Type 0 where
  pub kept : IsKept k'
  pub parts : parts_of k' ≡ parts_of k

pub same : (k k' : Kept) → IsKept k → k'.extents.items ≡ k.extents.items → k'.texts ≡ k.texts → k'.backs ≡ k.backs → k'.totals ≡ k.totals → k'.places ≡ k.places → IsSame k k'
same k k' i e f g h j =
    let x = parts-of k k' e f g in
    record {
      kept = record {
        texts = ap fronts_len e ∙ i.texts ∙ sym (ap length f);
        backs = ap backs_len e ∙ i.backs ∙ sym (ap length g);
        totals = h ∙ i.totals ∙ sym (ap sums_of x);
        heads = heads-same k.places k'.places k.texts k'.texts k.backs k'.backs j f g ∙ i.heads ∙ sym (ap last_heads x);
        inside = holds k.places k'.places k.extents.items k'.extents.items j e i.inside;
      };
      parts = x;
    }

-- the texts of an extent were put at the ends
pub record Awaits (k k' : Kept) (p : Extent) (t u : List ℕ) : Type 0 where
  pub awaiting : IsAwaiting k' p
  pub parts : parts_of k' ≡ parts_of k
  pub part : awaited k' p ≡ part_in p t u

pub awaits : (k k' : Kept) (p : Extent) (t u : List ℕ) → IsKept k → k'.extents.items ≡ k.extents.items → k'.texts ≡ k.texts ++ t → k'.backs ≡ k.backs ++ u → k'.totals ≡ k.totals
    → k'.places ≡ k.places → front_len p ≡ length t → back_len p ≡ length u → Awaits k k' p t u
awaits k k' p t u i e f g h j m n =
    let x : parts_of k' ≡ parts_of k =
    ap (λ ps. parts_in ps k'.texts k'.backs) e ∙ ap (λ r. parts_in k.extents.items r k'.backs) f ∙ ap (parts_in k.extents.items (k.texts ++ t)) g
    ∙ parts-front k.extents.items k.texts k.backs t u (omega (arith, i.texts)) (omega (arith, i.backs)) in
    record {
      awaiting = record {
        texts = omega (arith, ap fronts_len e, i.texts, m, ap length f, length-append k.texts t);
        backs = omega (arith, ap backs_len e, i.backs, n, ap length g, length-append k.backs u);
        totals = h ∙ i.totals ∙ sym (ap sums_of x);
        heads =
            heads-same k.places k'.places (k.texts ++ t) k'.texts (k.backs ++ u) k'.backs j f g
            ∙ heads-front k.places k.texts k.backs t u (inside-more k.places _ _ _ _ (omega (arith, i.texts)) (omega (arith, i.backs)) i.inside)
            ∙ i.heads ∙ sym (ap last_heads x);
        inside = holds k.places k'.places k.extents.items k'.extents.items j e i.inside;
      };
      parts = x;
      part =
          ap (λ r. part_in p r (drop (backs_len k'.extents.items) k'.backs)) (ap (drop (fronts_len k'.extents.items)) f ∙ drop_at k.texts t (fronts_len k'.extents.items) (omega (arith, ap fronts_len e, i.texts)))
          ∙ ap (part_in p t) (ap (drop (backs_len k'.extents.items)) g ∙ drop_at k.backs u (backs_len k'.extents.items) (omega (arith, ap backs_len e, i.backs)));
    }

whole : (n : ℕ) (t : List ℕ) → n ≡ length t → take n t ≡ t
whole n t e = take_all n t (omega arith)

pub scope_part : (f b : ℕ) (t u : List ℕ) → f ≡ length t → b ≡ length u → part_in (extents.Scope f b) t u ≡ ScopeBegins t u
scope_part f b t u e g = ap (λ x. ScopeBegins x (take b u)) (whole f t e) ∙ ap (ScopeBegins t) (whole b u g)

pub resource_part : (f b : ℕ) (t u : List ℕ) → f ≡ length t → b ≡ length u → part_in (extents.Resource f b) t u ≡ ResourceBegins t u
resource_part f b t u e g = ap (λ x. ResourceBegins x (take b u)) (whole f t e) ∙ ap (ResourceBegins t) (whole b u g)

pub profile_part : (n : ℕ) (t u : List ℕ) → n ≡ length t → part_in (extents.Profile n) t u ≡ ProfileText t
profile_part n t u e = ap ProfileText (whole n t e)

-- the extent was put at the end
pub record IsGrown (k k' : Kept) (p : Extent) : Type 0 where
  pub kept : IsKept k'
  pub parts : parts_of k' ≡ parts_of k ++ awaited k p ∷ []

pub grown : (k k' : Kept) (p : Extent) (m n : ℕ) → IsAwaiting k p → k'.extents.items ≡ k.extents.items ++ p ∷ [] → k'.texts ≡ k.texts → k'.backs ≡ k.backs
    → k'.totals ≡ with_sum k.totals (awaited k p)
    → k'.places ≡ places_after k.places p m n → m ≡ fronts_len k.extents.items → n ≡ backs_len k.extents.items → IsGrown k k' p
grown k k' p m n i e f g h j a b =
    let x : parts_of k' ≡ parts_of k ++ awaited k p ∷ [] =
    ap (λ ps. parts_in ps k'.texts k'.backs) e ∙ ap (λ t. parts_in (k.extents.items ++ p ∷ []) t k'.backs) f ∙ ap (parts_in (k.extents.items ++ p ∷ []) k.texts) g
    ∙ parts-push k.extents.items p k.texts k.backs in
    let q : HeadPlaces = places_after k.places p m n in
    let here : AreInside k.places m n = inside-more k.places _ _ m n (omega (arith, a)) (omega (arith, b)) i.inside in
    let cut : part_in p (drop m k.texts) (drop n k.backs) ≡ awaited k p =
    ap (λ x. part_in p (drop x k.texts) (drop n k.backs)) a ∙ ap (λ x. part_in p (drop (fronts_len k.extents.items) k.texts) (drop x k.backs)) b in
    record {
      kept = record {
        texts = omega (arith, ap fronts_len e, fronts_push k.extents.items p, i.texts, ap length f);
        backs = omega (arith, ap backs_len e, backs_push k.extents.items p, i.backs, ap length g);
        totals = h ∙ ap (λ s. with_sum s (awaited k p)) i.totals ∙ sym (sums-push (parts_of k) (awaited k p)) ∙ sym (ap sums_of x);
        heads =
            heads-same q k'.places k.texts k'.texts k.backs k'.backs j f g
            ∙ heads-push k.places p k.texts k.backs m n (omega (arith, a, i.texts)) (omega (arith, b, i.backs)) here
            ∙ ap (with_head (heads_at k.places k.texts k.backs)) cut ∙ ap (λ l. with_head l (awaited k p)) i.heads ∙ sym (last_heads-append (parts_of k) (awaited k p ∷ [])) ∙ sym (ap last_heads x);
        inside =
            holds q k'.places (k.extents.items ++ p ∷ []) k'.extents.items j e
            (inside-after k.places p m n _ _ here (omega (arith, a, fronts_push k.extents.items p)) (omega (arith, b, backs_push k.extents.items p)));
      };
      parts = x;
    }

-- its part is the one that was wanted
pub added : (k k' j : Kept) (p : Extent) (t u : List ℕ) (part : RecordPart) → Awaits k k' p t u → part_in p t u ≡ part
    → parts_of j ≡ parts_of k' ++ awaited k' p ∷ [] → parts_of j ≡ parts_of k ++ part ∷ []
added k k' j p t u part w e h = h ∙ ap (λ ps. ps ++ awaited k' p ∷ []) w.parts ∙ ap (λ x. parts_of k ++ x ∷ []) (w.part ∙ e)

-- or its texts were dropped
pub dropped : (k k' : Kept) (p : Extent) → IsAwaiting k p → k'.extents.items ≡ k.extents.items → k'.texts ≡ take (length k.texts - front_len p) k.texts
    → k'.backs ≡ take (length k.backs - back_len p) k.backs → k'.totals ≡ k.totals → k'.places ≡ k.places → IsSame k k'
dropped k k' p i e f g h j =
    let m = length-take-le (length k.texts - front_len p) k.texts (omega arith) in
    let n = length-take-le (length k.backs - back_len p) k.backs (omega arith) in
    let x : parts_of k' ≡ parts_of k =
    ap (λ ps. parts_in ps k'.texts k'.backs) e ∙ ap (λ t. parts_in k.extents.items t k'.backs) f
    ∙ ap (parts_in k.extents.items (take (length k.texts - front_len p) k.texts)) g
    ∙ parts-cut k.extents.items k.texts k.backs (length k.texts - front_len p) (length k.backs - back_len p) (omega (arith, i.texts)) (omega (arith, i.backs)) in
    record {
      kept = record {
        texts = omega (arith, ap fronts_len e, i.texts, ap length f);
        backs = omega (arith, ap backs_len e, i.backs, ap length g);
        totals = h ∙ i.totals ∙ sym (ap sums_of x);
        heads =
            heads-same k.places k'.places (take (length k.texts - front_len p) k.texts) k'.texts (take (length k.backs - back_len p) k.backs) k'.backs j f g
            ∙ heads-cut k.places k.texts k.backs _ _ (inside-more k.places _ _ _ _ (omega (arith, i.texts, m)) (omega (arith, i.backs, n)) i.inside)
            ∙ i.heads ∙ sym (ap last_heads x);
        inside = holds k.places k'.places k.extents.items k'.extents.items j e i.inside;
      };
      parts = x;
    }

-- ---- marks

pub marked : (m : Mark) (k : Kept) → IsKept k → m.extents ≡ length k.extents.items → m.texts ≡ length k.texts → m.backs ≡ length k.backs → m.totals ≡ k.totals → m.places ≡ k.places
    → IsMark m (parts_of k)
marked m k i e f g h j = record {
  extents = e ∙ sym (parts-count k.extents.items k.texts k.backs);
  texts = f ∙ sym i.texts ∙ sym (parts-texts k.extents.items k.texts k.backs (omega (arith, i.texts)));
  backs = g ∙ sym i.backs ∙ sym (parts-closings k.extents.items k.texts k.backs (omega (arith, i.backs)));
  totals = h ∙ i.totals;
  heads =
      heads-same k.places m.places k.texts (texts_run (parts_of k)) k.backs (closings_run (parts_of k)) j (texts-run k.extents.items k.texts k.backs i.texts)
      (closings-run k.extents.items k.texts k.backs i.backs)
      ∙ i.heads;
  inside =
      let t = parts-texts k.extents.items k.texts k.backs (omega (arith, i.texts)) in
      let u = parts-closings k.extents.items k.texts k.backs (omega (arith, i.backs)) in
      subst (λ z. AreInside z (texts_len (parts_of k)) (closings_len (parts_of k))) (sym j)
      (inside-more k.places _ _ _ _ (omega (arith, t)) (omega (arith, u)) i.inside);
}

-- cut back to a mark
pub record IsBack (m : Mark) (k k' : Kept) : Type 0 where
  pub kept : IsKept k'
  pub parts : parts_of k' ≡ take m.extents (parts_of k)

pub back : (m : Mark) (k k' : Kept) → IsKept k → CanBeCut m (parts_of k) → k'.extents.items ≡ take m.extents k.extents.items → k'.texts ≡ take m.texts k.texts
    → k'.backs ≡ take m.backs k.backs → k'.totals ≡ m.totals → k'.places ≡ m.places → IsBack m k k'
back m k k' i c e f g h j =
    let r : IsCut k.extents.items k.texts k.backs m.extents m.texts m.backs =
    cut-extents k.extents.items k.texts k.backs m.extents m.texts m.backs i.texts i.backs c.mark.texts c.mark.backs in
    let x : parts_of k' ≡ take m.extents (parts_of k) =
    ap (λ ps. parts_in ps k'.texts k'.backs) e ∙ ap (λ t. parts_in (take m.extents k.extents.items) t k'.backs) f
    ∙ ap (parts_in (take m.extents k.extents.items) (take m.texts k.texts)) g ∙ r.parts in
    let rest : List Extent = take m.extents k.extents.items in
    let t : List ℕ = take m.texts k.texts in
    let u : List ℕ = take m.backs k.backs in
    let kept : List RecordPart = take m.extents (parts_of k) in
    record {
      kept = record {
        texts = ap fronts_len e ∙ r.texts ∙ sym (ap length f);
        backs = ap backs_len e ∙ r.backs ∙ sym (ap length g);
        totals = h ∙ c.mark.totals ∙ sym (ap sums_of x);
        heads =
            heads-same m.places k'.places (texts_run kept) k'.texts (closings_run kept) k'.backs j (f ∙ sym (texts-run rest t u r.texts) ∙ ap texts_run r.parts)
            (g ∙ sym (closings-run rest t u r.backs) ∙ ap closings_run r.parts)
            ∙ c.mark.heads ∙ sym (ap last_heads x);
        inside =
            let v : texts_len kept ≡ fronts_len rest = sym (ap texts_len r.parts) ∙ parts-texts rest t u (omega (arith, r.texts)) in
            let w : closings_len kept ≡ backs_len rest = sym (ap closings_len r.parts) ∙ parts-closings rest t u (omega (arith, r.backs)) in
            holds m.places k'.places rest k'.extents.items j e (inside-more m.places _ _ _ _ (omega (arith, v)) (omega (arith, w)) c.mark.inside);
      };
      parts = x;
    }
