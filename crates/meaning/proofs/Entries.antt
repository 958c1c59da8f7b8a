-- An entry that goes into its table, with the index that it has there.
use Rattle.std.proofs.Common.{◌≡◌, ℕ, [], ◌∷◌, map, Bool, true, false, cond, refl, sym, ap, ◌∙◌, subst, pos}
use mathlib.Core.Path.{fun_ext}
use Rattle.schema.specs.Each.{Each}
use Rattle.schema.specs.Shape.{Shape, Index, Table}
use Rattle.meaning.specs.Tree.{Tree, Integer}
use Rattle.meaning.specs.Tables.{Tables, IsSound, entry, same_table, place, with_one, with_new, Distinct}
use Rattle.meaning.specs.Meaning.{blank, resolve, uses}
use Rattle.meaning.specs.Canonical.{zeros, Covers, renumber, entries, values}
use Rattle.meaning.specs.Renumbering.{IsDeduplicated, Entered, Written}
use Rattle.meaning.proofs.Places.{each_all, each_with_new, place-map, map-with_one, map-same, map-back, with_new-append, distinct-with_new}
use Rattle.meaning.proofs.Soundness.{same_table-true, each_here, entry_sound}
use Rattle.meaning.proofs.Resolution.{covering}
use Rattle.meaning.proofs.Closure.{undone, zero-covered}
use Rattle.meaning.proofs.Orders.{uses-index}
use Rattle.meaning.proofs.Zeros.{zeros_first, zero-had, renumber-zero}
use Rattle.meaning.proofs.Growth.{Grown, grown_by, covers_grown, renumber-grown, written_covers}

-- ---- the entries of values

-- each list of values covers what its values name
abbrev pub Closed : Tables → Type 0
Closed v = (T : Table) → Each (Covers v (entry T)) (v T)

-- closed lists are the values of their entries
pub values-entries : (v : Tables) → Closed v → values (entries v) ≡ v
values-entries v c = fun_ext (λ T. map-back (renumber v (entry T)) (resolve (entries v) (entry T)) (v T) (undone v c T))

-- so their entries have them as values
pub deduplicated_if : (d v : Tables) → ((T : Table) → entries v T ≡ d T) → Closed v → ((T : Table) → Distinct (d T)) → (values d ≡ v) × IsDeduplicated d
deduplicated_if d v e c u =
    let p : entries v ≡ d = fun_ext e in
    let q : values d ≡ v = ap values (sym p) ∙ values-entries v c in
    (q, record { distinct = u; same = λ T. ap (λ z. entries z T) q ∙ e T; closed = subst (λ z. Closed z) (sym q) c })

-- Values with equal entries are equal.
pub written_apart : (v : Tables) (s : Shape) → IsSound s → (m n : Tree) → Covers v s m → Covers v s n → renumber v s m ≡ renumber v s n → m ≡ n
written_apart v s i m n h l e = sym (covering v s i m h) ∙ ap (resolve (entries v) s) e ∙ covering v s i n l

-- the values of tables of blank entries are the zero values
pub begins : (d : Tables) → ((T : Table) → d T ≡ blank (entry T) ∷ []) → (values d ≡ zeros) × IsDeduplicated d
begins d h = deduplicated_if d zeros
    (λ T. ap (λ y. y ∷ []) (renumber-zero zeros zeros_first (entry T) (entry_sound T)) ∙ sym (h T))
    (λ T. (zero-covered zeros (zero-had zeros zeros_first) (entry T) (entry_sound T), tt))
    (λ T. rw (h T) (refl, tt))

-- ---- one more entry

-- The values w have the entries k and are closed and cover m; the entry x of m goes into k, which becomes k'.
module _ (w k k' : Tables) (T : Table) (m x : Tree) (e : (U : Table) → entries w U ≡ k U) (c : Closed w)
    (h : Covers w (entry T) m) (q : x ≡ renumber w (entry T) m) (i : Entered T x k k') (u : (U : Table) → Distinct (k U)) where
  -- the values then
  unfoldable next : Tables
  next U = with_new (w U) (cond (same_table U T) (m ∷ []) [])

  next-grown : Grown w next
  unfolding next
  next-grown = grown_by w next (λ U. cond (same_table U T) (m ∷ []) []) (λ U. refl)

  next-closed : Closed next
  unfolding next
  next-closed U =
      each_with_new (Covers next (entry U)) (cond (same_table U T) (m ∷ []) []) (w U)
      (each_all (Covers w (entry U)) (Covers next (entry U)) (covers_grown next-grown (entry U)) (w U) (c U))
      (each_here (Covers next (entry U)) U T m (λ f. subst (λ V. Covers next (entry V) m) (sym f) (covers_grown next-grown (entry T) m h)))

  next-kept : (U : Table) → map (renumber next (entry U)) (w U) ≡ k U
  next-kept U = map-same (renumber next (entry U)) (renumber w (entry U)) (w U)
      (each_all (Covers w (entry U)) (λ y. renumber next (entry U) y ≡ renumber w (entry U) y) (renumber-grown w next next-grown (entry U)) (w U) (c U)) ∙ e U

  next-value : x ≡ renumber next (entry T) m
  next-value = q ∙ sym (renumber-grown w next next-grown (entry T) m h)

  next-undone : (U : Table) → Each (λ y. resolve (entries next) (entry U) (renumber next (entry U) y) ≡ y) (w U)
  next-undone U = each_all (Covers w (entry U)) (λ y. resolve (entries next) (entry U) (renumber next (entry U) y) ≡ y)
      (λ y g. covering next (entry U) (entry_sound U) y (covers_grown next-grown (entry U) y g)) (w U) (c U)

  next-back : resolve (entries next) (entry T) (renumber next (entry T) m) ≡ m
  next-back = covering next (entry T) (entry_sound T) m (covers_grown next-grown (entry T) m h)

  -- the list of values and that of entries gain one element at the same place
  next-entries : (U : Table) → entries next U ≡ k' U
  unfolding next
  next-entries U = by_test (same_table U T) refl ∙ sym (i U)
    where
      by_test : (b : Bool) → same_table U T ≡ b
          → map (renumber next (entry U)) (with_new (w U) (cond b (m ∷ []) [])) ≡ with_new (k U) (cond b (x ∷ []) [])
      by_test false f = next-kept U
      by_test true f =
          let g : Tree → Tree = renumber next (entry U) in
          let v : x ≡ g m = subst (λ V. x ≡ renumber next (entry V) m) (sym (same_table-true U T f)) next-value in
          let z : resolve (entries next) (entry U) (g m) ≡ m =
          subst (λ V. resolve (entries next) (entry V) (renumber next (entry V) m) ≡ m) (sym (same_table-true U T f)) next-back in
          map-with_one g (resolve (entries next) (entry U)) (w U) m (next-undone U) z
          ∙ ap (λ l. with_one l (g m)) (next-kept U) ∙ ap (with_one (k U)) (sym v)

  next-place : place (k' T) x ≡ place (next T) m
  next-place = ap (λ l. place l x) (sym (next-entries T)) ∙ ap (place (entries next T)) next-value
      ∙ place-map (renumber next (entry T)) (resolve (entries next) (entry T)) (next T) m (undone next next-closed T) next-back

  next-deduplicated : (values k' ≡ next) × IsDeduplicated k'
  next-deduplicated = deduplicated_if k' next next-entries next-closed (λ U. rw (i U) (distinct-with_new (cond (same_table U T) (x ∷ []) []) (k U) (u U)))

-- An entry whose fields were written goes into its table, and its place there is the index of its value.
pub written_index : (v k k' : Tables) (T : Table) (m x : Tree) (j : ℕ) → IsDeduplicated k → Written (entry T) v (values k) m x
    → Entered T x k k' → j ≡ place (k' T) x → IsDeduplicated k' × Written (Index T (entry T)) v (values k') m (Integer (pos j))
unfolding next
written_index v k k' T m x j s r h p =
    let n : Tables = next (values k) k k' T m x s.same s.closed (written_covers r) r.renumbered h s.distinct in
    let q : (values k' ≡ n) × IsDeduplicated k' = next-deduplicated (values k) k k' T m x s.same s.closed (written_covers r) r.renumbered h s.distinct in
    let z : place (k' T) x ≡ place (n T) m = next-place (values k) k k' T m x s.same s.closed (written_covers r) r.renumbered h s.distinct in (
      q.1,
      record {
        walked = λ U. ap (λ y. y U) q.0 ∙ ap (λ l. with_new l (cond (same_table U T) (m ∷ []) [])) (r.walked U)
            ∙ sym (ap (with_new (v U)) (uses-index U T (entry T) refl m) ∙ with_new-append (uses U (entry T) m) (cond (same_table U T) (m ∷ []) []) (v U));
        renumbered = ap (λ y. Integer (pos y)) (p ∙ z) ∙ ap (λ y. Integer (pos (place (y T) m))) (sym q.0);
      },
    )
