-- Drafts: they begin, gain messages at their ends, are cut back, and are canonical.
use Rattle.std.proofs.Common.{◌≡◌, ℕ, zero, suc, List, [], ◌∷◌, ◌++◌, length, take, map, refl, sym, ap, ◌∙◌, subst}
use mathlib.Core.Path.{fun_ext}
use Rattle.std.proofs.lemmas.List.{length-map}
use Rattle.std.specs.List.{flat_map}
use Rattle.schema.specs.Shape.{Shape, End, Table}
use Rattle.meaning.specs.Tree.{Tree, Nil}
use Rattle.meaning.specs.Tables.{Tables, entry, with_new}
use Rattle.meaning.specs.Meaning.{blank, uses, resolve}
use Rattle.meaning.specs.Canonical.{Covers, zeros, tables_of, renumber, entries, values, records, record_list}
use Rattle.meaning.specs.Renumbering.{IsDeduplicated, Written, WrittenEach, Drafted}
use Rattle.meaning.proofs.Places.{each_all, grown-begins, map-same}
use Rattle.meaning.proofs.Growth.{grown_by, renumber-grown, written_none, written_append, written_rows}
use Rattle.meaning.proofs.Entries.{begins}
use Rattle.meaning.proofs.Indexes.{written_plain}

-- a draft of no meanings has a blank entry in each table
pub draft_begins : (s : Shape) (k : Tables) → ((T : Table) → k T ≡ blank (entry T) ∷ []) → Drafted s k [] []
draft_begins s k h =
    let b : (values k ≡ zeros) × IsDeduplicated k = begins k h in
    record { deduplicated = b.1; written = subst (λ v. WrittenEach s zeros v [] []) (sym b.0) (written_none s zeros) }

-- what is written after a draft's records makes a draft of all
pub draft_joined : {s : Shape} {k k' : Tables} {ms ns xs ys : List Tree}
    → Drafted s k ms xs → IsDeduplicated k' → WrittenEach s (values k) (values k') ns ys → Drafted s k' (ms ++ ns) (xs ++ ys)
draft_joined r s q = record { deduplicated = s; written = written_append r.written q }

-- ---- the end

-- what was written from the zero values on is in the canonical tables
pub ends : (s : Shape) (k : Tables) (m x : Tree) → IsDeduplicated k → Written s zeros (values k) m x
    → ((T : Table) → k T ≡ entries (tables_of s m) T) × (x ≡ renumber (tables_of s m) s m)
ends s k m x h r =
    let e : values k ≡ tables_of s m = fun_ext r.walked in
    ((λ T. sym (h.same T) ∙ ap (λ z. entries z T) e), r.renumbered ∙ ap (λ z. renumber z s m) e)

-- so a draft has the canonical entries and records of its meanings
pub draft_canonical : (s : Shape) (k : Tables) (ms xs : List Tree) → Drafted s k ms xs
    → ((T : Table) → k T ≡ entries (tables_of (records s) (record_list ms)) T) × (record_list xs ≡ renumber (tables_of (records s) (record_list ms)) (records s) (record_list ms))
draft_canonical s k ms xs r =
    ends (records s) k (record_list ms) (record_list xs) r.deduplicated
    (written_rows {n = 1} r.written (written_plain End refl (values k) Nil))

-- ---- going back

-- the front of two lists
take-append : (ks ls : List Tree) → take (length ks) (ks ++ ls) ≡ ks
take-append [] [] = refl
take-append [] (l ∷ ls) = refl
take-append (k ∷ ks) ls = ap (λ l. k ∷ l) (take-append ks ls)

-- cutting before and after a map
take-map : (f : Tree → Tree) (n : ℕ) (xs : List Tree) → take n (map f xs) ≡ map f (take n xs)
take-map f zero xs = refl
take-map f (suc n) [] = refl
take-map f (suc n) (x ∷ xs) = ap (λ l. f x ∷ l) (take-map f n xs)

-- entries that are cut to their old lengths are the old ones, whatever their values gained in between
grown-cut : (k k' : Tables) (us : Table → List Tree) → IsDeduplicated k → IsDeduplicated k' → ((T : Table) → values k' T ≡ with_new (values k T) (us T))
    → (T : Table) → take (length (k T)) (k' T) ≡ k T
grown-cut k k' us h h' r T =
    let v : Tables = values k in
    let w : Tables = values k' in
    let g = grown-begins (us T) (v T) in
    let l : length (k T) ≡ length (v T) = sym (length-map (k T) (resolve k (entry T))) in
    let f : Tree → Tree = renumber w (entry T) in
    let front : take (length (v T)) (w T) ≡ v T = ap (take (length (v T))) (r T ∙ g.1) ∙ take-append (v T) g.0 in
    ap (λ n. take n (k' T)) l ∙ ap (take (length (v T))) (sym (h'.same T)) ∙ take-map f (length (v T)) (w T) ∙ ap (map f) front
    ∙ map-same f (renumber v (entry T)) (v T)
    (each_all (Covers v (entry T)) (λ y. f y ≡ renumber v (entry T) y) (renumber-grown v w (grown_by v w us r) (entry T)) (v T) (h.closed T))
    ∙ h.same T

-- a message, or a list of them, is taken back
pub cut_back : {s : Shape} (k k' : Tables) {m x : Tree} → IsDeduplicated k → IsDeduplicated k' → Written s (values k) (values k') m x
    → (T : Table) → take (length (k T)) (k' T) ≡ k T
cut_back {s} k k' {m} {x} h h' r = grown-cut k k' (λ T. uses T s m) h h' r.walked

pub cut_back_each : {s : Shape} (k k' : Tables) {ms xs : List Tree} → IsDeduplicated k → IsDeduplicated k' → WrittenEach s (values k) (values k') ms xs
    → (T : Table) → take (length (k T)) (k' T) ≡ k T
cut_back_each {s} k k' {ms} {xs} h h' r = grown-cut k k' (λ T. flat_map (uses T s) ms) h h' r.walked
