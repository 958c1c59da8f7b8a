-- The keys of a run by their rows: one that is read, one more, and fewer.
use Rattle.std.proofs.Common.{◌≡◌, ℕ, zero, suc, ◌+◌, ◌-◌, ◌<◌, ◌≤◌, ◌^◌, inl, inr, List, [], ◌∷◌, ◌++◌, length, take, drop, get_or, Some, refl, sym, ap, ◌∙◌, subst, arith, length-append}
use Rattle.std.specs.Prelude.{slice_get}
use Rattle.std.proofs.Math.Seq.{take-length}
use Rattle.std.proofs.lemmas.List.{length-drop, length-take, length-take-le, drop-drop, drop-take, drop-append-le, take-append-le, take-take, nil_from_length, get_or_append_left, get_or_push, get_or_read_under, get_or-take}
use Rattle.tables.specs.declared.key_row.KeyRow.{KeyRow}
use Rattle.tables.specs.Keys.{Interned, IsAbsent, IsAt}
use Rattle.tables.proofs.Places.{at_either, at_in_part, at_within}
use Rattle.tables.specs.KeyRun.{AreEnds, AreHashed, AreKept, IsMissing, IsPut, begin_from, bucket, bucket_at, hash_at, keys_from, keys_in}
use Rattle.tables.specs.Chains.{AreChains, LeadsToLast}
use Rattle.tables.proofs.ChainSteps.{Searches, chains_same, search_begins}

-- there are as many keys as rows
pub length-keys : (s : ℕ) (rows : List KeyRow) (run : List ℕ) → length (keys_from s rows run) ≡ length rows
unfolding keys_from
length-keys s [] run = refl
length-keys s (r ∷ rs) run = ap suc (length-keys r.end rs (drop (r.end - s) run))

pub at_row : (rows : List KeyRow) (run key : List ℕ) (p : ℕ) → IsAt (keys_from 0 rows run) key p → p < length rows
at_row rows run key p a = omega (arith, at_within (keys_from 0 rows run) key p a, length-keys 0 rows run)

-- ---- where keys begin and end

pub begin_bounds : (s : ℕ) (rows : List KeyRow) (run : List ℕ) (p : ℕ) → AreEnds s rows run → (s ≤ begin_from s rows p) × (begin_from s rows p ≤ s + length run)
unfolding AreEnds begin_from
begin_bounds s rows run zero h = (omega arith, omega arith)
begin_bounds s [] run (suc p) h = (omega arith, omega arith)
begin_bounds s (r ∷ rs) run (suc p) h =
    let b = begin_bounds r.end rs (drop (r.end - s) run) p h.2 in
    (omega (arith, b.0, h.0), omega (arith, b.1, h.0, h.1, length-drop (r.end - s) run))

pub end_bounds : (s : ℕ) (rows : List KeyRow) (run : List ℕ) (p : ℕ) (d : KeyRow) → AreEnds s rows run → p < length rows
    → (begin_from s rows p ≤ (get_or rows p d).end) × ((get_or rows p d).end ≤ s + length run)
unfolding AreEnds begin_from
end_bounds s [] run p d h l = absurd (omega arith)
end_bounds s (r ∷ rs) run zero d h l = (h.0, h.1)
end_bounds s (r ∷ rs) run (suc p) d h l =
    let b = end_bounds r.end rs (drop (r.end - s) run) p d h.2 (omega arith) in
    (b.0, omega (arith, b.1, h.0, h.1, length-drop (r.end - s) run))

-- a key begins where the one before it ends
begin_after : (s : ℕ) (rows : List KeyRow) (p : ℕ) (d : KeyRow) → p < length rows → begin_from s rows (suc p) ≡ (get_or rows p d).end
unfolding begin_from
begin_after s [] p d l = absurd (omega arith)
begin_after s (r ∷ rs) zero d l = refl
begin_after s (r ∷ rs) (suc p) d l = begin_after r.end rs p d (omega arith)

pub begin_read : (s : ℕ) (rows : List KeyRow) (p q : ℕ) (d : KeyRow) → p ≡ q + 1 → q < length rows → begin_from s rows p ≡ (get_or rows q d).end
begin_read s rows p q d e l = let f : p ≡ suc q = omega arith in ap (begin_from s rows) f ∙ begin_after s rows q d l

pub begin_first : (s : ℕ) (rows : List KeyRow) → begin_from s rows 0 ≡ s
unfolding begin_from
begin_first s rows = refl

-- ---- a key that is read

pub key_read : (s : ℕ) (rows : List KeyRow) (run : List ℕ) (p : ℕ) (d : KeyRow) → AreEnds s rows run → p < length rows
    → slice_get (keys_from s rows run) p ≡ Some (take ((get_or rows p d).end - begin_from s rows p) (drop (begin_from s rows p - s) run))
unfolding keys_from AreEnds begin_from
key_read s [] run p d h l = absurd (omega arith)
key_read s (r ∷ rs) run zero d h l = let e : s - s ≡ 0 = omega arith in ap (λ n. Some (take (r.end - s) (drop n run))) (sym e)
key_read s (r ∷ rs) run (suc p) d h l =
    let b = begin_from r.end rs p in
    let bounds = begin_bounds r.end rs (drop (r.end - s) run) p h.2 in
    let e : (r.end - s) + (b - r.end) ≡ b - s = omega (arith, bounds.0, h.0) in
    key_read r.end rs (drop (r.end - s) run) p d h.2 (omega arith)
    ∙ ap (λ t. Some (take ((get_or rs p d).end - b) t)) (drop-drop (b - r.end) (r.end - s) run ∙ ap (λ n. drop n run) e)

-- ---- one key more

pub keys_put : (s : ℕ) (rows : List KeyRow) (run bytes : List ℕ) (row : KeyRow) → AreEnds s rows run → row.end ≡ s + length run + length bytes
    → keys_from s (rows ++ row ∷ []) (run ++ bytes) ≡ keys_from s rows run ++ bytes ∷ []
unfolding keys_from AreEnds
keys_put s [] run bytes row h e =
    let n : row.end - s ≡ length bytes = omega arith in
    ap (λ t. take (row.end - s) (t ++ bytes) ∷ []) (nil_from_length run h) ∙ ap (λ m. take m bytes ∷ []) n ∙ ap (λ t. t ∷ []) (take-length bytes)
keys_put s (r ∷ rs) run bytes row h e =
    let k = r.end - s in
    let l : k ≤ length run = omega (arith, h.0, h.1) in
    let f : row.end ≡ r.end + length (drop k run) + length bytes = omega (arith, e, h.0, h.1, length-drop k run) in
    ap (λ t. t ∷ keys_from r.end (rs ++ row ∷ []) (drop k (run ++ bytes))) (take-append-le k run bytes l)
    ∙ ap (λ t. take k run ∷ t) (ap (keys_from r.end (rs ++ row ∷ [])) (drop-append-le k run bytes l) ∙ keys_put r.end rs (drop k run) bytes row h.2 f)

pub ends_put : (s : ℕ) (rows : List KeyRow) (run bytes : List ℕ) (row : KeyRow) → AreEnds s rows run → row.end ≡ s + length run + length bytes
    → AreEnds s (rows ++ row ∷ []) (run ++ bytes)
unfolding AreEnds
ends_put s [] run bytes row h e =
    let n = length-append run bytes in (omega arith, omega (arith, n), omega (arith, n, length-drop (row.end - s) (run ++ bytes)))
ends_put s (r ∷ rs) run bytes row h e =
    let k = r.end - s in
    let l : k ≤ length run = omega (arith, h.0, h.1) in
    let f : row.end ≡ r.end + length (drop k run) + length bytes = omega (arith, e, h.0, h.1, length-drop k run) in (
      h.0,
      omega (arith, h.1, length-append run bytes),
      subst (AreEnds r.end (rs ++ row ∷ [])) (sym (drop-append-le k run bytes l)) (ends_put r.end rs (drop k run) bytes row h.2 f),
    )

-- ---- fewer keys

-- what goes before the cut, and behind the first key
cut_behind : (s m b : ℕ) (run : List ℕ) → s ≤ m → m ≤ b → drop (m - s) (take (b - s) run) ≡ take (b - m) (drop (m - s) run)
cut_behind s m b run l i = let e : b - s ≡ (m - s) + (b - m) = omega arith in ap (λ n. drop (m - s) (take n run)) e ∙ drop-take (m - s) (b - m) run

pub keys_cut : (s : ℕ) (rows : List KeyRow) (run : List ℕ) (n : ℕ) → AreEnds s rows run
    → keys_from s (take n rows) (take (begin_from s rows n - s) run) ≡ take n (keys_from s rows run)
unfolding keys_from AreEnds begin_from
keys_cut s rows run zero h = refl
keys_cut s [] run (suc n) h = refl
keys_cut s (r ∷ rs) run (suc n) h =
    let b = begin_from r.end rs n in
    let k = r.end - s in
    let bounds = begin_bounds r.end rs (drop k run) n h.2 in
    ap (λ t. t ∷ keys_from r.end (take n rs) (drop k (take (b - s) run))) (take-take k (b - s) run (omega (arith, bounds.0)))
    ∙ ap (λ t. take k run ∷ t) (ap (keys_from r.end (take n rs)) (cut_behind s r.end b run h.0 bounds.0) ∙ keys_cut r.end rs (drop k run) n h.2)

pub ends_cut : (s : ℕ) (rows : List KeyRow) (run : List ℕ) (n : ℕ) → AreEnds s rows run → AreEnds s (take n rows) (take (begin_from s rows n - s) run)
unfolding AreEnds begin_from
ends_cut s rows run zero h = omega (arith, length-take (s - s) run)
ends_cut s [] run (suc n) h = omega (arith, length-take (s - s) run)
ends_cut s (r ∷ rs) run (suc n) h =
    let b = begin_from r.end rs n in
    let k = r.end - s in
    let bounds = begin_bounds r.end rs (drop k run) n h.2 in (
      h.0,
      omega (arith, h.0, h.1, bounds.0, bounds.1, length-drop k run, length-take (b - s) run),
      subst (AreEnds r.end (take n rs)) (sym (cut_behind s r.end b run h.0 bounds.0)) (ends_cut r.end rs (drop k run) n h.2),
    )

-- ---- hashes

pub hash_front : (rows : List KeyRow) (row : KeyRow) (p : ℕ) → p < length rows → hash_at (rows ++ row ∷ []) p ≡ hash_at rows p
hash_front rows row p l = ap (λ r. r.hash) (get_or_append_left rows (row ∷ []) (record { end = 0; hash = 0 }) p l)

pub hash_last : (rows : List KeyRow) (row : KeyRow) (p : ℕ) → length rows ≡ p → hash_at (rows ++ row ∷ []) p ≡ row.hash
hash_last rows row p e = ap (λ r. r.hash) (get_or_push rows row (record { end = 0; hash = 0 }) p e)

pub hash_cut : (rows : List KeyRow) (n p : ℕ) → p < n → hash_at (take n rows) p ≡ hash_at rows p
hash_cut rows n p l = ap (λ r. r.hash) (get_or-take n rows p (record { end = 0; hash = 0 }) l)

-- ---- no keys

ends_none : AreEnds 0 [] []
unfolding AreEnds
ends_none = refl

pub keys_none : keys_from 0 [] [] ≡ []
unfolding keys_from
keys_none = refl

pub none_kept : AreKept [] [] [] []
none_kept = record {
  ends = ends_none;
  chains = record { ends = λ b l. absurd (omega arith); steps = λ p l. absurd (omega arith) };
  room = omega arith;
  steps = omega arith;
  few = omega arith;
}

-- ---- what is kept of keys

-- a search begins at a bucket's head
pub find_begins : (run : List ℕ) (rows : List KeyRow) (heads links key : List ℕ) (hash many b l : ℕ) → AreKept run rows heads links → many ≡ length heads
    → b ≡ bucket many hash → b < many → l ≡ get_or heads b l → Searches (hash_at rows) (length heads) (length rows) hash (IsAt (keys_in rows run) key) l
find_begins run rows heads links key hash many b l k m e w g =
    let first : b ≡ bucket (length heads) hash = e ∙ ap (λ n. bucket n hash) m in
    let within : b < length heads = omega (arith, w, m) in
    let h : LeadsToLast (bucket_at rows (length heads)) (length rows) (bucket (length heads) hash) (get_or heads b 0) =
    subst (λ c. LeadsToLast (bucket_at rows (length heads)) (length rows) c (get_or heads b 0)) first (k.chains.ends b within) in
    search_begins (hash_at rows) (length heads) (length rows) hash (IsAt (keys_in rows run) key) (at_row rows run key) l
    (subst (LeadsToLast (bucket_at rows (length heads)) (length rows) (bucket (length heads) hash)) (sym (get_or_read_under heads b many l 0 g w m)) h)

-- one key more is kept
pub put_kept : (run : List ℕ) (rows : List KeyRow) (key : List ℕ) (hash : ℕ) (run' : List ℕ) (rows' : List KeyRow) (heads links heads' links' : List ℕ) → AreEnds 0 rows run
    → length rows < 2 ^ 31 - 1 → length rows < length heads → length heads ≤ length links → IsPut run rows key hash run' rows' → length heads' ≡ length heads
    → length links' ≡ length links → AreChains (bucket_at rows' (length heads)) (length rows + 1) heads' links' → AreKept run' rows' heads' links'
put_kept run rows key hash run' rows' heads links heads' links' ends few room steps p h l chains =
    let row : KeyRow = record { end = length run + length key; hash = hash } in
    let many : length rows' ≡ length rows + 1 = ap length p.row ∙ length-append rows (row ∷ []) in
    let end : row.end ≡ 0 + length run + length key = omega arith in
    record {
      ends = rw (p.row, p.bytes) (ends_put 0 rows run key row ends end);
      chains = subst (λ m. AreChains (bucket_at rows' m) (length rows') heads' links') (sym h)
          (subst (λ n. AreChains (bucket_at rows' (length heads)) n heads' links') (sym many) chains);
      room = omega (arith, many, h, room);
      steps = omega (arith, h, l, steps);
      few = omega (arith, many, few);
    }

-- and so are the first keys
pub cut_kept : (run : List ℕ) (rows : List KeyRow) (heads heads' links : List ℕ) (count : ℕ) (run' : List ℕ) (rows' : List KeyRow) → AreKept run rows heads links → count ≤ length rows
    → run' ≡ take (begin_from 0 rows count) run → rows' ≡ take count rows → length heads' ≡ length heads
    → AreChains (bucket_at rows (length heads)) count heads' links → AreKept run' rows' heads' links
cut_kept run rows heads heads' links count run' rows' k within e f h chains =
    let many : length rows' ≡ count = ap length f ∙ length-take-le count rows within in
    let start : begin_from 0 rows count - 0 ≡ begin_from 0 rows count = omega arith in
    let same : (p : ℕ) → p < count → bucket_at rows (length heads) p ≡ bucket_at rows' (length heads) p =
    λ p l. ap (bucket (length heads)) (sym (ap (λ r. hash_at r p) f ∙ hash_cut rows count p l)) in
    record {
      ends = rw (f, e) (subst (λ n. AreEnds 0 (take count rows) (take n run)) start (ends_cut 0 rows run count k.ends));
      chains = subst (λ m. AreChains (bucket_at rows' m) (length rows') heads' links) (sym h)
          (subst (λ n. AreChains (bucket_at rows' (length heads)) n heads' links) (sym many)
          (chains_same (bucket_at rows (length heads)) (bucket_at rows' (length heads)) count heads' links same chains));
      room = omega (arith, many, h, within, k.room);
      steps = omega (arith, h, k.steps);
      few = omega (arith, many, within, k.few);
    }

-- ---- keys that are found, put and cut

-- a key that no row of its hash has is absent
pub missing_absent : (hash_of : List ℕ → ℕ) (rows : List KeyRow) (run key : List ℕ) (hash : ℕ) → AreHashed hash_of rows run → hash ≡ hash_of key → IsMissing rows run key hash
    → IsAbsent (keys_in rows run) key
missing_absent hash_of rows run key hash h e miss place a = miss place a (h key place a ∙ sym e)

module _ (run : List ℕ) (rows : List KeyRow) (key : List ℕ) (hash : ℕ) (run' : List ℕ) (rows' : List KeyRow) (ends : AreEnds 0 rows run) (p : IsPut run rows key hash run' rows') where
  pub put_keys : keys_in rows' run' ≡ keys_in rows run ++ key ∷ []
  put_keys =
      let row : KeyRow = record { end = length run + length key; hash = hash } in
      let end : row.end ≡ 0 + length run + length key = omega arith in
      rw (p.row, p.bytes) (keys_put 0 rows run key row ends end)

  pub put_hashed : (hash_of : List ℕ → ℕ) → hash ≡ hash_of key → AreHashed hash_of rows run → AreHashed hash_of rows' run'
  put_hashed hash_of e h other place a =
      let row : KeyRow = record { end = length run + length key; hash = hash } in
      elim (at_either (keys_in rows run) key other place (subst (λ keys. IsAt keys other place) put_keys a)) [
        | inl b ↦ ap (λ r. hash_at r place) p.row ∙ hash_front rows row place (at_row rows run other place b) ∙ h other place b
        | inr b ↦
            let last : length rows ≡ place = omega (arith, b.0, length-keys 0 rows run) in
            ap (λ r. hash_at r place) p.row ∙ hash_last rows row place last ∙ e ∙ ap hash_of (sym b.1)
      ]

  pub put_interned : (hash_of : List ℕ → ℕ) → hash ≡ hash_of key → AreHashed hash_of rows run → IsMissing rows run key hash → (place : ℕ) → place ≡ length (keys_in rows run)
      → Interned (keys_in rows run) key (keys_in rows' run') place
  put_interned hash_of e h miss place last = inr (record { absent = missing_absent hash_of rows run key hash h e miss; last = last; grown = put_keys })

pub cut_keys : (run : List ℕ) (rows : List KeyRow) (count : ℕ) → AreEnds 0 rows run
    → keys_in (take count rows) (take (begin_from 0 rows count) run) ≡ take count (keys_in rows run)
cut_keys run rows count ends =
    let start : begin_from 0 rows count - 0 ≡ begin_from 0 rows count = omega arith in
    ap (λ n. keys_in (take count rows) (take n run)) (sym start) ∙ keys_cut 0 rows run count ends

pub cut_hashed : (run : List ℕ) (rows : List KeyRow) (count : ℕ) (run' : List ℕ) (rows' : List KeyRow) → keys_in rows' run' ≡ take count (keys_in rows run)
    → rows' ≡ take count rows → (hash_of : List ℕ → ℕ) → AreHashed hash_of rows run → AreHashed hash_of rows' run'
cut_hashed run rows count run' rows' e f hash_of h key place a =
    let b : IsAt (keys_in rows run) key place × (place < count) = at_in_part count (keys_in rows run) key place (subst (λ keys. IsAt keys key place) e a) in
    ap (λ r. hash_at r place) f ∙ hash_cut rows count place b.1 ∙ h key place b.0
