-- What code with tables and a memo shows at each index.
use Rattle.std.proofs.Common.{◌≡◌, ℕ, zero, suc, ◌<◌, List, [], ◌∷◌, ◌++◌, length, get_or, replicate, set, map, Option, Some, None, Bool, true, false, cond, refl, sym, ap, ◌∙◌, subst, arith, ⊎_elim, pos}
use Rattle.std.proofs.lemmas.List.{length-replicate, length-set, get_or-set_other, get_or-map, length-map}
use Rattle.std.proofs.lemmas.Grind.{get_or-set_at}
use Rattle.std.proofs.lemmas.Bool.{cases_eq, and_parts, and_from}
use Rattle.schema.specs.Each.{Each}
use Rattle.schema.specs.Shape.{Shape, Index, One, Many, Table}
use Rattle.meaning.specs.Tree.{Tree, Integer}
use Rattle.meaning.specs.Tables.{Tables, entry, same_table, has, place, with_new}
use Rattle.meaning.specs.Meaning.{blank, zero_value, resolve, uses, HasZeros}
use Rattle.meaning.specs.Canonical.{values}
use Rattle.meaning.specs.Renumbering.{IsDeduplicated, Entered, Written, WrittenEach, is_plain, Memo, Ready, Noted}
use Rattle.schema_laws.proofs.Lists.{each_left}
use Rattle.meaning.proofs.Places.{each_all, grown-begins, place-lt, with_new-all}
use Rattle.meaning.proofs.Soundness.{same_table-itself, same_table-true, entry_sound}
use Rattle.meaning.proofs.Closure.{zero_uses}
use Rattle.meaning.proofs.Orders.{avoids, uses_none}
use Rattle.meaning.proofs.Zeros.{ZerosFirst, zero-place, zero-had, blank-resolves}
use Rattle.meaning.proofs.Growth.{same_grown, written_covers, written_grown, written_again, renumber-plain, written_none, written_single, written_append}
use Rattle.meaning.proofs.Entries.{begins, written_index}

-- ---- an index that was met before

-- it is written as what the memo holds, and adds nothing
pub met_before : {d k : Tables} {memo : Memo} → Ready d k memo → (T : Table) (i j : ℕ) → i < length (d T) → get_or (memo T) i None ≡ Some j
    → Written (Index T (entry T)) (values k) (values k) (resolve d (Index T (entry T)) (Integer (pos i))) (Integer (pos j))
met_before r T i j l e = r.kept T i j (rw (r.all T) l) e

-- ---- an index that is met for the first time

-- the index i of the dictionary d is written as j, and adds nothing to the values v
abbrev Known : Tables → Tables → Table → ℕ → ℕ → Type 0
Known d v T i j = Written (Index T (entry T)) v v (resolve d (Index T (entry T)) (Integer (pos i))) (Integer (pos j))

-- W holds of each pair of a list that has j at i now
kept_set : (W : ℕ → ℕ → Type 0) (memo : List (Option ℕ)) (i j : ℕ)
    → ((a b : ℕ) → a < length memo → get_or memo a None ≡ Some b → W a b) → W i j
    → (a b : ℕ) → a < length (set memo i (Some j)) → get_or (set memo i (Some j)) a None ≡ Some b → W a b
kept_set W memo i j h r a b l e =
    ⊎_elim (λ (p : a ≡ i).
    let q : get_or (set memo i (Some j)) a None ≡ Some j = get_or-set_at memo i a (Some j) None p (rw (← p, ← length-set {A = Option ℕ} memo i (Some j)) l) in
    let s : j ≡ b = cc in
    rw (p, ← s) r)
    (λ (p : a ≡ i → ⊥). h a b (rw length-set at l) (sym (get_or-set_other memo i a (Some j) None p) ∙ e))
    (cases_eq a i)

-- Its entry was written, went into its table, and the memo has its place there.
pub met_first : (d v k k' : Tables) (memo memo' : Memo) (T : Table) (i j : ℕ) (x : Tree) → Ready d k memo
    → Written (entry T) v (values k) (resolve d (Index T (entry T)) (Integer (pos i))) x
    → Entered T x k k' → j ≡ place (k' T) x → Noted T i j memo memo'
    → Ready d k' memo' × Written (Index T (entry T)) v (values k') (resolve d (Index T (entry T)) (Integer (pos i))) (Integer (pos j))
met_first d v k k' memo memo' T i j x r s h p n =
    let w : Tables = values k in
    let u : Tables = values k' in
    let m : Tree = resolve d (Index T (entry T)) (Integer (pos i)) in
    let here : IsDeduplicated k' × Written (Index T (entry T)) v u m (Integer (pos j)) = written_index v k k' T m x j r.deduplicated s h p in
    let alone : IsDeduplicated k' × Written (Index T (entry T)) w u m (Integer (pos j)) = written_index w k k' T m x j r.deduplicated (written_again s (same_grown w)) h p in
    let now : Written (Index T (entry T)) u u m (Integer (pos j)) = written_again alone.1 (same_grown u) in (
      record {
        deduplicated = here.0;
        zeros = λ U. zeros_now U (grown-begins (cond (same_table U T) (x ∷ []) []) (k U));
        kept = λ U. kept_now U (same_table U T) refl
            (λ a b l e. written_again (r.kept U a b l e) (written_grown alone.1)) now (n U);
        all = λ U. length_now U (same_table U T) (n U);
      },
      here.1,
    )
  where
    zeros_now : (U : Table) → (more : List Tree) × (with_new (k U) (cond (same_table U T) (x ∷ []) []) ≡ k U ++ more) → (rest : List Tree) × (k' U ≡ blank (entry U) ∷ rest)
    zeros_now U g = ((r.zeros U).0 ++ g.0, h U ∙ g.1 ∙ ap (λ l. l ++ g.0) (r.zeros U).1)

    kept_now : (U : Table) (t : Bool) → same_table U T ≡ t
        → ((a b : ℕ) → a < length (memo U) → get_or (memo U) a None ≡ Some b → Known d (values k') U a b)
        → Known d (values k') T i j
        → memo' U ≡ cond t (set (memo U) i (Some j)) (memo U)
        → (a b : ℕ) → a < length (memo' U) → get_or (memo' U) a None ≡ Some b → Known d (values k') U a b
    kept_now U false f h o q = rw q h
    kept_now U true f h o q = rw q (kept_set (Known d (values k') U) (memo U) i j h (subst (λ V. Known d (values k') V i j) (sym (same_table-true U T f)) o))

    length_now : (U : Table) (t : Bool) → memo' U ≡ cond t (set (memo U) i (Some j)) (memo U) → length (memo' U) ≡ length (d U)
    length_now U false q = rw q (r.all U)
    length_now U true q = rw (q, length-set) (r.all U)

-- ---- the index 0, and values without indexes

-- a zero value is the index 0 of lists that begin with the zero values, and adds nothing
pub written_zero : (v : Tables) → ZerosFirst v → (T : Table) → Written (Index T (entry T)) v v (zero_value (entry T)) (Integer (pos 0))
written_zero v h T = record {
  walked = λ U. sym (with_new-all (uses U (Index T (entry T)) (zero_value (entry T))) (v U)
      (each_all (λ x. zero_value (entry U) ≡ x) (λ x. has (v U) x ≡ true) (λ x e. rw (← e) (zero-had v h U))
      (uses U (Index T (entry T)) (zero_value (entry T))) (zero_uses U (Index T (entry T)) (refl, entry_sound T))));
  renumbered = ap (λ j. Integer (pos j)) (sym (zero-place v h T));
}

-- so the index 0 stays 0, also where the table is empty
pub zero_written : (d v : Tables) → HasZeros d → ZerosFirst v → (T : Table)
    → Written (Index T (entry T)) v v (resolve d (Index T (entry T)) (Integer (pos 0))) (Integer (pos 0))
zero_written d v h g T =
    subst (λ m. Written (Index T (entry T)) v v m (Integer (pos 0))) (sym (blank-resolves d h (Index T (entry T)) (refl, entry_sound T))) (written_zero v g T)

-- so it does where a program keeps its tables
pub zero_met : {d k : Tables} {memo : Memo} → Ready d k memo → HasZeros d → (T : Table)
    → Written (Index T (entry T)) (values k) (values k) (resolve d (Index T (entry T)) (Integer (pos 0))) (Integer (pos 0))
zero_met {d} {k} r h T = zero_written d (values k) h first T
  where
    zero : HasZeros k
    zero U = ap (λ l. get_or l 0 (blank (entry U))) (r.zeros U).1

    first : ZerosFirst (values k)
    first U =
        let e : values k U ≡ resolve k (entry U) (blank (entry U)) ∷ map (resolve k (entry U)) (r.zeros U).0 = ap (map (resolve k (entry U))) (r.zeros U).1 in
        (map (resolve k (entry U)) (r.zeros U).0, e ∙ ap (λ b. b ∷ map (resolve k (entry U)) (r.zeros U).0) (blank-resolves k zero (entry U) (entry_sound U)))

-- a new index is one of its table
pub written_place : (k : Tables) (T : Table) (v : Tables) (m : Tree) (j : ℕ) → Written (Index T (entry T)) v (values k) m (Integer (pos j)) → j < length (k T)
written_place k T v m j r =
    let here : has (values k T) m ≡ true = (rw same_table-itself at (each_left (λ x. has (values k T) x ≡ true) (cond (same_table T T) (m ∷ []) []) _ (written_covers r T))).0 in
    let e : j ≡ place (values k T) m = same_place j (place (values k T) m) r.renumbered in
    omega (arith, place-lt (values k T) m here, length-map (k T) (resolve k (entry T)))
  where
    same_place : (i n : ℕ) → Integer (pos i) ≡ Integer (pos n) → i ≡ n
    same_place i n e = cc

-- tables of zero entries alone and no index that was met are ready
pub first_ready : (d k : Tables) (memo : Memo) → ((T : Table) → k T ≡ blank (entry T) ∷ []) → ((T : Table) → memo T ≡ replicate (length (d T)) None) → Ready d k memo
first_ready d k memo h e = record {
  deduplicated = (begins k h).1;
  zeros = λ T. ([], h T);
  kept = λ T i j l q. absurd (none (length (d T)) i j (rw (e T) at q));
  all = λ T. rw (e T) (length-replicate (length (d T)) None);
}
  where
    none : (n i j : ℕ) → get_or (replicate n None) i None ≡ Some j → ⊥
    none zero zero j q = cc
    none zero (suc i) j q = cc
    none (suc n) zero j q = cc
    none (suc n) (suc i) j q = none n i j q

-- a shape without indexes names no entry of any table
plain-avoids : (T : Table) (s : Shape) → is_plain s ≡ true → avoids T s ≡ true
plain-avoids T (One n k rest) h =
    let p = and_parts (is_plain k) (is_plain rest) h in and_from _ _ (plain-avoids T k p.0) (plain-avoids T rest p.1)
plain-avoids T (Many n k rest) h =
    let p = and_parts (is_plain k) (is_plain rest) h in and_from _ _ (plain-avoids T k p.0) (plain-avoids T rest p.1)
plain-avoids T (Index U k) h = cc
plain-avoids T s h = refl

-- a value without indexes is written as it is
pub written_plain : (s : Shape) → is_plain s ≡ true → (v : Tables) (m : Tree) → Written s v v m m
written_plain s h v m = record {
  walked = λ T. sym (ap (with_new (v T)) (uses_none T s (plain-avoids T s h) m));
  renumbered = sym (renumber-plain v s h m);
}

-- and so is a list of such values
pub written_plains : (s : Shape) → is_plain s ≡ true → (v : Tables) (ms : List Tree) → WrittenEach s v v ms ms
written_plains s h v [] = written_none s v
written_plains s h v (m ∷ ms) = written_append (written_single (written_plain s h v m)) (written_plains s h v ms)

-- ---- reading tables

-- what is at an index of a list, by any default
pub read_at : {X : Type 0} (xs : List X) (i : ℕ) (d x : X) → i < length xs → x ≡ get_or xs i x → get_or xs i d ≡ x
read_at [] i d x l e = absurd (omega arith)
read_at (y ∷ ys) zero d x l e = sym e
read_at (y ∷ ys) (suc i) d x l e = read_at ys i d x (omega arith) e

-- and its image in the mapped list
pub read_map : {X : Type 0} (f : X → Tree) (xs : List X) (i : ℕ) (d : Tree) (x : X) → i < length (map f xs) → x ≡ get_or xs i x → f x ≡ get_or (map f xs) i d
read_map f xs i d x l e = ap f e ∙ sym (get_or-map f xs i x d (rw length-map at l))

-- what holds of each element holds of the one at an index
pub each_at : {X : Type 0} (P : X → Type 0) (xs : List X) (i : ℕ) (x : X) → i < length xs → x ≡ get_or xs i x → Each P xs → P x
each_at P [] i x l e h = absurd (omega arith)
each_at P (y ∷ ys) zero x l e h = rw e h.0
each_at P (y ∷ ys) (suc i) x l e h = each_at P ys i x (omega arith) e h.1
