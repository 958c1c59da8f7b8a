-- Steps, and entries that were not met.
use Rattle.std.proofs.Common.{◌≡◌, ℕ, zero, suc, ◌+◌, ◌<◌, ◌≤◌, List, [], ◌∷◌, length, get_or, set, Bool, true, false, cond, Option, Some, None, Result, Ok, Err, refl, sym, ap, ◌∙◌, subst, arith}
use Rattle.std.proofs.lemmas.Bool.{false≢true}
use Rattle.std.proofs.lemmas.List.{get_or-set_same, get_or-set_other, length-set}
use Rattle.schema.specs.Each.{Each}
use Rattle.schema.specs.Moved.{mentions}
use Rattle.schema.specs.Shape.{Shape, Table, Mappings, Locations, Functions, Links, Strings, Attributes, Stacks}
use Rattle.schema.specs.Tables.{same_table}
use Rattle.meaning.specs.Renumbering.{Noted}
use Rattle.meaning.specs.Tables.{entry}
use Rattle.meaning.proofs.Soundness.{same_table-true}
use Rattle.pb_wire.specs.TableKinds.{place_of, table_of}
use Rattle.key_tables.specs.Keys.{ArePrefixes, Keys, at}
use Rattle.key_tables.proofs.Places.{other_place, place_below}
use Rattle.std.specs.Result.{IsErr}
use Rattle.schema_laws.proofs.Mentions.{leads_elsewhere}
use Rattle.dict_rec.specs.declared.dictionary.Dictionary.{Dictionary}
use Rattle.renumber.specs.Entries.{index_into, old_entries}
use Rattle.renumber.specs.declared.spot.Spot.{Spot}
use Rattle.renumber.specs.Memos.{MemoGoesOn, MemoState, noted_at, noted_in}
use Rattle.renumber.specs.Walk.{IsOpen, MemoLists, Moves, missed, memo_of, State, Unless, every_table, unmet_in, unmet_of}
use Rattle.renumber.proofs.MemoSteps.{goes_noted}

-- ---- one entry more that was met

-- in its table
unmet_set : (new_indexes : List (Option ℕ)) (i j : ℕ) → i < length new_indexes → get_or new_indexes i None ≡ None → unmet_in (set new_indexes i (Some j)) + 1 ≡ unmet_in new_indexes
unmet_set [] i j l e = absurd (omega arith)
unmet_set (None ∷ new_indexes) zero j l e = omega arith
unmet_set (Some k ∷ new_indexes) zero j l e = absurd cc
unmet_set (None ∷ new_indexes) (suc i) j l e = omega (arith, unmet_set new_indexes i j (omega arith) e)
unmet_set (Some k ∷ new_indexes) (suc i) j l e = unmet_set new_indexes i j (omega arith) e

-- in all
unmet_list : (memo : MemoLists) (p : ℕ) (new_indexes : List (Option ℕ)) → p < length memo → unmet_of (set memo p new_indexes) + unmet_in (get_or memo p []) ≡ unmet_of memo + unmet_in new_indexes
unmet_list [] p new_indexes l = absurd (omega arith)
unmet_list (x ∷ memo) zero new_indexes l = omega arith
unmet_list (x ∷ memo) (suc p) new_indexes l = omega (arith, unmet_list memo p new_indexes (omega arith))

module _ (T : Table) (place new : ℕ) (memo : MemoLists) (seven : length memo ≡ 7) where
  below : place_of T < length memo
  below = omega (arith, seven, place_below T)

  pub noted_seven : length (noted_in T place new memo) ≡ 7
  noted_seven = length-set memo (place_of T) (set (at memo T) place (Some new)) ∙ seven

  noted_here : at (noted_in T place new memo) T ≡ set (at memo T) place (Some new)
  noted_here = get_or-set_same memo (place_of T) (set (at memo T) place (Some new)) [] below

  noted_elsewhere : (U : Table) → same_table U T ≡ false → at (noted_in T place new memo) U ≡ at memo U
  noted_elsewhere U e = get_or-set_other memo (place_of T) (place_of U) (set (at memo T) place (Some new)) [] (other_place U T e)

  pub noted_tables : Noted T place new (at memo) (at (noted_in T place new memo))
  noted_tables U = by_test (same_table U T) refl
    where
      by_test : (b : Bool) → same_table U T ≡ b → at (noted_in T place new memo) U ≡ cond b (set (at memo U) place (Some new)) (at memo U)
      by_test false e = noted_elsewhere U e
      by_test true e = subst (λ V. at (noted_in T place new memo) V ≡ set (at memo V) place (Some new)) (sym (same_table-true U T e)) noted_here

  pub noted_unmet : place < length (at memo T) → get_or (at memo T) place None ≡ None → unmet_of (noted_in T place new memo) + 1 ≡ unmet_of memo
  noted_unmet l e = omega (arith, unmet_list memo (place_of T) (set (at memo T) place (Some new)) below, unmet_set (at memo T) place new l e)

-- ---- tables that a shape does not mention

-- what holds of each table
pub each_table : (P : Table → Type 0) → ((T : Table) → P T) → Each P every_table
each_table P h = (h Mappings, (h Locations, (h Functions, (h Links, (h Strings, (h Attributes, (h Stacks, tt)))))))

pub table_of_each : (P : Table → Type 0) → Each P every_table → (T : Table) → P T
table_of_each P h Mappings = h.0
table_of_each P h Locations = h.1.0
table_of_each P h Functions = h.1.1.0
table_of_each P h Links = h.1.1.1.0
table_of_each P h Strings = h.1.1.1.1.0
table_of_each P h Attributes = h.1.1.1.1.1.0
table_of_each P h Stacks = h.1.1.1.1.1.1.0

unless : {P : Type 0} (b : Bool) → (b ≡ false → P) → Unless b P
unless true f = tt
unless false f = f refl

pub still_of : (s : Shape) (P : Table → Type 0) → ((T : Table) → mentions T s ≡ false → P T) → Each (λ T. Unless (mentions T s) (P T)) every_table
still_of s P h = each_table (λ T. Unless (mentions T s) (P T)) (λ T. unless (mentions T s) (h T))

pub still_at : (s : Shape) (P : Table → Type 0) → Each (λ T. Unless (mentions T s) (P T)) every_table → (T : Table) → mentions T s ≡ false → P T
still_at s P h T e = subst (λ b. Unless b (P T)) e (table_of_each (λ U. Unless (mentions U s) (P U)) h T)

-- ---- moves

-- the first shape mentions what the other one does
abbrev pub Mentions : Shape → Shape → Type 0
Mentions s k = (T : Table) → mentions T s ≡ false → mentions T k ≡ false

-- one after the other
pub moves_then : (s k : Shape) (extra : ℕ) (a b c : State) (n m l : ℕ) → Mentions s k → Moves k 0 a b n m → Moves s extra b c m l → Moves s extra a c n l
moves_then s k extra a b c n m l w p q = record {
  same = q.same ∙ p.same;
  kept = λ base h. q.kept base (p.kept base h);
  noted = λ base h. q.noted base (p.noted base h);
  still = still_of s (λ T. at c.memo T ≡ at a.memo T) (λ T e. still_at s (λ U. at c.memo U ≡ at b.memo U) q.still T e ∙ still_at k (λ U. at b.memo U ≡ at a.memo U) p.still T (w T e));
  most = omega (arith, p.most, q.most);
}

-- of a shape that mentions more
pub moves_wider : (s k : Shape) (extra : ℕ) (a b : State) (n m : ℕ) → Mentions s k → Moves k extra a b n m → Moves s extra a b n m
moves_wider s k extra a b n m w p = record {
  same = p.same;
  kept = p.kept;
  noted = p.noted;
  still = still_of s (λ T. at b.memo T ≡ at a.memo T) (λ T e. still_at k (λ U. at b.memo U ≡ at a.memo U) p.still T (w T e));
  most = p.most;
}

-- an index into a table leads to what its entries mention
pub index_mentions : (T : Table) → Mentions (index_into T) (entry T)
index_mentions T U = by_test (same_table U T)
  where
    by_test : (b : Bool) → cond b true (mentions U (entry T)) ≡ false → mentions U (entry T) ≡ false
    by_test true e = absurd cc
    by_test false e = e

-- and to the table
pub index_elsewhere : (T U : Table) → mentions U (index_into T) ≡ false → same_table U T ≡ false
index_elsewhere T U = by_test (same_table U T)
  where
    by_test : (b : Bool) → cond b true (mentions U (entry T)) ≡ false → b ≡ false
    by_test true e = e
    by_test false e = refl

-- ---- an entry that is entered

-- a key went into a table, and its spot was noted: a step more at most, and an unmet entry less
pub moves_noted : (a b : State) (s : Spot) (new n m : ℕ) → b.source ≡ a.source → ((base : Keys) → ArePrefixes base a.keys → ArePrefixes base b.keys)
    → memo_of b ≡ noted_at s new (memo_of a) → length a.memo ≡ 7 → s.place < length (at a.memo (table_of s.kind)) → get_or (at a.memo (table_of s.kind)) s.place None ≡ None → m ≤ n + 1
    → Moves (index_into (table_of s.kind)) 0 a b n m
moves_noted a b s new n m same kept e seven l free one =
    let T = table_of s.kind in
    let lists : b.memo ≡ noted_in T s.place new a.memo = ap (λ (x : MemoState). x.lists) e in
    record {
      same = same;
      kept = kept;
      noted = λ base h. subst (MemoGoesOn base) (sym e) (goes_noted base (memo_of a) s new free h);
      still = still_of (index_into T) (λ U. at b.memo U ≡ at a.memo U) (λ U h. ap (λ (x : MemoLists). at x U) lists ∙ noted_elsewhere T s.place new a.memo seven U (index_elsewhere T U h));
      most = omega (arith, one, ap unmet_of lists, noted_unmet T s.place new a.memo seven l free);
    }

-- ---- an entry, and then its index

-- what was met of an entry leaves its own table as it was, so that its place is still open
open_first : (T : Table) (extra : ℕ) (a b : State) (n m place : ℕ) → Moves (entry T) extra a b n m → IsOpen T a place → IsOpen T b place
open_first T extra a b n m place p o = record {
  within = subst (λ (d : Dictionary). place < length (old_entries d T)) (sym p.same) o.within;
  free = ap (λ l. get_or l place None) (still_at (entry T) (λ U. at b.memo U ≡ at a.memo U) p.still T (leads_elsewhere T)) ∙ o.free;
}

pub open_still : (T : Table) (s : Shape) → s ≡ entry T → (extra : ℕ) (a b : State) (n m place : ℕ) → Moves s extra a b n m → IsOpen T a place → IsOpen T b place
open_still T s q = subst (λ u. (extra : ℕ) (a b : State) (n m place : ℕ) → Moves u extra a b n m → IsOpen T a place → IsOpen T b place) (sym q) (open_first T)

pub moves_entry : (T : Table) (s : Shape) → s ≡ entry T → (extra : ℕ) (a b c : State) (n m l : ℕ) → Moves s 0 a b n m → Moves (index_into T) extra b c m l → Moves (index_into T) extra a c n l
moves_entry T s q = subst (λ u. (extra : ℕ) (a b c : State) (n m l : ℕ) → Moves u 0 a b n m → Moves (index_into T) extra b c m l → Moves (index_into T) extra a c n l) (sym q)
    (λ extra a b c n m l p r. moves_then (index_into T) (entry T) extra a b c n m l (index_mentions T) p r)

pub moves_in_entry : (T : Table) (s : Shape) → s ≡ entry T → (extra : ℕ) (a b : State) (n m : ℕ) → Moves s extra a b n m → Moves (index_into T) extra a b n m
moves_in_entry T s q = subst (λ u. (extra : ℕ) (a b : State) (n m : ℕ) → Moves u extra a b n m → Moves (index_into T) extra a b n m) (sym q)
    (λ extra a b n m p. moves_wider (index_into T) (entry T) extra a b n m (index_mentions T) p)

-- an error counts one
pub missed_one : {A E : Type 0} (r : Result A E) → IsErr r → missed r ≡ 1
missed_one (Ok x) h = absurd (false≢true h)
missed_one (Err e) h = refl

-- of the same shape
pub moves_on : (s : Shape) (extra : ℕ) (a b c : State) (n m l : ℕ) → Moves s 0 a b n m → Moves s extra b c m l → Moves s extra a c n l
moves_on s extra a b c n m l p q = moves_then s s extra a b c n m l (λ T e. e) p q
