-- What follows for keys, and for the entries that go into the tables.
use Rattle.std.proofs.Common.{◌≡◌, ℕ, ◌+◌, ◌<◌, ◌≤◌, ◌^◌, ℤ, pos, List, [], ◌∷◌, length, get_or, set, map, Bool, true, false, cond, Some, None, inl, inr, refl, sym, ap, ◌∙◌, subst, arith, ⊎_elim}
use Rattle.std.proofs.lemmas.Bool.{cases_eq}
use Rattle.std.proofs.lemmas.List.{length-map, get_or-set_other}
use Rattle.std.proofs.lemmas.Grind.{get_or-set_at}
use Rattle.schema.specs.Each.{Each}
use Rattle.schema.specs.Fits.{Lawful, is_lawful}
use Rattle.schema.specs.Shape.{Shape, Index, IsMessage, Value, Table}
use Rattle.schema.specs.Spell.{spell}
use Rattle.schema_laws.proofs.Lawfulness.{lawful_from}
use Rattle.schema_laws.proofs.Lists.{each_append}
use Rattle.meaning.specs.Canonical.{values}
use Rattle.meaning.specs.Meaning.{entry_at, resolve}
use Rattle.meaning.specs.Renumbering.{Memo, Noted, Written, Entered}
use Rattle.meaning.specs.Tables.{entry, same_table, with_new, with_one}
use Rattle.meaning.specs.Tree.{Tree, Integer, tree}
use Rattle.meaning.proofs.Indexes.{met_first}
use Rattle.meaning.proofs.Soundness.{entry_sound, same_table-true, same_table-itself}
use Rattle.tables.specs.Keys.{Interned}
use Rattle.tables.proofs.Interning.{interned_image}
use Rattle.dict_rec.specs.declared.dictionary.Dictionary.{Dictionary}
use Rattle.key_tables.specs.Keys.{AreFew, ArePrefixes, Keys, at}
use Rattle.meaning.specs.Memo.{KnowsIndex, Keeps, Knows, index_in, or_zero}
use Rattle.renumber.specs.Entries.{IsKey, IsKeyOf, IsPart, IsSource, entry_of, index_into, new_entries, old_entries}
use Rattle.renumber.proofs.Moves.{moves_noted, noted_seven, noted_tables}
use Rattle.pb_wire.specs.TableKinds.{place_of, table_of}
use Rattle.renumber.specs.declared.spot.Spot.{Spot}
use Rattle.renumber.specs.Memos.{MemoState, noted_at, noted_in}
use Rattle.renumber.specs.Walk.{MemoLists, Moves, IsOpen, IsReady, State, Walked, memo_of}
use Rattle.schema.specs.Moved.{GivesIndexes, moved}
use Rattle.meaning.proofs.Memo.{known_written, memo_gives}
use Rattle.schema_laws.proofs.MovedLengths.{moved_fits, moved_short}
use Rattle.renumber.proofs.Keys.{spelled_key, tells_keys}
use Rattle.renumber.proofs.Places.{interned_tree}

-- ---- new indexes

-- the memo gives indexes of 31 bits
pub gives : (old : Dictionary) (keys : Keys) (memo : MemoLists) → IsSource old → IsReady old keys memo → GivesIndexes (index_in (at memo))
gives old keys memo o r = memo_gives (old_entries old) (new_entries keys) (at memo) r.ready o.zeros (λ T. omega (arith, r.few T, length-map (at keys T) (entry_of T)))

pub small : (old : Dictionary) (keys : Keys) (memo : MemoLists) → IsSource old → IsReady old keys memo → (T : Table) (i : ℕ) → or_zero (get_or (at memo T) i None) < 2 ^ 31
small old keys memo o r T i = same_small _ _ (gives old keys memo o r T (pos i)).is (gives old keys memo o r T (pos i)).small
  where
    same_small : (m n : ℕ) → pos m ≡ pos n → n < 2 ^ 31 → m < 2 ^ 31
    same_small m n e l = let f : m ≡ n = cc in omega (arith, f, l)

-- a part is short with its new indexes
pub part_short : (s : Shape) (old : Dictionary) (keys : Keys) (memo : MemoLists) (x : Value s) → IsSource old → IsReady old keys memo → IsPart s old x
    → length (spell s (moved (index_in (at memo)) s x)) < 2 ^ 63
part_short s old keys memo x o r p =
    let b = moved_short s (index_in (at memo)) (gives old keys memo o r) x p.fits in
    let h = p.short in
    omega arith

-- ---- an entry whose indexes are known

-- its text is a key of what it becomes
entry_key : (T : Table) → IsMessage (entry T) → Lawful (entry T) → (old : Dictionary) (keys : Keys) (memo : MemoLists) (x : Value (entry T)) (place : ℕ) → IsSource old → IsReady old keys memo
    → IsPart (entry T) old x → entry_at (old_entries old T) (entry T) (Integer (pos place)) ≡ tree (entry T) x → Knows (at memo) (entry T) x
    → IsKeyOf T old keys place (spell (entry T) (moved (index_in (at memo)) (entry T) x))
entry_key T m l old keys memo x place o r p e n =
    let y = moved (index_in (at memo)) (entry T) x in
    let f = spelled_key T m y (moved_fits (entry T) m l (index_in (at memo)) (gives old keys memo o r) x p.fits p.short) in
    let k = values (new_entries keys) in
    let w = known_written (entry T) (entry_sound T) (old_entries old) (new_entries keys) (at memo) r.ready o.zeros x n in
    record {
      key = f.1;
      written = subst (λ z. Written (entry T) k k (resolve (old_entries old) (entry T) z) (entry_of T (spell (entry T) y))) (sym e)
          (subst (λ z. Written (entry T) k k (resolve (old_entries old) (entry T) (tree (entry T) x)) z) (sym f.0) w);
    }

-- the same of a record whose shape is that of an entry
pub found_key : (T : Table) (s : Shape) → s ≡ entry T → IsMessage s → is_lawful s ≡ true → (old : Dictionary) (keys : Keys) (memo : MemoLists) (x : Value s) (place : ℕ) → IsSource old → IsReady old keys memo
    → IsPart s old x → entry_at (old_entries old T) (entry T) (Integer (pos place)) ≡ tree s x → Knows (at memo) s x
    → IsKeyOf T old keys place (spell s (moved (index_in (at memo)) s x))
found_key T s q = subst (λ u. IsMessage u → is_lawful u ≡ true → (old : Dictionary) (keys : Keys) (memo : MemoLists) (x : Value u) (place : ℕ) → IsSource old → IsReady old keys memo
    → IsPart u old x → entry_at (old_entries old T) (entry T) (Integer (pos place)) ≡ tree u x → Knows (at memo) u x
    → IsKeyOf T old keys place (spell u (moved (index_in (at memo)) u x))) (sym q) (λ m l. entry_key T m (lawful_from (entry T) l))

-- ---- an entry that goes into its table

-- its place is one of the memo
pub open_within : (w : State) (T : Table) (i : ℕ) → IsReady w.source w.keys w.memo → IsOpen T w i → i < length (at w.memo T)
open_within w T i r o = omega (arith, o.within, r.ready.all T)

-- each key is one
each_interned : (P : List ℕ → Type 0) (old new : List (List ℕ)) (key : List ℕ) (place : ℕ) → Each P old → P key → Interned old key new place → Each P new
each_interned P old new key place h k (inl f) = subst (Each P) (sym f.same) h
each_interned P old new key place h k (inr a) = subst (Each P) (sym a.grown) (each_append P old (key ∷ []) h (k, tt))

-- Its key was interned, and its place there was noted.
pub entered : (old : Dictionary) (keys keys' : Keys) (memo memo' : MemoLists) (T : Table) (i j : ℕ) (bytes : List ℕ) → IsReady old keys memo → IsKeyOf T old keys i bytes
    → Interned (at keys T) bytes (at keys' T) j → ((U : Table) → same_table U T ≡ false → at keys' U ≡ at keys U) → length (at keys' T) < 2 ^ 31
    → Noted T i j (at memo) (at memo') → length keys' ≡ 7 → length memo' ≡ 7 → IsReady old keys' memo' × Written (Index T (entry T)) (values (new_entries keys)) (values (new_entries keys')) (resolve (old_entries old) (Index T (entry T)) (Integer (pos i))) (Integer (pos j))
entered old keys keys' memo memo' T i j bytes r q h others few n seven seven_memo =
    let x : Tree = entry_of T bytes in
    let image = interned_image (entry_of T) (at keys T) bytes (at keys' T) j (tells_keys T (at keys T) bytes (r.texts T) q.key) h in
    let t = interned_tree (new_entries keys T) (new_entries keys' T) x j image in
    let into : Entered T x (new_entries keys) (new_entries keys') = λ U. goes U (same_table U T) refl t.0 in
    let e = met_first (old_entries old) (values (new_entries keys)) (new_entries keys) (new_entries keys') (at memo) (at memo') T i j x r.ready q.written into t.1 n in
    (record { ready = e.0; texts = λ U. texts_now U (same_table U T) refl; few = λ U. few_now U (same_table U T) refl; seven = seven; seven_memo = seven_memo }, e.1)
  where
    goes : (U : Table) (b : Bool) → same_table U T ≡ b → new_entries keys' T ≡ with_one (new_entries keys T) (entry_of T bytes)
        → new_entries keys' U ≡ with_new (new_entries keys U) (cond b (entry_of T bytes ∷ []) [])
    goes U false f g = ap (map (entry_of U)) (others U f)
    goes U true f g = subst (λ V. new_entries keys' V ≡ with_one (new_entries keys V) (entry_of T bytes)) (sym (same_table-true U T f)) g

    texts_now : (U : Table) (b : Bool) → same_table U T ≡ b → Each (IsKey U) (at keys' U)
    texts_now U false f = subst (Each (IsKey U)) (sym (others U f)) (r.texts U)
    texts_now U true f = subst (λ V. Each (IsKey V) (at keys' V)) (sym (same_table-true U T f)) (each_interned (IsKey T) (at keys T) (at keys' T) bytes j (r.texts T) q.key h)

    few_now : (U : Table) (b : Bool) → same_table U T ≡ b → length (at keys' U) < 2 ^ 31
    few_now U false f = subst (λ l. length l < 2 ^ 31) (sym (others U f)) (r.few U)
    few_now U true f = subst (λ V. length (at keys' V) < 2 ^ 31) (sym (same_table-true U T f)) few

-- the memo keeps what it held, where the place had nothing
noted_keeps : (T : Table) (i j : ℕ) (memo memo' : Memo) → get_or (memo T) i None ≡ None → Noted T i j memo memo' → Keeps memo memo'
noted_keeps T i j memo memo' free n U a b h = by_test (same_table U T) refl (n U)
  where
    here : a ≡ i → U ≡ T → get_or (memo' U) a None ≡ Some b
    here p f =
        let g : get_or (memo T) i None ≡ Some b = ap (λ V. get_or (memo V) i None) (sym f) ∙ ap (λ c. get_or (memo U) c None) (sym p) ∙ h in
        let d : None ≡ Some b = sym free ∙ g in
        absurd cc

    by_test : (t : Bool) → same_table U T ≡ t → memo' U ≡ cond t (set (memo U) i (Some j)) (memo U) → get_or (memo' U) a None ≡ Some b
    by_test false f q = rw q h
    by_test true f q = ⊎_elim
        (λ (p : a ≡ i). here p (same_table-true U T f))
        (λ (p : a ≡ i → ⊥). rw q (get_or-set_other (memo U) i a (Some j) None p ∙ h))
        (cases_eq a i)

-- and has the place now
noted_known : (T : Table) (i j : ℕ) (memo memo' : Memo) → i < length (memo T) → Noted T i j memo memo' → get_or (memo' T) i None ≡ Some j
noted_known T i j memo memo' l n =
    let q : memo' T ≡ set (memo T) i (Some j) = rw same_table-itself at (n T) in
    rw q (get_or-set_at (memo T) i i (Some j) None refl l)

-- A key went into its table, and its spot was noted in the memo.
module _ (a b : State) (s : Spot) (j : ℕ) (bytes : List ℕ) (r : IsReady a.source a.keys a.memo) (o : IsOpen (table_of s.kind) a s.place)
    (q : IsKeyOf (table_of s.kind) a.source a.keys s.place bytes) (h : Interned (at a.keys (table_of s.kind)) bytes (at b.keys (table_of s.kind)) j)
    (others : (U : Table) → same_table U (table_of s.kind) ≡ false → at b.keys U ≡ at a.keys U) (few : AreFew b.keys)
    (seven : length b.keys ≡ 7) (e : memo_of b ≡ noted_at s j (memo_of a)) (same : b.source ≡ a.source) where
  within : s.place < length (at a.memo (table_of s.kind))
  within = open_within a (table_of s.kind) s.place r o

  lists : b.memo ≡ noted_in (table_of s.kind) s.place j a.memo
  lists = ap (λ (m : MemoState). m.lists) e

  noted : Noted (table_of s.kind) s.place j (at a.memo) (at b.memo)
  noted = subst (λ (m : MemoLists). Noted (table_of s.kind) s.place j (at a.memo) (at m)) (sym lists) (noted_tables (table_of s.kind) s.place j a.memo r.seven_memo)

  both : IsReady a.source b.keys b.memo × Written (Index (table_of s.kind) (entry (table_of s.kind))) (values (new_entries a.keys)) (values (new_entries b.keys))
      (resolve (old_entries a.source) (Index (table_of s.kind) (entry (table_of s.kind))) (Integer (pos s.place))) (Integer (pos j))
  both =
      entered a.source a.keys b.keys a.memo b.memo (table_of s.kind) s.place j bytes r q h others (few (place_of (table_of s.kind))) noted seven
      (ap length lists ∙ noted_seven (table_of s.kind) s.place j a.memo r.seven_memo)

  -- the walk goes on from there
  pub entered_ready : IsReady a.source b.keys b.memo
  entered_ready = both.0

  keeps : Keeps (at a.memo) (at b.memo)
  keeps = noted_keeps (table_of s.kind) s.place j (at a.memo) (at b.memo) o.free noted

  -- and could do so if nothing was noted
  pub entered_unnoted : IsReady a.source b.keys a.memo
  entered_unnoted = record {
    ready = record {
      deduplicated = both.0.ready.deduplicated;
      zeros = both.0.ready.zeros;
      kept = λ U n k l f. both.0.ready.kept U n k (omega (arith, l, r.ready.all U, both.0.ready.all U)) (keeps U n k f);
      all = r.ready.all;
    };
    texts = both.0.texts;
    few = both.0.few;
    seven = both.0.seven;
    seven_memo = r.seven_memo;
  }

  -- the index was walked over
  pub entered_walk : Walked (index_into (table_of s.kind)) a b (pos s.place)
  entered_walk = record {
    same = same;
    walked = both.1.walked;
    keeps = keeps;
    known = inr (j, noted_known (table_of s.kind) s.place j (at a.memo) (at b.memo) within noted);
  }

  -- with a step more at most, and an unmet entry less
  pub entered_moves : (n m : ℕ) → ((base : Keys) → ArePrefixes base a.keys → ArePrefixes base b.keys) → m ≤ n + 1 → Moves (index_into (table_of s.kind)) 0 a b n m
  entered_moves n m kept one = moves_noted a b s j n m same kept e r.seven_memo within o.free one

-- tables that stay stay ready
pub ready_still : (old : Dictionary) (keys keys' : Keys) (memo : MemoLists) → keys' ≡ keys → IsReady old keys memo → IsReady old keys' memo
ready_still old keys keys' memo e r = subst (λ (k : Keys). IsReady old k memo) (sym e) r

-- an index that is known
pub known_walk : (w : State) (T : Table) (z : ℤ) → IsSource w.source → IsReady w.source w.keys w.memo → KnowsIndex (at w.memo) T z → Walked (index_into T) w w z
known_walk w T z o r h = record {
  same = refl;
  walked = (known_written (index_into T) (refl, entry_sound T) (old_entries w.source) (new_entries w.keys) (at w.memo) r.ready o.zeros z h).walked;
  keeps = λ U i j e. e;
  known = h;
}
