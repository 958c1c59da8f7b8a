-- The texts of values that were walked over.
use Rattle.std.proofs.Common.{◌≡◌, ℕ, zero, suc, ◌*◌, ◌<◌, ◌≤◌, ◌^◌, List, [], ◌∷◌, ◌++◌, length, map, get_or, replicate, Some, None, refl, ap, ◌∙◌, subst, arith}
use Rattle.std.specs.List.{flat_map}
use Rattle.std.proofs.lemmas.List.{append-nil, length-replicate}
use Rattle.schema.specs.Each.{Each}
use Rattle.schema.specs.Fits.{Fits}
use Rattle.schema.specs.Messages.{resource_profiles}
use Rattle.schema.specs.Moved.{moved}
use Rattle.schema.specs.Shape.{Shape, Value, Many, End, Table}
use Rattle.schema.specs.Spell.{spell}
use Rattle.schema.specs.Texts.{items_text}
use Rattle.schema_laws.proofs.MovedLengths.{moved_short}
use Rattle.meaning.specs.Canonical.{values}
use Rattle.meaning.specs.Meaning.{at_each, resolve, uses, walk_each}
use Rattle.meaning.specs.Memo.{Knows, index_in}
use Rattle.meaning.specs.Message.{record_text}
use Rattle.meaning.specs.Renumbering.{BecomeEach, BeginWithZeros, IsDeduplicated}
use Rattle.meaning.specs.Tables.{IsSound, Tables, with_new}
use Rattle.meaning.specs.Tree.{listed, tree}
use Rattle.meaning.proofs.Growth.{written_append, written_none, written_single}
use Rattle.meaning.proofs.Memo.{known_written}
use Rattle.meaning.proofs.Trees.{value-tree}
use Rattle.dict_rec.specs.declared.dictionary.Dictionary.{Dictionary}
use Rattle.key_tables.specs.Keys.{Keys, at}
use Rattle.renumber.specs.Entries.{IsKey, IsPart, IsSource, new_entries, old_entries}
use Rattle.renumber.specs.Walk.{IsReady, MemoLists, State, WalkedEach}
use Rattle.renumber.proofs.Entering.{gives}

-- ---- before the walk

pub nothing_met : (old : Dictionary) (keys : Keys) (memo : MemoLists) → IsDeduplicated (new_entries keys) → BeginWithZeros (new_entries keys) → ((T : Table) → Each (IsKey T) (at keys T))
    → ((T : Table) → length (at keys T) < 2 ^ 31) → length keys ≡ 7 → length memo ≡ 7 → ((T : Table) → at memo T ≡ replicate (length (old_entries old T)) None) → IsReady old keys memo
nothing_met old keys memo deduplicated zeros texts few seven seven_memo e = record {
  ready = record {
    deduplicated = deduplicated;
    zeros = zeros;
    kept = λ T i j l q. absurd (none (length (old_entries old T)) i j (rw (e T) at q));
    all = λ T. rw (e T) (length-replicate (length (old_entries old T)) None);
  };
  texts = texts;
  few = few;
  seven = seven;
  seven_memo = seven_memo;
}
  where
    none : (n i j : ℕ) → get_or (replicate n None) i None ≡ Some j → ⊥
    none zero zero j q = cc
    none zero (suc i) j q = cc
    none (suc n) zero j q = cc
    none (suc n) (suc i) j q = none n i j q

-- ---- after it

-- values that the memo knows become what they mean in the tables as they are
known_each : (s : Shape) → IsSound s → (w : State) → IsSource w.source → IsReady w.source w.keys w.memo → (xs : List (Value s)) → Each (Knows (at w.memo) s) xs
    → BecomeEach (old_entries w.source) s (values (new_entries w.keys)) (values (new_entries w.keys)) xs (map (moved (index_in (at w.memo)) s) xs)
known_each s i w o r [] h = written_none s (values (new_entries w.keys))
known_each s i w o r (x ∷ xs) h =
    written_append (written_single (known_written s i (old_entries w.source) (new_entries w.keys) (at w.memo) r.ready o.zeros x h.0)) (known_each s i w o r xs h.1)

-- the walk of a list, as steps speak of it
walk_is : (T : Table) (s : Shape) (d : Tables) (xs : List (Value s))
    → walk_each (uses T s) (at_each (resolve d s) (listed (map (tree s) xs))) ≡ flat_map (uses T s) (map (λ x. resolve d s (tree s x)) xs)
walk_is T s d [] = refl
walk_is T s d (x ∷ xs) = ap (λ l. uses T s (resolve d s (tree s x)) ++ l) (walk_is T s d xs)

pub values_renumbered : (s : Shape) → IsSound s → (a b : State) → IsSource b.source → IsReady b.source b.keys b.memo → (xs : List (Value s)) → WalkedEach s a b xs
    → BecomeEach (old_entries a.source) s (values (new_entries a.keys)) (values (new_entries b.keys)) xs (map (moved (index_in (at b.memo)) s) xs)
values_renumbered s i a b o r xs h =
    let d = old_entries a.source in
    let known : BecomeEach d s (values (new_entries b.keys)) (values (new_entries b.keys)) xs (map (moved (index_in (at b.memo)) s) xs) =
    subst (λ (old : Dictionary). BecomeEach (old_entries old) s (values (new_entries b.keys)) (values (new_entries b.keys)) xs (map (moved (index_in (at b.memo)) s) xs)) h.same
    (known_each s i b o r xs h.known.0) in
    record {
      walked = λ T.
          h.walked T
          ∙ ap (with_new (values (new_entries a.keys) T)) (append-nil (walk_each (uses T s) (at_each (resolve d s) (listed (map (tree s) xs)))) ∙ walk_is T s d xs);
      renumbered = known.renumbered;
    }

pub values_spelled : (s : Shape) (ys : List (Value s)) → map (record_text s) (map (tree s) ys) ≡ map (spell s) ys
values_spelled s [] = refl
values_spelled s (y ∷ ys) =
    let e : record_text s (tree s y) ≡ spell s y = ap (spell s) (value-tree s y) in
    let f : map (record_text s) (map (tree s) ys) ≡ map (spell s) ys = values_spelled s ys in
    cc

-- ---- lengths

parts_fit : (s : Shape) (old : Dictionary) (xs : List (Value s)) → Each (IsPart s old) xs → Each (λ y. Fits s y × (length (spell s y) < 2 ^ 64)) xs
parts_fit s old [] h = tt
parts_fit s old (x ∷ xs) h = let l = h.0.short in ((h.0.fits, omega arith), parts_fit s old xs h.1)

pub records_short : (w : State) → IsSource w.source → IsReady w.source w.keys w.memo → (rs : List (Value resource_profiles)) → Each (IsPart resource_profiles w.source) rs → (number : ℕ)
    → length (items_text number (map (spell resource_profiles) (map (moved (index_in (at w.memo)) resource_profiles) rs))) ≤ 5 * length (items_text number (map (spell resource_profiles) rs))
records_short w o r rs p number =
    let all = Many number resource_profiles End in
    let x : Value all = (rs, tt) in
    let f : Fits all x = (parts_fit resource_profiles w.source rs p, tt, tt) in
    let b : length (spell all (moved (index_in (at w.memo)) all x)) ≤ 5 * length (spell all x) = moved_short all (index_in (at w.memo)) (gives w.source w.keys w.memo o r) x f in
    omega (
      arith,
      b,
      ap length (append-nil (items_text number (map (spell resource_profiles) (map (moved (index_in (at w.memo)) resource_profiles) rs)))),
      ap length (append-nil (items_text number (map (spell resource_profiles) rs))),
    )
