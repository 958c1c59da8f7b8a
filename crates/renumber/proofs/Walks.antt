-- Walks after one another.
use Rattle.std.proofs.Common.{◌≡◌, ℕ, ◌+◌, ◌<◌, pos, List, [], ◌∷◌, ◌++◌, length, take, get_or, map, true, cond, Result, Ok, Err, OnOk, refl, sym, ap, ◌∙◌, subst, arith}
use Rattle.std.proofs.lemmas.Bool.{and_parts}
use Rattle.std.proofs.lemmas.List.{append-nil, take_more, map-append, append_assoc, length-map, get_or-map}
use Rattle.schema.specs.Each.{Each}
use Rattle.schema.specs.Shape.{Shape, Index, End, One, Many, Value, Table}
use Rattle.schema_laws.proofs.Lists.{each_append}
use Rattle.meaning.specs.Canonical.{renumber, values}
use Rattle.meaning.specs.Meaning.{at_each, blank, entry_at, resolve, uses, walk_each}
use Rattle.meaning.specs.Renumbering.{Memo, Written, is_plain}
use Rattle.meaning.specs.Tables.{Tables, entry, same_table, with_new}
use Rattle.meaning.specs.Tree.{Tree, Integer, listed, tree}
use Rattle.meaning.proofs.Growth.{written_covers}
use Rattle.meaning.proofs.Orders.{uses-index}
use Rattle.meaning.proofs.Places.{with_new-all, with_new-append}
use Rattle.meaning.proofs.Rows.{becomes_itself}
use Rattle.dict_rec.specs.declared.dictionary.Dictionary.{Dictionary}
use Rattle.key_tables.specs.Keys.{at}
use Rattle.meaning.specs.Memo.{Knows}
use Rattle.renumber.specs.Entries.{IsPart, index_into, new_entries, old_entries}
use Rattle.renumber.specs.Walk.{State, Walked, WalkedEach}
use Rattle.meaning.proofs.Memo.{known_stays}
use Rattle.renumber.proofs.Parts.{part_at}

-- the walk of a value
abbrev pub uses_of : (s : Shape) → State → Value s → Table → List Tree
uses_of s a x T = uses T s (resolve (old_entries a.source) s (tree s x))

-- the entries of two walks
both : (a b c : State) (us vs : Table → List Tree)
    → ((T : Table) → values (new_entries b.keys) T ≡ with_new (values (new_entries a.keys) T) (us T))
    → ((T : Table) → values (new_entries c.keys) T ≡ with_new (values (new_entries b.keys) T) (vs T))
    → (T : Table) → values (new_entries c.keys) T ≡ with_new (values (new_entries a.keys) T) (us T ++ vs T)
both a b c us vs h g T = g T ∙ ap (λ l. with_new l (vs T)) (h T) ∙ sym (with_new-append (us T) (vs T) (values (new_entries a.keys) T))

-- a memo knows a value without indexes
each_known : {A : Type 0} (P : A → Type 0) → ((x : A) → P x) → (xs : List A) → Each P xs
each_known P f [] = tt
each_known P f (x ∷ xs) = (f x, each_known P f xs)

plain_known : (memo : Memo) (s : Shape) → is_plain s ≡ true → (x : Value s) → Knows memo s x
plain_known memo (Index T k) p x = absurd cc
plain_known memo (One n k rest) p x =
    let q = and_parts (is_plain k) (is_plain rest) p in (plain_known memo k q.0 x.0, plain_known memo rest q.1 x.1)
plain_known memo (Many n k rest) p x =
    let q = and_parts (is_plain k) (is_plain rest) p in (each_known (Knows memo k) (plain_known memo k q.0) x.0, plain_known memo rest q.1 x.1)
plain_known memo s p x = tt

-- nothing to walk over
pub walked_nothing : (s : Shape) → is_plain s ≡ true → (x : Value s) (a : State) → Walked s a a x
walked_nothing s p x a = record {
  same = refl;
  walked = (becomes_itself (old_entries a.source) s p (values (new_entries a.keys)) x).walked;
  keeps = λ T i j e. e;
  known = plain_known (at a.memo) s p x;
}

-- a row, then the others
pub walked_row : {n : ℕ} {k rest : Shape} (a b c : State) (x : Value (One n k rest)) → Walked k a b x.0 → Walked rest b c x.1 → Walked (One n k rest) a c x
walked_row {n} {k} {rest} a b c x r q = record {
  same = q.same ∙ r.same;
  walked = both a b c (uses_of k a x.0) (uses_of rest a x.1) r.walked
      (subst (λ (d : Dictionary). (T : Table) → values (new_entries c.keys) T ≡ with_new (values (new_entries b.keys) T) (uses T rest (resolve (old_entries d) rest (tree rest x.1)))) r.same q.walked);
  keeps = λ T i j e. q.keeps T i j (r.keeps T i j e);
  known = (known_stays (at b.memo) (at c.memo) q.keeps k x.0 r.known, q.known);
}

-- a list, then the others
pub walked_rows : {n : ℕ} {k rest : Shape} (a b c : State) (x : Value (Many n k rest)) → WalkedEach k a b x.0 → Walked rest b c x.1 → Walked (Many n k rest) a c x
walked_rows {n} {k} {rest} a b c x r q = record {
  same = q.same ∙ r.same;
  walked = both a b c (λ T. walk_each (uses T k) (at_each (resolve (old_entries a.source) k) (listed (map (tree k) x.0)))) (uses_of rest a x.1)
      (λ T. r.walked T ∙ ap (with_new (values (new_entries a.keys) T)) (append-nil (walk_each (uses T k) (at_each (resolve (old_entries a.source) k) (listed (map (tree k) x.0))))))
      (subst (λ (d : Dictionary). (T : Table) → values (new_entries c.keys) T ≡ with_new (values (new_entries b.keys) T) (uses T rest (resolve (old_entries d) rest (tree rest x.1)))) r.same q.walked);
  keeps = λ T i j e. q.keeps T i j (r.keeps T i j e);
  known = ((known_stays (at b.memo) (at c.memo) q.keeps (Many 1 k End) (x.0, tt) r.known).0, q.known);
}

-- ---- lists

-- the walk of a list with one more element
list_more : (T : Table) (s : Shape) (d : Tables) (xs : List (Value s)) (x : Value s)
    → walk_each (uses T s) (at_each (resolve d s) (listed (map (tree s) (xs ++ x ∷ [])))) ≡ walk_each (uses T s) (at_each (resolve d s) (listed (map (tree s) xs))) ++ uses T s (resolve d s (tree s x))
list_more T s d [] x = append-nil (uses T s (resolve d s (tree s x)))
list_more T s d (y ∷ ys) x =
    ap (λ l. uses T s (resolve d s (tree s y)) ++ l) (list_more T s d ys x)
    ∙ sym (append_assoc (uses T s (resolve d s (tree s y))) (walk_each (uses T s) (at_each (resolve d s) (listed (map (tree s) ys)))) (uses T s (resolve d s (tree s x))))

-- one more element
walked_push : (s : Shape) (a b c : State) (xs : List (Value s)) (x : Value s) → WalkedEach s a b xs → Walked s b c x → WalkedEach s a c (xs ++ x ∷ [])
walked_push s a b c xs x r q =
    let d = old_entries a.source in
    let us : Table → List Tree = λ T. walk_each (uses T s) (at_each (resolve d s) (listed (map (tree s) xs))) in
    let here : (T : Table) → values (new_entries c.keys) T ≡ with_new (values (new_entries b.keys) T) (uses T s (resolve d s (tree s x))) =
    subst (λ (o : Dictionary). (T : Table) → values (new_entries c.keys) T ≡ with_new (values (new_entries b.keys) T) (uses T s (resolve (old_entries o) s (tree s x)))) r.same q.walked in
    record {
      same = q.same ∙ r.same;
      walked = λ T.
          both a b c us (uses_of s a x) (λ U. r.walked U ∙ ap (with_new (values (new_entries a.keys) U)) (append-nil (us U))) here T
          ∙ ap (with_new (values (new_entries a.keys) T)) (sym (list_more T s d xs x) ∙ sym (append-nil (walk_each (uses T s) (at_each (resolve d s) (listed (map (tree s) (xs ++ x ∷ [])))))));
      keeps = λ T i j e. q.keeps T i j (r.keeps T i j e);
      known = (each_append (Knows (at c.memo) s) xs (x ∷ []) (known_stays (at b.memo) (at c.memo) q.keeps (Many 1 s End) (xs, tt) r.known).0 (q.known, tt), tt);
    }

-- as a loop goes
pub walked_more : {X : Type 0} (s : Shape) (view : X → Value s) (a b c : State) (xs : List X) (i : ℕ) (z : X) → i < length xs
    → WalkedEach s a b (map view (take i xs)) → Walked s b c (view (get_or xs i z)) → WalkedEach s a c (map view (take (i + 1) xs))
walked_more s view a b c xs i z l r q =
    let x = get_or xs i z in
    subst (WalkedEach s a c) (sym (rw (take_more xs i z l) (map-append view (take i xs) (x ∷ [])))) (walked_push s a b c (map view (take i xs)) (view x) r q)

-- ---- an entry, and then its index

entry_first : (T : Table) (a b c : State) (x : Value (entry T)) (i : ℕ) → entry_at (old_entries a.source T) (entry T) (Integer (pos i)) ≡ tree (entry T) x
    → Walked (entry T) a b x → Walked (index_into T) b c (pos i) → Walked (index_into T) a c (pos i)
entry_first T a b c x i e r q =
    let d = old_entries a.source in
    let v = values (new_entries a.keys) in
    let w = values (new_entries b.keys) in
    let m : Tree = resolve d (entry T) (tree (entry T) x) in
    let means : m ≡ resolve d (index_into T) (Integer (pos i)) = ap (resolve d (entry T)) (sym e) in
    let first : Written (entry T) v w m (renumber w (entry T) m) = record { walked = r.walked; renumbered = refl } in
    let here : (U : Table) → values (new_entries c.keys) U ≡ with_new (w U) (uses U (index_into T) m) =
    subst (λ t. (U : Table) → values (new_entries c.keys) U ≡ with_new (w U) (uses U (index_into T) t)) (sym means)
    (subst (λ (o : Dictionary). (U : Table) → values (new_entries c.keys) U ≡ with_new (w U) (uses U (index_into T) (resolve (old_entries o) (index_into T) (Integer (pos i))))) r.same q.walked) in
    let all : (U : Table) → values (new_entries c.keys) U ≡ with_new (v U) (uses U (index_into T) m) = λ U.
    let one : List Tree = cond (same_table U T) (m ∷ []) [] in
    here U ∙ ap (with_new (w U)) (uses-index U T (entry T) refl m) ∙ with_new-append (uses U (entry T) m) one (w U)
    ∙ ap (λ l. with_new l one) (with_new-all (uses U (entry T) m) (w U) (written_covers first U)) ∙ ap (λ l. with_new l one) (r.walked U)
    ∙ sym (ap (with_new (v U)) (uses-index U T (entry T) refl m) ∙ with_new-append (uses U (entry T) m) one (v U)) in
    record {
      same = q.same ∙ r.same;
      walked = subst (λ t. (U : Table) → values (new_entries c.keys) U ≡ with_new (v U) (uses U (index_into T) t)) means all;
      keeps = λ U n j h. q.keeps U n j (r.keeps U n j h);
      known = q.known;
    }

pub walked_entry : (T : Table) (s : Shape) → s ≡ entry T → (a b c : State) (x : Value s) (i : ℕ) → entry_at (old_entries a.source T) (entry T) (Integer (pos i)) ≡ tree s x
    → Walked s a b x → Walked (index_into T) b c (pos i) → Walked (index_into T) a c (pos i)
walked_entry T s q = subst (λ u. (a b c : State) (x : Value u) (i : ℕ) → entry_at (old_entries a.source T) (entry T) (Integer (pos i)) ≡ tree u x
    → Walked u a b x → Walked (index_into T) b c (pos i) → Walked (index_into T) a c (pos i)) (sym q) (entry_first T)

-- ---- entries at places

-- the entry x is at the place i of its table
module _ {X : Type 0} (T : Table) (s : Shape) (old : Dictionary) (view : X → Value s) (xs : List X) (i : ℕ) (x : X)
    (all : old_entries old T ≡ map (tree s) (map view xs)) (l : i < length (old_entries old T)) (e : x ≡ get_or xs i x) where
  place_within : i < length xs
  place_within = omega (arith, l, ap length all, length-map (map view xs) (tree s), length-map xs view)

  pub entry_found : entry_at (old_entries old T) (entry T) (Integer (pos i)) ≡ tree s (view x)
  entry_found =
      ap (λ es. get_or es i (blank (entry T))) all ∙ get_or-map (tree s) (map view xs) i (view x) (blank (entry T)) (omega (arith, place_within, length-map xs view))
      ∙ ap (tree s) (get_or-map view xs i x (view x) place_within) ∙ ap (λ y. tree s (view y)) (sym e)

  pub part_found : Each (IsPart s old) (map view xs) → IsPart s old (view x)
  part_found h = part_at (IsPart s old) view xs i x place_within e h

-- what follows on Ok
pub on_ok : {A E : Type 0} (P Q : Type 0) (r : Result A E) → (P → Q) → OnOk r P → OnOk r Q
on_ok P Q (Ok x) f h = f h
on_ok P Q (Err e) f h = tt

-- a part of a message stays one while the walk goes on
pub part_still : (s : Shape) (a b : Dictionary) (x : Value s) → b ≡ a → IsPart s a x → IsPart s b x
part_still s a b x e p = subst (λ (d : Dictionary). IsPart s d x) (sym e) p

pub parts_still : (s : Shape) (a b : Dictionary) (xs : List (Value s)) → b ≡ a → Each (IsPart s a) xs → Each (IsPart s b) xs
parts_still s a b xs e p = subst (λ (d : Dictionary). Each (IsPart s d) xs) (sym e) p
