-- What a memo knows, and what becomes of it.
use Rattle.std.proofs.Common.{◌≡◌, ℕ, zero, suc, ◌<◌, ◌^◌, ℤ, pos, negsuc, List, [], ◌∷◌, length, map, get_or, Option, Some, None, refl, sym, ap, ◌∙◌, subst, arith, inl, inr}
use Rattle.schema.specs.Each.{Each}
use Rattle.schema.specs.Shape.{Shape, Index, One, Many, Value, Table}
use Rattle.meaning.specs.Canonical.{renumber, values}
use Rattle.meaning.specs.Meaning.{HasZeros, resolve}
use Rattle.meaning.specs.Renumbering.{Becomes, BecomeEach, Memo, Ready, Written}
use Rattle.meaning.specs.Tables.{IsSound, Tables, entry}
use Rattle.meaning.specs.Tree.{Integer, tree}
use Rattle.meaning.proofs.Growth.{written_none, written_single, written_append}
use Rattle.meaning.proofs.Indexes.{written_place, zero_met}
use Rattle.meaning.proofs.Rows.{becomes_row, becomes_rows, becomes_itself}
use Rattle.meaning.specs.Memo.{KnowsIndex, Keeps, Knows, Met, index_in, or_zero}
use Rattle.schema.specs.Moved.{GivesIndexes, moved}
use Rattle.schema_laws.proofs.MovedValues.{each_is_map}

-- ---- what is known stays known

held_stays : (memo memo' : Memo) → Keeps memo memo' → (T : Table) (i : ℤ) → KnowsIndex memo T i → KnowsIndex memo' T i
held_stays memo memo' h T (pos i) (inl z) = inl z
held_stays memo memo' h T (pos i) (inr e) = inr (e.0, h T i e.0 e.1)
held_stays memo memo' h T (negsuc i) e = absurd e

each_stays : {A : Type 0} (P Q : A → Type 0) → ((x : A) → P x → Q x) → (xs : List A) → Each P xs → Each Q xs
each_stays P Q f [] h = tt
each_stays P Q f (x ∷ xs) h = (f x h.0, each_stays P Q f xs h.1)

pub known_stays : (memo memo' : Memo) → Keeps memo memo' → (s : Shape) (v : Value s) → Knows memo s v → Knows memo' s v
known_stays memo memo' g (Index T k) v h = held_stays memo memo' g T v h
known_stays memo memo' g (One n k rest) v h = (known_stays memo memo' g k v.0 h.0, known_stays memo memo' g rest v.1 h.1)
known_stays memo memo' g (Many n k rest) v h = (each_stays (Knows memo k) (Knows memo' k) (known_stays memo memo' g k) v.0 h.0, known_stays memo memo' g rest v.1 h.1)
known_stays memo memo' g s v h = tt

-- ---- with the indexes of the memo a value is what it means, renumbered

module _ (d k : Tables) (memo : Memo) (r : Ready d k memo) (z : HasZeros d) where
  -- an index past the end of a list has nothing there
  within : (xs : List (Option ℕ)) (i j : ℕ) → get_or xs i None ≡ Some j → i < length xs
  within [] i j e = absurd cc
  within (x ∷ xs) zero j e = omega arith
  within (x ∷ xs) (suc i) j e = let l : i < length xs = within xs i j e in omega arith

  -- what the memo holds is written so
  held : (T : Table) (i : ℕ) (o : Option ℕ) → get_or (memo T) i None ≡ o → (i ≡ 0) → Written (Index T (entry T)) (values k) (values k) (resolve d (Index T (entry T)) (Integer (pos i))) (Integer (pos (or_zero o)))
  held T i None e q = subst (λ n. Written (Index T (entry T)) (values k) (values k) (resolve d (Index T (entry T)) (Integer (pos n))) (Integer (pos 0))) (sym q) (zero_met r z T)
  held T i (Some j) e q = r.kept T i j (within (memo T) i j e) e

  index_known : (T : Table) (i : ℤ) → KnowsIndex memo T i → Written (Index T (entry T)) (values k) (values k) (resolve d (Index T (entry T)) (Integer i)) (Integer (index_in memo T i))
  index_known T (pos i) (inl q) = held T i (get_or (memo T) i None) refl q
  index_known T (pos i) (inr e) =
      subst (λ o. Written (Index T (entry T)) (values k) (values k) (resolve d (Index T (entry T)) (Integer (pos i))) (Integer (pos (or_zero o)))) (sym e.1)
      (r.kept T i e.0 (within (memo T) i e.0 e.1) e.1)
  index_known T (negsuc i) h = absurd h

  each_known : (s : Shape) → ((v : Value s) → Knows memo s v → Becomes d s (values k) (values k) v (moved (index_in memo) s v))
      → (vs : List (Value s)) → Each (Knows memo s) vs → BecomeEach d s (values k) (values k) vs (map (moved (index_in memo) s) vs)
  each_known s f [] h = written_none s (values k)
  each_known s f (v ∷ vs) h = written_append (written_single (f v h.0)) (each_known s f vs h.1)

  known_becomes : (s : Shape) → IsSound s → (v : Value s) → Knows memo s v → Becomes d s (values k) (values k) v (moved (index_in memo) s v)
  known_becomes (Index T e) i v h =
      subst (λ u. Written (Index T u) (values k) (values k) (resolve d (Index T u) (Integer v)) (Integer (index_in memo T v))) (sym i.0) (index_known T v h)
  known_becomes (One n e rest) i v h = becomes_row d v (moved (index_in memo) (One n e rest) v) (known_becomes e i.0 v.0 h.0) (known_becomes rest i.1 v.1 h.1)
  known_becomes (Many n e rest) i v h =
      becomes_rows d v (moved (index_in memo) (Many n e rest) v)
      (subst (BecomeEach d e (values k) (values k) v.0) (sym (each_is_map (index_in memo) e v.0)) (each_known e (known_becomes e i.0) v.0 h.0)) (known_becomes rest i.1 v.1 h.1)
  known_becomes s i v h = becomes_itself d s refl (values k) v

  -- its indexes have 31 bits
  small : (T : Table) (i : ℕ) (o : Option ℕ) → get_or (memo T) i None ≡ o → ((U : Table) → length (k U) < 2 ^ 31) → or_zero o < 2 ^ 31
  small T i None e f = omega arith
  small T i (Some j) e f =
      let l : j < length (k T) = written_place k T (values k) _ j (r.kept T i j (within (memo T) i j e) e) in
      let b : length (k T) < 2 ^ 31 = f T in
      omega arith

pub known_written : (s : Shape) → IsSound s → (d k : Tables) (memo : Memo) → Ready d k memo → HasZeros d → (v : Value s) → Knows memo s v
    → Written s (values k) (values k) (resolve d s (tree s v)) (tree s (moved (index_in memo) s v))
known_written s i d k memo r z v h = known_becomes d k memo r z s i v h

pub known_renumbered : (s : Shape) → IsSound s → (d k : Tables) (memo : Memo) → Ready d k memo → HasZeros d → (v : Value s) → Knows memo s v
    → tree s (moved (index_in memo) s v) ≡ renumber (values k) s (resolve d s (tree s v))
known_renumbered s i d k memo r z v h = (known_written s i d k memo r z v h).renumbered

pub met_written : (s : Shape) → IsSound s → (d k k' : Tables) (memo' : Memo) → Ready d k' memo' → HasZeros d → (x : Value s) → Met d s k k' memo' x
    → Written s (values k) (values k') (resolve d s (tree s x)) (tree s (moved (index_in memo') s x))
met_written s i d k k' memo' r z x m = record { walked = m.walked; renumbered = known_renumbered s i d k' memo' r z x m.known }

-- the memo gives indexes of 31 bits
pub memo_gives : (d k : Tables) (memo : Memo) → Ready d k memo → HasZeros d → ((T : Table) → length (k T) < 2 ^ 31) → GivesIndexes (index_in memo)
memo_gives d k memo r z f T (negsuc i) = record { new = 0; is = refl; small = omega arith; zero = λ e. refl }
memo_gives d k memo r z f T (pos i) = record {
  new = or_zero (get_or (memo T) i None);
  is = refl;
  small = small d k memo r z T i (get_or (memo T) i None) refl f;
  zero = λ e. same_number _ _ ((held d k memo r z T i (get_or (memo T) i None) refl (same_pos i 0 e)).renumbered ∙ ap (λ x. renumber (values k) (Index T (entry T)) (resolve d (Index T (entry T)) (Integer x))) e ∙ sym (zero_met r z T).renumbered);
}
  where
    same_pos : (m n : ℕ) → pos m ≡ pos n → m ≡ n
    same_pos m n e = cc

    same_number : (m n : ℕ) → Integer (pos m) ≡ Integer (pos n) → m ≡ n
    same_number m n e = cc
