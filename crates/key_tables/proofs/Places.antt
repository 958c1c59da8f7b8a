-- The lists of tables by their places, and one that changes.
use Rattle.std.proofs.Common.{◌≡◌, ℕ, zero, suc, ◌+◌, ◌<◌, ◌≤◌, ◌^◌, List, [], ◌∷◌, ◌++◌, length, get_or, false, inl, inr, refl, sym, ap, ◌∙◌, subst, true≢false, ◌≢◌, arith}
use Rattle.std.specs.Prelude.{slice_set, slice_get, Some, Result, Ok, Err, IfOk, OnErr}
use Rattle.std.proofs.lemmas.Bool.{eq-eqb}
use Rattle.std.proofs.lemmas.Option.{get_or_from_slice_get, slice_get_read}
use Rattle.std.proofs.lemmas.List.{get_or-set_same, get_or-set_other, set-get_or, length-set}
use Rattle.schema.specs.Shape.{Table, Mappings, Locations, Functions, Links, Strings, Attributes, Stacks}
use Rattle.schema.specs.Tables.{field_of, same_table}
use Rattle.pb_wire.specs.TableKinds.{place_of}
use Rattle.tables.specs.Keys.{Interned}
use Rattle.tables.proofs.Places.{at_within}
use Rattle.schema.specs.Prefix.{IsPrefix}
use Rattle.key_tables.specs.Keys.{Keys, at, AreFew, ArePrefixes, InternedIn, zero_keys}
use Rattle.key_tables.proofs.Prefixes.{prefix_longer}

-- ---- places

pub place_below : (T : Table) → place_of T < 7
place_below Mappings = omega arith
place_below Locations = omega arith
place_below Functions = omega arith
place_below Links = omega arith
place_below Strings = omega arith
place_below Attributes = omega arith
place_below Stacks = omega arith

pub field_at : (T : Table) → field_of T ≡ 1 + place_of T
field_at Mappings = refl
field_at Locations = refl
field_at Functions = refl
field_at Links = refl
field_at Strings = refl
field_at Attributes = refl
field_at Stacks = refl

-- different tables have different places
pub other_place : (U T : Table) → same_table U T ≡ false → place_of U ≢ place_of T
other_place U T e p =
    let f : field_of U ≡ field_of T = field_at U ∙ ap (λ n. 1 + n) p ∙ sym (field_at T) in
    true≢false (sym (eq-eqb (field_of U) (field_of T) f) ∙ e)

-- ---- seven lists

-- are those of the tables
pub one_by_one : {A : Type 0} (xss : List (List A)) → length xss ≡ 7
    → xss ≡ at xss Mappings ∷ at xss Locations ∷ at xss Functions ∷ at xss Links ∷ at xss Strings ∷ at xss Attributes ∷ at xss Stacks ∷ []
one_by_one [] e = absurd (omega (arith, e))
one_by_one (a ∷ []) e = absurd (omega (arith, e))
one_by_one (a ∷ b ∷ []) e = absurd (omega (arith, e))
one_by_one (a ∷ b ∷ c ∷ []) e = absurd (omega (arith, e))
one_by_one (a ∷ b ∷ c ∷ d ∷ []) e = absurd (omega (arith, e))
one_by_one (a ∷ b ∷ c ∷ d ∷ f ∷ []) e = absurd (omega (arith, e))
one_by_one (a ∷ b ∷ c ∷ d ∷ f ∷ g ∷ []) e = absurd (omega (arith, e))
one_by_one (a ∷ b ∷ c ∷ d ∷ f ∷ g ∷ h ∷ []) e = refl
one_by_one (a ∷ b ∷ c ∷ d ∷ f ∷ g ∷ h ∷ i ∷ more) e = absurd (omega (arith, e))

-- so they are the same where those of each table are
pub same_by_table : {A : Type 0} (xss yss : List (List A)) → length xss ≡ 7 → length yss ≡ 7 → ((T : Table) → at xss T ≡ at yss T) → xss ≡ yss
same_by_table xss yss seven seven' h =
    let all = one_by_one xss seven in
    let all' = one_by_one yss seven' in
    let a = h Mappings in
    let b = h Locations in
    let c = h Functions in
    let d = h Links in
    let e = h Strings in
    let f = h Attributes in
    let g = h Stacks in
    cc

-- the zero entries alone
pub at_zero : (T : Table) → at zero_keys T ≡ [] ∷ []
at_zero Mappings = refl
at_zero Locations = refl
at_zero Functions = refl
at_zero Links = refl
at_zero Strings = refl
at_zero Attributes = refl
at_zero Stacks = refl

-- ---- one list that is read

pub read_at : (keys : Keys) (place : ℕ) (k : List (List ℕ)) → slice_get keys place ≡ Some k → k ≡ get_or keys place []
read_at keys place k e = sym (get_or_from_slice_get keys place k [] e)

pub read_within : (keys : Keys) (place : ℕ) (k : List (List ℕ)) → place < length keys → k ≡ get_or keys place k → k ≡ get_or keys place []
read_within keys place k l e = read_at keys place k (slice_get_read keys (length keys) place k refl l e)

-- ---- one list that is set

-- to what it was
pub set_itself : (keys : Keys) (place : ℕ) (k : List (List ℕ)) → slice_get keys place ≡ Some k → slice_set keys place k ≡ keys
set_itself keys place k e = ap (slice_set keys place) (read_at keys place k e) ∙ set-get_or keys place []

-- what holds of each list by its place holds after one is set to a list of which it holds
pub each_set : (P : ℕ → List (List ℕ) → Type 0) (old : Keys) (p : ℕ) (keys : List (List ℕ)) → ((q : ℕ) → P q (get_or old q [])) → P p keys
    → (q : ℕ) → P q (get_or (slice_set old p keys) q [])
each_set P [] p keys h k q = h q
each_set P (x ∷ xs) zero keys h k zero = k
each_set P (x ∷ xs) zero keys h k (suc q) = h (suc q)
each_set P (x ∷ xs) (suc p) keys h k zero = h zero
each_set P (x ∷ xs) (suc p) keys h k (suc q) = each_set (λ r. P (suc r)) xs p keys (λ r. h (suc r)) k q

module _ (T : Table) (old : Keys) (key : List ℕ) (new : Keys) (index : ℕ) (h : InternedIn (place_of T) old key new index) where
  pub as_many : length new ≡ length old
  as_many = ap length h.is ∙ length-set old (place_of T) h.keys

  -- the keys of this table
  pub set_here : length old ≡ 7 → at new T ≡ h.keys
  set_here seven =
      let below : place_of T < length old = omega (arith, place_below T, seven) in
      ap (λ k. at k T) h.is ∙ get_or-set_same old (place_of T) h.keys [] below

  pub interned_here : length old ≡ 7 → Interned (at old T) key (at new T) index
  interned_here seven = subst (λ k. Interned (at old T) key k index) (sym (set_here seven)) h.interned

  -- the others
  pub others_stay : (U : Table) → same_table U T ≡ false → at new U ≡ at old U
  others_stay U e = ap (λ k. at k U) h.is ∙ get_or-set_other old (place_of T) (place_of U) h.keys [] (other_place U T e)

  -- all
  pub few_still : AreFew old → AreFew new
  few_still f = subst AreFew (sym h.is) (each_set (λ q k. length k < 2 ^ 31) old (place_of T) h.keys f h.few)

  pub prefixes_still : (base : Keys) → ArePrefixes base old → ArePrefixes base new
  prefixes_still base b = record {
    many = as_many ∙ b.many;
    front = subst (λ k. (q : ℕ) → IsPrefix (get_or base q []) (get_or k q [])) (sym h.is)
        (each_set (λ q k. IsPrefix (get_or base q []) k) old (place_of T) h.keys b.front (of_interned h.interned));
  }
    where
      of_interned : Interned (at old T) key h.keys index → IsPrefix (at base T) h.keys
      of_interned (inl f) = subst (IsPrefix (at base T)) (sym f.same) (b.front (place_of T))
      of_interned (inr a) = prefix_longer (at base T) (at old T) (key ∷ []) h.keys a.grown (b.front (place_of T))

  -- a key that had a place leaves all as it was
  pub all_same : h.keys ≡ at old T → new ≡ old
  all_same e = h.is ∙ ap (slice_set old (place_of T)) e ∙ set-get_or old (place_of T) []

-- a key that is interned in its table, read and set in the list
pub interned_in : {E : Type 0} (r : Result ℕ E) (p : ℕ) (old : Keys) (key : List ℕ) (k k' : List (List ℕ)) → slice_get old p ≡ Some k → length k' < 2 ^ 31
    → IfOk r (Interned k key k') → IfOk r (InternedIn p old key (slice_set old p k'))
interned_in (Ok i) p old key k k' e few h = record { keys = k'; interned = subst (λ x. Interned x key k' i) (read_at old p k e) h; is = refl; few = few }
interned_in (Err x) p old key k k' e few h = tt

-- and one where it was out of memory
pub not_interned : {E : Type 0} (r : Result ℕ E) (p : ℕ) (old : Keys) (k k' : List (List ℕ)) → slice_get old p ≡ Some k → OnErr r (k' ≡ k) → OnErr r (slice_set old p k' ≡ old)
not_interned (Ok i) p old k k' e h = tt
not_interned (Err x) p old k k' e h = ap (slice_set old p) h ∙ set_itself old p k e

-- ---- old and new keys

-- a key that has one of the old places adds nothing, and any other one is new
pub interned_old : (old new : List (List ℕ)) (key : List ℕ) (j : ℕ) → Interned old key new j → j < length old → new ≡ old
interned_old old new key j (inl f) l = f.same
interned_old old new key j (inr a) l = absurd (omega (arith, a.last, l))

pub interned_new : (old new : List (List ℕ)) (key : List ℕ) (j : ℕ) → Interned old key new j → length old ≤ j → new ≡ old ++ key ∷ []
interned_new old new key j (inl f) l = absurd (omega (arith, at_within old key j f.had.0, l))
interned_new old new key j (inr a) l = a.grown
