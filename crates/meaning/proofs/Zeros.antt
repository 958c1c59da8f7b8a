-- Zero values come first, and an empty table stands for its zero entry.
use Rattle.std.proofs.Common.{◌≡◌, ℕ, zero, suc, List, [], ◌∷◌, ◌++◌, get_or, map, true, refl, sym, ap, ◌∙◌, subst, pos, negsuc}
use mathlib.Core.Path.{fun_ext}
use Rattle.schema.specs.Shape.{Shape, Index, One, Many, Table}
use Rattle.meaning.specs.Tree.{Tree, Natural, Integer, Boolean, Octets, Nil, Cons}
use Rattle.meaning.specs.Tables.{Tables, IsSound, entry, has, place, with_new}
use Rattle.meaning.specs.Meaning.{at_parts, at_each, blank, zero_value, entry_at, resolve, uses, or_blank, filled, HasZeros}
use Rattle.meaning.specs.Canonical.{zeros, tables_of, renumber, entries}
use Rattle.meaning.proofs.Trees.{same-itself}
use Rattle.meaning.proofs.Places.{grown-begins}
use Rattle.meaning.proofs.Soundness.{entry_sound}

-- ---- lists of values that begin with the zero values

-- each list begins with its zero value
abbrev pub ZerosFirst : Tables → Type 0
ZerosFirst v = (T : Table) → (rest : List Tree) × (v T ≡ zero_value (entry T) ∷ rest)

-- then its place is 0
pub zero-place : (v : Tables) → ZerosFirst v → (T : Table) → place (v T) (zero_value (entry T)) ≡ 0
zero-place v h T = ap (λ l. place l (zero_value (entry T))) (h T).1 ∙ rw (same-itself (zero_value (entry T)))

-- and the list has it
pub zero-had : (v : Tables) → ZerosFirst v → (T : Table) → has (v T) (zero_value (entry T)) ≡ true
zero-had v h T = ap (λ l. has l (zero_value (entry T))) (h T).1 ∙ rw (same-itself (zero_value (entry T)))

-- the index of each zero value is 0
pub renumber-zero : (v : Tables) → ZerosFirst v → (s : Shape) → IsSound s → renumber v s (zero_value s) ≡ blank s
renumber-zero v h (One n k rest) i =
    let a : renumber v k (zero_value k) ≡ blank k = renumber-zero v h k i.0 in
    let b : renumber v rest (zero_value rest) ≡ blank rest = renumber-zero v h rest i.1 in cc
renumber-zero v h (Many n k rest) i = ap (Cons Nil) (renumber-zero v h rest i.1)
renumber-zero v h (Index T k) i =
    ap (λ j. Integer (pos j)) (ap (λ z. place (v T) (zero_value z)) i.0 ∙ zero-place v h T)
renumber-zero v h s i = refl

-- the first lists
pub zeros_first : ZerosFirst zeros
zeros_first T = ([], refl)

-- lists that grow keep what they begin with
pub first-grown : (v : Tables) → ZerosFirst v → (w : Tables) (us : Table → List Tree) → ((T : Table) → w T ≡ with_new (v T) (us T)) → ZerosFirst w
first-grown v h w us e T =
    let g = grown-begins (us T) (v T) in ((h T).0 ++ g.0, e T ∙ g.1 ∙ ap (λ l. l ++ g.0) (h T).1)

-- so canonical tables begin with the zero values
pub tables_first : (s : Shape) (m : Tree) → ZerosFirst (tables_of s m)
tables_first s m = first-grown zeros zeros_first (tables_of s m) (λ T. uses T s m) (λ T. refl)

-- and their entries with the empty ones
pub entries_first : (s : Shape) (m : Tree) (T : Table) → (rest : List Tree) × (entries (tables_of s m) T ≡ blank (entry T) ∷ rest)
entries_first s m T =
    let v = tables_of s m in
    let g = tables_first s m T in (
      map (renumber v (entry T)) g.0,
      ap (map (renumber v (entry T))) g.1 ∙ ap (λ b. b ∷ map (renumber v (entry T)) g.0) (renumber-zero v (tables_first s m) (entry T) (entry_sound T)),
    )

-- ---- dictionaries whose entries 0 are zero

-- then the empty value means the zero value
pub blank-resolves : (d : Tables) → HasZeros d → (s : Shape) → IsSound s → resolve d s (blank s) ≡ zero_value s
blank-resolves d h (One n k rest) i =
    let a : resolve d k (blank k) ≡ zero_value k = blank-resolves d h k i.0 in
    let b : resolve d rest (blank rest) ≡ zero_value rest = blank-resolves d h rest i.1 in cc
blank-resolves d h (Many n k rest) i = ap (Cons Nil) (blank-resolves d h rest i.1)
blank-resolves d h (Index T k) i =
    let e : get_or (d T) 0 (blank k) ≡ blank k = subst (λ z. get_or (d T) 0 (blank z) ≡ blank z) (sym i.0) (h T) in
    ap (resolve d k) e ∙ blank-resolves d h k i.1
blank-resolves d h s i = refl

-- so each index to a zero entry means it
pub zero-index : (d : Tables) → HasZeros d → (T : Table) (i : ℕ) → entry_at (d T) (entry T) (Integer (pos i)) ≡ blank (entry T)
    → resolve d (Index T (entry T)) (Integer (pos i)) ≡ resolve d (Index T (entry T)) (Integer (pos 0))
zero-index d h T i e = ap (resolve d (entry T)) (e ∙ sym (h T))

-- and an entry that means the zero value is index 0 in canonical tables
pub zero-again : (s : Shape) (m : Tree) (d : Tables) (T : Table) (i : ℕ)
    → resolve d (entry T) (entry_at (d T) (entry T) (Integer (pos i))) ≡ zero_value (entry T)
    → renumber (tables_of s m) (Index T (entry T)) (resolve d (Index T (entry T)) (Integer (pos i))) ≡ Integer (pos 0)
zero-again s m d T i e = ap (renumber (tables_of s m) (Index T (entry T))) e ∙ ap (λ j. Integer (pos j)) (zero-place (tables_of s m) (tables_first s m) T)

-- ---- empty tables

-- the zero entry of an empty table is what stands for no entry
pub filled-at : (es : List Tree) (k : Shape) (t : Tree) → entry_at (or_blank es k) k t ≡ entry_at es k t
filled-at [] k (Integer (pos zero)) = refl
filled-at [] k (Integer (pos (suc i))) = refl
filled-at [] k (Integer (negsuc i)) = refl
filled-at [] k (Natural n) = refl
filled-at [] k (Boolean b) = refl
filled-at [] k (Octets a) = refl
filled-at [] k Nil = refl
filled-at [] k (Cons t ts) = refl
filled-at (e ∷ es) k t = refl

-- so filling changes no meaning
pub filled-resolves : (d : Tables) (s : Shape) → IsSound s → (t : Tree) → resolve (filled d) s t ≡ resolve d s t
filled-resolves d (One n k rest) i t =
    ap (λ f. at_parts f (resolve (filled d) rest) t) (fun_ext (filled-resolves d k i.0))
    ∙ ap (λ f. at_parts (resolve d k) f t) (fun_ext (filled-resolves d rest i.1))
filled-resolves d (Many n k rest) i t =
    ap (λ f. at_parts (at_each f) (resolve (filled d) rest) t) (fun_ext (filled-resolves d k i.0))
    ∙ ap (λ f. at_parts (at_each (resolve d k)) f t) (fun_ext (filled-resolves d rest i.1))
filled-resolves d (Index T k) i t =
    let e : entry_at (filled d T) k t ≡ entry_at (d T) k t = subst (λ z. entry_at (filled d T) z t ≡ entry_at (d T) z t) (sym i.0) (filled-at (d T) (entry T) t) in
    ap (resolve (filled d) k) e ∙ filled-resolves d k i.1 (entry_at (d T) k t)
filled-resolves d s i t = refl
