-- An entry that nothing names changes no meaning.
use Rattle.std.proofs.Common.{◌≡◌, ℕ, zero, suc, ◌<◌, List, [], ◌∷◌, ◌++◌, length, get_or, refl, ap, ◌∙◌, subst, sym, arith, pos, negsuc}
use Rattle.schema.specs.Each.{Each}
use Rattle.schema.specs.Shape.{Shape, Index, One, Many, Table}
use Rattle.meaning.specs.Tree.{Tree, Natural, Integer, Boolean, Octets, Nil, Cons, integer_of}
use Rattle.meaning.specs.Tables.{Tables, IsSound, entry}
use Rattle.meaning.specs.Meaning.{at_parts, at_each, blank, entry_at, resolve, or_blank, filled}
use Rattle.meaning.specs.Canonical.{HoldsForParts, HoldsForEach, IsIndex, IsWithin}
use Rattle.meaning.proofs.Forms.{entry_has}
use Rattle.meaning.proofs.Zeros.{filled-at}

-- ---- entries

-- an index 0 is in each table
zero_below : (es : List Tree) (k : Shape) → 0 < length (or_blank es k)
zero_below [] k = omega arith
zero_below (e ∷ es) k = omega arith

-- so the indexes of an empty value are in theirs
blank_within : (d : Tables) (s : Shape) → IsWithin d s (blank s)
blank_within d (One n k rest) = (blank_within d k, blank_within d rest)
blank_within d (Many n k rest) = (tt, blank_within d rest)
blank_within d (Index T k) = zero_below (d T) k
blank_within d s = tt

-- and those of each entry, if those of the table's entries are
entry_within : (d : Tables) (k : Shape) (es : List Tree) → Each (IsWithin d k) es → (t : Tree) → IsWithin d k (entry_at es k t)
entry_within d k = entry_has (IsWithin d k) k (blank_within d k)

-- what stands after a list is at none of its places
front : (es more : List Tree) (i : ℕ) (b : Tree) → i < length es → get_or (es ++ more) i b ≡ get_or es i b
front [] more i b h = absurd (omega arith)
front (e ∷ es) more zero b h = refl
front (e ∷ es) more (suc i) b h = front es more i b (omega arith)

-- so an index that is in its table names what it did
same_entry : (es more : List Tree) (k : Shape) (t : Tree) → IsIndex (length (or_blank es k)) (integer_of t)
    → entry_at (or_blank es k ++ more) k t ≡ entry_at es k t
same_entry es more k (Integer (pos i)) h = front (or_blank es k) more i (blank k) h ∙ filled-at es k (Integer (pos i))
same_entry es more k (Integer (negsuc i)) h = refl
same_entry es more k (Natural n) h = refl
same_entry es more k (Boolean b) h = refl
same_entry es more k (Octets a) h = refl
same_entry es more k Nil h = refl
same_entry es more k (Cons t ts) h = refl

-- ---- values

-- functions that agree where P holds
abbrev Agree : (Tree → Type 0) → (Tree → Tree) → (Tree → Tree) → Type 0
Agree P f g = (t : Tree) → P t → f t ≡ g t

-- agree on lists
each_agree : (P : Tree → Type 0) (f g : Tree → Tree) → Agree P f g → Agree (HoldsForEach P) (at_each f) (at_each g)
each_agree P f g a (Cons t ts) h =
    let e : f t ≡ g t = a t h.0 in
    let r : at_each f ts ≡ at_each g ts = each_agree P f g a ts h.1 in cc
each_agree P f g a (Natural n) h = refl
each_agree P f g a (Integer z) h = refl
each_agree P f g a (Boolean b) h = refl
each_agree P f g a (Octets o) h = refl
each_agree P f g a Nil h = refl

-- and on rows
parts_agree : (P Q : Tree → Type 0) (f f' g g' : Tree → Tree) → Agree P f g → Agree Q f' g' → Agree (HoldsForParts P Q) (at_parts f f') (at_parts g g')
parts_agree P Q f f' g g' a b (Cons t ts) h =
    let e : f t ≡ g t = a t h.0 in
    let r : f' ts ≡ g' ts = b ts h.1 in cc
parts_agree P Q f f' g g' a b (Natural n) h = refl
parts_agree P Q f f' g g' a b (Integer z) h = refl
parts_agree P Q f f' g g' a b (Boolean c) h = refl
parts_agree P Q f f' g g' a b (Octets o) h = refl
parts_agree P Q f f' g g' a b Nil h = refl

-- a dictionary with further entries
abbrev pub with_more : Tables → Tables → Tables
with_more d more T = filled d T ++ more T

-- means the same where each index is in its table
pub unused : (d more : Tables) → ((T : Table) → Each (IsWithin d (entry T)) (d T)) → (s : Shape) → IsSound s
    → Agree (IsWithin d s) (resolve (with_more d more) s) (resolve d s)
unused d more c (One n k rest) i t h =
    parts_agree (IsWithin d k) (IsWithin d rest) (resolve (with_more d more) k) (resolve (with_more d more) rest) (resolve d k) (resolve d rest)
    (unused d more c k i.0) (unused d more c rest i.1) t h
unused d more c (Many n k rest) i t h =
    parts_agree (HoldsForEach (IsWithin d k)) (IsWithin d rest) (at_each (resolve (with_more d more) k)) (resolve (with_more d more) rest)
    (at_each (resolve d k)) (resolve d rest)
    (each_agree (IsWithin d k) (resolve (with_more d more) k) (resolve d k) (unused d more c k i.0)) (unused d more c rest i.1) t h
unused d more c (Index T k) i t h =
    let e : entry_at (with_more d more T) k t ≡ entry_at (d T) k t =
    subst (λ z. entry_at (or_blank (d T) z ++ more T) k t ≡ entry_at (d T) k t) i.0 (same_entry (d T) (more T) k t h) in
    let w : IsWithin d k (entry_at (d T) k t) = entry_within d k (d T) (subst (λ z. Each (IsWithin d z) (d T)) (sym i.0) (c T)) t in
    ap (resolve (with_more d more) k) e ∙ unused d more c k i.1 (entry_at (d T) k t) w
unused d more c s i t h = refl
