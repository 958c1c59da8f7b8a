-- Whether an entry is visited before or after those that it names makes no difference.
use Rattle.std.proofs.Common.{◌≡◌, List, [], ◌∷◌, ◌++◌, Bool, true, false, cond, not, ◌&&◌, refl, sym, ap, ◌∙◌, subst}
use mathlib.Core.Path.{fun_ext}
use Rattle.std.proofs.lemmas.List.{append-nil}
use Rattle.std.proofs.lemmas.Bool.{and_parts}
use Rattle.schema.specs.Shape.{Shape, Index, One, Many, Table, Mappings, Locations, Functions, Links, Strings, Attributes, Stacks}
use Rattle.meaning.specs.Tree.{Tree, Natural, Integer, Boolean, Octets, Nil, Cons}
use Rattle.meaning.specs.Tables.{IsSound, entry, same_table, with_new}
use Rattle.meaning.specs.Meaning.{walk_parts, walk_each, uses, visits}
use Rattle.meaning.specs.Canonical.{zeros, tables_of, visited_tables}
use Rattle.meaning.proofs.Soundness.{same_table-true}

-- a shape names no entry of the table
abbrev pub avoids : Table → Shape → Bool
avoids T (Index U k) = not (same_table T U) && avoids T k
avoids T (One n k rest) = avoids T k && avoids T rest
avoids T (Many n k rest) = avoids T k && avoids T rest
avoids T s = true

-- no entry leads back to its table
entry_avoids : (T : Table) → avoids T (entry T) ≡ true
entry_avoids Mappings = refl
entry_avoids Locations = refl
entry_avoids Functions = refl
entry_avoids Links = refl
entry_avoids Strings = refl
entry_avoids Attributes = refl
entry_avoids Stacks = refl

-- ---- walks that agree

-- at lists
each_agree : (w z : Tree → List Tree) → ((t : Tree) → w t ≡ z t) → (t : Tree) → walk_each w t ≡ walk_each z t
each_agree w z h t = ap (λ f. walk_each f t) (fun_ext h)

-- and at rows
parts_agree : (w z w' z' : Tree → List Tree) → ((t : Tree) → w t ≡ z t) → ((t : Tree) → w' t ≡ z' t) → (t : Tree) → walk_parts w w' t ≡ walk_parts z z' t
parts_agree w z w' z' h i t = ap (λ f. walk_parts f w' t) (fun_ext h) ∙ ap (λ f. walk_parts z f t) (fun_ext i)

-- ---- walks that meet nothing

-- at lists
each_none : (t : Tree) → walk_each (λ x. []) t ≡ []
each_none (Cons t ts) = each_none ts
each_none (Natural n) = refl
each_none (Integer z) = refl
each_none (Boolean b) = refl
each_none (Octets a) = refl
each_none Nil = refl

-- and at rows
parts_none : (t : Tree) → walk_parts (λ x. []) (λ x. []) t ≡ []
parts_none (Cons t ts) = refl
parts_none (Natural n) = refl
parts_none (Integer z) = refl
parts_none (Boolean b) = refl
parts_none (Octets a) = refl
parts_none Nil = refl

-- the walk of a shape that names no entry of the table meets none of its values
pub uses_none : (T : Table) (s : Shape) → avoids T s ≡ true → (t : Tree) → uses T s t ≡ []
uses_none T (One n k rest) h t =
    let p = and_parts (avoids T k) (avoids T rest) h in
    parts_agree (uses T k) (λ x. []) (uses T rest) (λ x. []) (uses_none T k p.0) (uses_none T rest p.1) t ∙ parts_none t
uses_none T (Many n k rest) h t =
    let p = and_parts (avoids T k) (avoids T rest) h in
    parts_agree (walk_each (uses T k)) (λ x. []) (uses T rest) (λ x. [])
    (λ u. each_agree (uses T k) (λ x. []) (uses_none T k p.0) u ∙ each_none u) (uses_none T rest p.1) t ∙ parts_none t
uses_none T (Index U k) h t =
    let p = and_parts (not (same_table T U)) (avoids T k) h in
    rw (uses_none T k p.1 t) (by_test (same_table T U) p.0)
  where
    by_test : (b : Bool) → not b ≡ true → cond b (t ∷ []) [] ++ [] ≡ []
    by_test true e = cc
    by_test false e = refl
uses_none T s h t = refl

-- ---- the two orders

-- an index and what its entry names may change places, since these are of other tables
pub uses-index : (T U : Table) (k : Shape) → k ≡ entry U → (t : Tree) → uses T (Index U k) t ≡ uses T k t ++ cond (same_table T U) (t ∷ []) []
uses-index T U k e t = by_test (same_table T U) refl
  where
    by_test : (b : Bool) → same_table T U ≡ b → cond b (t ∷ []) [] ++ uses T k t ≡ uses T k t ++ cond b (t ∷ []) []
    by_test false f = sym (append-nil (uses T k t))
    by_test true f =
        let a : entry T ≡ k = ap entry (same_table-true T U f) ∙ sym e in
        let n : uses T k t ≡ [] = subst (λ z. uses T z t ≡ []) a (uses_none T (entry T) (entry_avoids T) t) in
        rw n refl

-- so both orders meet the same values of each table, in the same order
pub visits-uses : (T : Table) (s : Shape) → IsSound s → (t : Tree) → visits T s t ≡ uses T s t
visits-uses T (One n k rest) i t = parts_agree (visits T k) (uses T k) (visits T rest) (uses T rest) (visits-uses T k i.0) (visits-uses T rest i.1) t
visits-uses T (Many n k rest) i t =
    parts_agree (walk_each (visits T k)) (walk_each (uses T k)) (visits T rest) (uses T rest)
    (each_agree (visits T k) (uses T k) (visits-uses T k i.0)) (visits-uses T rest i.1) t
visits-uses T (Index U k) i t =
    ap (λ l. l ++ cond (same_table T U) (t ∷ []) []) (visits-uses T k i.1 t) ∙ sym (uses-index T U k i.0 t)
visits-uses T s i t = refl

-- and give the same tables
pub orders_agree : (s : Shape) → IsSound s → (m : Tree) (T : Table) → visited_tables s m T ≡ tables_of s m T
orders_agree s i m T = ap (with_new (zeros T)) (visits-uses T s i m)
