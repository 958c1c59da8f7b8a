-- Meanings that are joined: where the last record of the one and the first of the next have equal heads, the two become one.
use Rattle.std.specs.Prelude.{ℕ, suc, List, [], ◌∷◌, ◌++◌, Bool, cond}
use Rattle.meaning.specs.Tree.{Tree, same}
use Rattle.parts.specs.Records.{held}
use Rattle.operations.specs.Outlines.{head, holding}

-- One list after the other; but where the last element of the first and the first one of the second are alike, `joined` makes
-- one of the two.
abbrev pub append_joining : (Tree → Tree → Bool) → (Tree → Tree → Tree) → List Tree → List Tree → List Tree
append_joining alike joined [] b = b
append_joining alike joined (r ∷ []) [] = r ∷ []
append_joining alike joined (r ∷ []) (s ∷ b) = cond (alike r s) (joined r s ∷ b) (r ∷ s ∷ b)
append_joining alike joined (r ∷ q ∷ a) b = r ∷ append_joining alike joined (q ∷ a) b

-- whether two records have equal heads
abbrev pub same_head : Tree → Tree → Bool
same_head r s = same (head r) (head s)

-- two scope records as one: the profiles of the first, and then those of the second
abbrev pub joined_scope : Tree → Tree → Tree
joined_scope r s = holding r (held r ++ held s)

-- two resource records as one: their scope records, with the two that meet made one where their heads are equal
abbrev pub joined_resource : Tree → Tree → Tree
joined_resource r s = holding r (append_joining same_head joined_scope (held r) (held s))

-- a meaning after another
abbrev pub seam : List Tree → List Tree → List Tree
seam a b = append_joining same_head joined_resource a b

-- several meanings, each after those before it
abbrev pub join_onto : List Tree → List (List Tree) → List Tree
join_onto a [] = a
join_onto a (m ∷ ms) = join_onto (seam a m) ms

abbrev pub join : List (List Tree) → List Tree
join ms = join_onto [] ms

-- ---- scope records of their own under the last resource record

-- two resource records as one: the scope records of both, each as it was
abbrev pub joined_under : Tree → Tree → Tree
joined_under r s = holding r (held r ++ held s)

-- A meaning after another; but where the last resource record of the first and the first of the second have equal heads, the
-- scope records of the second come under that of the first.
abbrev pub under_last : List Tree → List Tree → List Tree
under_last a b = append_joining same_head joined_under a b

-- ---- the heads that are left out

-- where the two elements that meet are alike, one, and as many more as `inside` says of them
abbrev pub repeats : (Tree → Tree → Bool) → (Tree → Tree → ℕ) → List Tree → List Tree → ℕ
repeats alike inside [] b = 0
repeats alike inside (r ∷ []) [] = 0
repeats alike inside (r ∷ []) (s ∷ b) = cond (alike r s) (suc (inside r s)) 0
repeats alike inside (r ∷ q ∷ a) b = repeats alike inside (q ∷ a) b

-- How many heads of the second meaning repeat the last ones of the first: none, that of its first resource record, or also
-- that of the first scope record in it.
abbrev pub repeated_heads : List Tree → List Tree → ℕ
repeated_heads a b = repeats same_head (λ r s. repeats same_head (λ q t. 0) (held r) (held s)) a b

-- how many heads of the second meaning `under_last` leaves out: none, or that of its first resource record
abbrev pub repeated_resource : List Tree → List Tree → ℕ
repeated_resource a b = repeats same_head (λ r s. 0) a b
