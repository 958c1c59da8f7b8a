-- Meanings that are cut into parts of at most so many bytes.
use Rattle.std.specs.Prelude.{ℕ, zero, suc, List, [], ◌∷◌, length, take, drop, map, nat_lt, cond}
use Rattle.schema.specs.Messages.{resource_profiles}
use Rattle.meaning.specs.Tree.{Tree}
use Rattle.meaning.specs.Message.{meaning_text}
use Rattle.operations.specs.Flat.{FlatProfile, flat, group}

-- the number of bytes of a flat list as a message of its own
abbrev pub size_of : List FlatProfile → ℕ
size_of l = length (meaning_text resource_profiles (group l))

-- the greatest number from 1 to n with a size of at most the limit; or 1, if each has a greater size
abbrev pub longest_fit : ℕ → (ℕ → ℕ) → ℕ → ℕ
longest_fit limit size zero = 1
longest_fit limit size (suc n) = cond (nat_lt limit (size (suc n))) (longest_fit limit size n) (suc n)

-- how many profiles the first part has: those of the longest prefix that fits, or one
abbrev pub first_length : ℕ → List FlatProfile → ℕ
first_length limit l = longest_fit limit (λ n. size_of (take n l)) (length l)

-- the first part, and then what is left in the same way; but no more parts than this number
abbrev pub cut : ℕ → ℕ → List FlatProfile → List (List FlatProfile)
cut zero limit l = []
cut (suc more) limit [] = []
cut (suc more) limit (e ∷ l) =
    let n = first_length limit (e ∷ l) in take n (e ∷ l) ∷ cut more limit (drop n (e ∷ l))

-- the parts of a flat list; no more than there are profiles, since each part has one
abbrev pub flat_parts : ℕ → List FlatProfile → List (List Tree)
flat_parts limit l = map group (cut (length l) limit l)

-- the parts of meanings
abbrev pub parts : ℕ → List (List Tree) → List (List Tree)
parts limit ms = flat_parts limit (flat ms)
