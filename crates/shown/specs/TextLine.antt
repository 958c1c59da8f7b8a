-- Lines of words, and bytes that are no control bytes.
use Rattle.std.specs.Prelude.{◌≡◌, ◌≤◌, ℕ, suc, List, [], ◌∷◌, ◌++◌, codes}
use Rattle.std.specs.List.{flat_map, join_by, repeat}

-- a line: its level, and its words
pub record TextLine : Type 0 where
  pub level : ℕ
  pub words : List (List ℕ)

abbrev pub at_level : ℕ → List (List ℕ) → TextLine
at_level level words = record { level = level; words = words }

-- what stands in a line: two spaces for each level, and the words with a space between them
abbrev pub line_content : TextLine → List ℕ
line_content l = repeat l.level (codes "  ") ++ join_by (λ word. word) (codes " ") l.words

-- a line ends with a line feed
abbrev pub line_text : TextLine → List ℕ
line_text l = line_content l ++ codes "\n"

-- lines, one after the other
abbrev pub lines_text : List TextLine → List ℕ
lines_text ls = flat_map line_text ls

-- the lines of each element of a list, by its position; the first has this one
abbrev pub numbered : {A : Type 0} → (ℕ → A → List TextLine) → ℕ → List A → List TextLine
numbered lines n [] = []
numbered lines n (x ∷ xs) = lines n x ++ numbered lines (suc n) xs

-- a byte that is no control byte
abbrev pub IsVisible : ℕ → Type 0
IsVisible b = (32 ≤ b) × (b ≡ 127 → ⊥)
