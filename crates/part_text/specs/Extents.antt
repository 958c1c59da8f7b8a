-- Extents, which are lengths of texts, and the parts that they cut from the two runs of texts.
use Rattle.std.specs.Prelude.{ℕ, ◌+◌, List, [], ◌∷◌, take, drop}
use Rattle.parts.specs.Parts.{RecordPart, ResourceBegins, ScopeBegins, ProfileText}
use Rattle.part_text.specs.declared.extent.Extent.{Extent}
use Rattle.part_text.specs.declared.extent.Extent.TheVariants as extents

-- the length of an extent's text in front, and of the text that closes its record
abbrev pub front_len : Extent → ℕ
front_len (extents.Resource f b) = f
front_len (extents.Scope f b) = f
front_len (extents.Profile n) = n

abbrev pub back_len : Extent → ℕ
back_len (extents.Resource f b) = b
back_len (extents.Scope f b) = b
back_len (extents.Profile n) = 0

-- those of several
abbrev pub fronts_len : List Extent → ℕ
fronts_len [] = 0
fronts_len (p ∷ ps) = front_len p + fronts_len ps

abbrev pub backs_len : List Extent → ℕ
backs_len [] = 0
backs_len (p ∷ ps) = back_len p + backs_len ps

-- the part of an extent: its texts are in front of these
abbrev pub part_in : Extent → List ℕ → List ℕ → RecordPart
part_in (extents.Resource f b) t u = ResourceBegins (take f t) (take b u)
part_in (extents.Scope f b) t u = ScopeBegins (take f t) (take b u)
part_in (extents.Profile n) t u = ProfileText (take n t)

-- the parts of extents, whose texts lie one after the other in both runs
abbrev pub parts_in : List Extent → List ℕ → List ℕ → List RecordPart
parts_in [] t u = []
parts_in (p ∷ ps) t u = part_in p t u ∷ parts_in ps (drop (front_len p) t) (drop (back_len p) u)
