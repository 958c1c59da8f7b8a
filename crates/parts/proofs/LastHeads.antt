-- The last heads of lists that are joined.
use Rattle.std.proofs.Common.{◌≡◌, List, [], ◌∷◌, ◌++◌, refl}
use Rattle.parts.specs.LastHeads.{LastHeads, no_heads, with_head, heads_from, last_heads}
use Rattle.parts.specs.Parts.{RecordPart}

pub heads_append : (ps qs : List RecordPart) (l : LastHeads) → heads_from l (ps ++ qs) ≡ heads_from (heads_from l ps) qs
heads_append [] qs l = refl
heads_append (p ∷ ps) qs l = heads_append ps qs (with_head l p)

-- they go on from those of the front
pub last_heads-append : (ps qs : List RecordPart) → last_heads (ps ++ qs) ≡ heads_from (last_heads ps) qs
last_heads-append ps qs = heads_append ps qs no_heads
