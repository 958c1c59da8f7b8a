-- The parts of a message, one after the other.
use Rattle.std.proofs.Common.{◌≡◌, ℕ, ◌+◌, ◌<◌, ◌≤◌, List, length, drop, map, get_or, Ok, ap}
use Rattle.std.proofs.lemmas.List.{drop_more, drop_all}
use Rattle.schema.specs.Merge.{merge, merge_all}
use Rattle.schema.specs.Shape.{Shape, Value}
use Rattle.schema.specs.Decoding.{◌>>=◌}
use Rattle.pb_wire.specs.declared.pieces.Piece.{Piece}
use Rattle.pb_wire.specs.Parts.{part_view}

-- the next part, and those after it
pub next_part : (s : Shape) (v : Value s) (items : List Piece) (i : ℕ) (d : Piece) → i < length items
    → merge_all s v (map part_view (drop i items))
    ≡ (merge s v (get_or items i d).base (get_or items i d).bytes.now >>= λ w. merge_all s w (map part_view (drop (i + 1) items)))
next_part s v items i d lt = ap (λ (xs : List Piece). merge_all s v (map part_view xs)) (drop_more items i d lt)

-- no part is left
pub no_part : (s : Shape) (v : Value s) (items : List Piece) (i : ℕ) → length items ≤ i → merge_all s v (map part_view (drop i items)) ≡ Ok v
no_part s v items i le = ap (λ (xs : List Piece). merge_all s v (map part_view xs)) (drop_all i items le)
