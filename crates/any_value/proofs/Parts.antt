-- The payloads of one AnyValue, one after the other.
use Rattle.std.proofs.Common.{◌≡◌, ℕ, ◌+◌, ◌-◌, ◌<◌, ◌≤◌, List, length, drop, map, get_or, Ok, ap, ◌∙◌, arith}
use Rattle.std.proofs.lemmas.List.{drop_more, drop_all}
use Rattle.schema.specs.AnyMerge.{any_levels, merge_any, merge_any_all, take_member}
use Rattle.schema.specs.AnyValue.{AnyValue}
use Rattle.schema.specs.Run.{run}
use Rattle.schema.specs.Decoding.{◌>>=◌, trace}
use Rattle.pb_wire.specs.declared.pieces.Piece.{Piece}
use Rattle.pb_wire.specs.Parts.{part_view}

-- the next payload, and those after it
pub next_part : (depth : ℕ) (v : AnyValue) (items : List Piece) (i : ℕ) (d : Piece) → i < length items
    → merge_any_all (any_levels (depth + 1)) v (map part_view (drop i items))
    ≡ (run (take_member (merge_any (64 - depth))) v (trace (get_or items i d).base (get_or items i d).bytes.now) >>= λ w. merge_any_all (any_levels (depth + 1)) w (map part_view (drop (i + 1) items)))
next_part depth v items i d lt =
    let e : any_levels (depth + 1) ≡ 64 - depth = omega arith in
    ap (λ (xs : List Piece). merge_any_all (any_levels (depth + 1)) v (map part_view xs)) (drop_more items i d lt)
    ∙ ap (λ (k : ℕ). run (take_member (merge_any k)) v (trace (get_or items i d).base (get_or items i d).bytes.now) >>= λ w. merge_any_all (any_levels (depth + 1)) w (map part_view (drop (i + 1) items))) e

-- no payload is left
pub no_part : (left : ℕ) (v : AnyValue) (items : List Piece) (i : ℕ) → length items ≤ i → merge_any_all left v (map part_view (drop i items)) ≡ Ok v
no_part left v items i le = ap (λ (xs : List Piece). merge_any_all left v (map part_view xs)) (drop_all i items le)
