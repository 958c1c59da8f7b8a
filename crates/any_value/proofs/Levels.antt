-- A value, a level at a time.
use Rattle.std.proofs.Common.{◌≡◌, ℕ, zero, suc, ◌-◌, ◌<◌, List, length, sym, ap, arith}
use Rattle.schema.specs.AnyMerge.{merge_any, take_member}
use Rattle.schema.specs.AnyValue.{AnyValue}
use Rattle.schema.specs.Run.{run}
use Rattle.schema.specs.Decoding.{trace}

-- where a level is left, the fields are taken, with one less for the values inside
pub level_is : (left at end : ℕ) (b : List ℕ) (v : AnyValue) → 0 < left
    → merge_any left at end b v ≡ run (take_member (merge_any (left - 1))) v (trace (end - length b) b)
unfolding merge_any
level_is zero at end b v some = absurd (omega arith)
level_is (suc left) at end b v some =
    let e : suc left - 1 ≡ left = omega arith in
    ap (λ (k : ℕ). run (take_member (merge_any k)) v (trace (end - length b) b)) (sym e)
