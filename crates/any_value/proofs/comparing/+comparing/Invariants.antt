use Rattle.std.proofs.Common.{◌≡◌, ◌+◌, ◌*◌, drop, map}
use Rattle.schema.specs.AnyValue.{pairs_of, values_of}
use Rattle.any_value.specs.Equal.{pairs_eq, values_eq}
use Rattle.any_value.specs.Sizes.{any_size, list_size, pair_list_size}
use Rattle.any_value.specs.Views.{any_view, pair_view}
use Rattle.any_value.proofs.comparing.+comparing.Given as goal

-- ---- the calls go down into the value

abbrev pub decreases-same_value : goal.decreases-same_value
decreases-same_value l = 4 * any_size (any_view l.one.now) + 1

abbrev pub decreases-same_pair : goal.decreases-same_pair
decreases-same_pair l = 4 * any_size (any_view l.one.now.value) + 2

abbrev pub decreases-same_items : goal.decreases-same_items
decreases-same_items l = 4 * list_size l.one.now

abbrev pub decreases-same_pairs : goal.decreases-same_pairs
decreases-same_pairs l = 4 * pair_list_size l.one.now

-- ---- the elements to come decide

abbrev pub invariant-same_items-loop-place : goal.invariant-same_items-loop-place
invariant-same_items-loop-place l = values_eq (values_of (map any_view (drop l.place l.left))) (values_of (map any_view (drop l.place l.right))) ≡ values_eq (values_of l.fn.one) (values_of l.fn.other)

abbrev pub invariant-same_pairs-loop-place : goal.invariant-same_pairs-loop-place
invariant-same_pairs-loop-place l = pairs_eq (pairs_of (map pair_view (drop l.place l.left))) (pairs_of (map pair_view (drop l.place l.right))) ≡ pairs_eq (pairs_of l.fn.one) (pairs_of l.fn.other)
