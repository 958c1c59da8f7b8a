use Rattle.std.proofs.Common.{◌≡◌, ◌+◌, ◌-◌, ◌*◌, ◌≤◌, length, drop}
use Rattle.schema.specs.AnyMerge.{item_at, merge_any, pair_at, take_element, take_member, take_pair}
use Rattle.schema.specs.Run.{run}
use Rattle.schema.specs.Decoding.{trace}
use Rattle.any_value.specs.Views.{any_view, pair_view}
use Rattle.any_value.proofs.reading.+reading.Given as goal

-- ---- the calls go down the levels, and in this order on each

abbrev pub decreases-in_value : goal.decreases-in_value
decreases-in_value l = 8 * l.left

abbrev pub decreases-take_members : goal.decreases-take_members
decreases-take_members l = 8 * l.left + 7

abbrev pub decreases-take_member : goal.decreases-take_member
decreases-take_member l = 8 * l.left + 6

abbrev pub decreases-take_items : goal.decreases-take_items
decreases-take_items l = 8 * l.left + 4

abbrev pub decreases-in_items : goal.decreases-in_items
decreases-in_items l = 8 * l.left + 3

abbrev pub decreases-add_item : goal.decreases-add_item
decreases-add_item l = 8 * l.left + 2

abbrev pub decreases-take_pairs : goal.decreases-take_pairs
decreases-take_pairs l = 8 * l.left + 5

abbrev pub decreases-in_pairs : goal.decreases-in_pairs
decreases-in_pairs l = 8 * l.left + 4

abbrev pub decreases-add_pair : goal.decreases-add_pair
decreases-add_pair l = 8 * l.left + 3

abbrev pub decreases-in_pair : goal.decreases-in_pair
decreases-in_pair l = 8 * l.left + 2

abbrev pub decreases-take_pair : goal.decreases-take_pair
decreases-take_pair l = 8 * l.left + 1

-- ---- and a loop has taken what lies before `at`

abbrev pub invariant-take_members-loop-fault : goal.invariant-take_members-loop-fault
invariant-take_members-loop-fault l = record { inside : l.at ≤ length l.bytes; same : run (take_member (merge_any l.left)) (any_view l.value) (trace (l.base + l.at) (drop l.at l.bytes)) ≡ run (take_member (merge_any l.left)) (any_view l.initial.value) (trace l.base l.bytes) }

abbrev pub decreases-take_members-loop-fault : goal.decreases-take_members-loop-fault
decreases-take_members-loop-fault l = length l.bytes - l.at

abbrev pub invariant-in_items-loop-fault : goal.invariant-in_items-loop-fault
invariant-in_items-loop-fault l = record { inside : l.at ≤ length l.bytes; same : run (take_element (item_at (merge_any l.left))) l.items (trace (l.base + l.at) (drop l.at l.bytes)) ≡ run (take_element (item_at (merge_any l.left))) l.initial.items (trace l.base l.bytes) }

abbrev pub decreases-in_items-loop-fault : goal.decreases-in_items-loop-fault
decreases-in_items-loop-fault l = length l.bytes - l.at

abbrev pub invariant-in_pairs-loop-fault : goal.invariant-in_pairs-loop-fault
invariant-in_pairs-loop-fault l = record { inside : l.at ≤ length l.bytes; same : run (take_element (pair_at (merge_any l.left))) l.pairs (trace (l.base + l.at) (drop l.at l.bytes)) ≡ run (take_element (pair_at (merge_any l.left))) l.initial.pairs (trace l.base l.bytes) }

abbrev pub decreases-in_pairs-loop-fault : goal.decreases-in_pairs-loop-fault
decreases-in_pairs-loop-fault l = length l.bytes - l.at

abbrev pub invariant-in_pair-loop-fault : goal.invariant-in_pair-loop-fault
invariant-in_pair-loop-fault l = record { inside : l.at ≤ length l.bytes; same : run (take_pair (merge_any l.left)) (pair_view l.pair) (trace (l.base + l.at) (drop l.at l.bytes)) ≡ run (take_pair (merge_any l.left)) (pair_view l.initial.pair) (trace l.base l.bytes) }

abbrev pub decreases-in_pair-loop-fault : goal.decreases-in_pair-loop-fault
decreases-in_pair-loop-fault l = length l.bytes - l.at
