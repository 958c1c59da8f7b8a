use Rattle.std.proofs.Common.{◌≡◌, ◌+◌, ◌*◌, map, take}
use Rattle.any_value.specs.Sizes.{any_size, list_size, pair_list_size}
use Rattle.any_value.specs.Views.{any_view, pair_view}
use Rattle.any_value.proofs.copying.+copying.Given as goal

-- ---- the calls go down into the value

abbrev pub decreases-copy_value : goal.decreases-copy_value
decreases-copy_value l = 4 * any_size (any_view l.value.now) + 1

abbrev pub decreases-add_item_copy : goal.decreases-add_item_copy
decreases-add_item_copy l = 4 * any_size (any_view l.item.now) + 2

abbrev pub decreases-add_pair_copy : goal.decreases-add_pair_copy
decreases-add_pair_copy l = 4 * any_size (any_view l.pair.now.value) + 2

abbrev pub decreases-copy_items : goal.decreases-copy_items
decreases-copy_items l = 4 * list_size l.items.now

abbrev pub decreases-copy_pairs : goal.decreases-copy_pairs
decreases-copy_pairs l = 4 * pair_list_size l.pairs.now

-- ---- the elements so far are copied

abbrev pub invariant-copy_items-loop-item : goal.invariant-copy_items-loop-item
invariant-copy_items-loop-item l = l.copy ≡ map any_view (take l.item-index l.item-items)

abbrev pub invariant-copy_pairs-loop-pair : goal.invariant-copy_pairs-loop-pair
invariant-copy_pairs-loop-pair l = l.copy ≡ map pair_view (take l.pair-index l.pair-items)
