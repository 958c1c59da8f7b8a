use Rattle.std.proofs.Common.{◌≡◌, ◌+◌, ◌*◌, take}
use Rattle.std.specs.List.{flat_map, fold}
use Rattle.any_value.specs.Sizes.{any_size, list_size, pair_list_size}
use Rattle.any_value.specs.Views.{any_view}
use Rattle.any_value.proofs.Hashing.{item_writes, keyed_writes}
use Rattle.any_value.proofs.feeding.+feeding.Given as goal

-- ---- the calls go down into the value

abbrev pub decreases-feed_value : goal.decreases-feed_value
decreases-feed_value g l = 4 * any_size (any_view l.value.now) + 1

abbrev pub decreases-feed_pair : goal.decreases-feed_pair
decreases-feed_pair g l = 4 * any_size (any_view l.pair.now.value) + 2

abbrev pub decreases-feed_items : goal.decreases-feed_items
decreases-feed_items g l = 4 * list_size l.items.now

abbrev pub decreases-feed_pairs : goal.decreases-feed_pairs
decreases-feed_pairs g l = 4 * pair_list_size l.pairs.now

-- ---- the elements so far are fed

abbrev pub invariant-feed_items-loop-item : goal.invariant-feed_items-loop-item
invariant-feed_items-loop-item g l = l.state ≡ fold g.H.Hasher.write l.initial.state (flat_map item_writes (take l.item-index l.item-items))

abbrev pub invariant-feed_pairs-loop-pair : goal.invariant-feed_pairs-loop-pair
invariant-feed_pairs-loop-pair g l = l.state ≡ fold g.H.Hasher.write l.initial.state (flat_map keyed_writes (take l.pair-index l.pair-items))
