use Rattle.std.proofs.Common.{◌+◌, ◌*◌, ◌++◌, codes, map, take}
use Rattle.std.specs.List.{flat_map}
use Rattle.any_value.specs.Sizes.{any_size, list_size, pair_list_size}
use Rattle.any_value.specs.Views.{any_view, pair_view}
use Rattle.shown.specs.AnyText.{any_shown}
use Rattle.line_text.specs.Pairs.{pair_shown}
use Rattle.line_text.proofs.values.+values.Given as goal

-- ---- the calls go down into the value

abbrev pub decreases-put_value : goal.decreases-put_value
decreases-put_value g l = 4 * any_size (any_view l.value.now) + 2

abbrev pub decreases-put_items : goal.decreases-put_items
decreases-put_items g l = 4 * list_size l.items.now + 1

abbrev pub decreases-put_more_items : goal.decreases-put_more_items
decreases-put_more_items g l = 4 * list_size (map any_view l.items.now)

abbrev pub decreases-put_pair : goal.decreases-put_pair
decreases-put_pair g l = 4 * any_size (any_view l.pair.now.value) + 3

abbrev pub decreases-put_pairs : goal.decreases-put_pairs
decreases-put_pairs g l = 4 * pair_list_size l.pairs.now + 1

abbrev pub decreases-put_more_pairs : goal.decreases-put_more_pairs
decreases-put_more_pairs g l = 4 * pair_list_size (map pair_view l.pairs.now)

-- ---- the elements so far are put

abbrev pub invariant-put_more_items-loop-item : goal.invariant-put_more_items-loop-item
invariant-put_more_items-loop-item g l =
    g.O.TextOut.Puts (l.initial.out, l.initial.to) (flat_map (λ v. codes ", " ++ any_shown (any_view v)) (take l.item-index l.items)) (l.out, l.to)

abbrev pub invariant-put_more_pairs-loop-pair : goal.invariant-put_more_pairs-loop-pair
invariant-put_more_pairs-loop-pair g l =
    g.O.TextOut.Puts (l.initial.out, l.initial.to) (flat_map (λ p. codes ", " ++ pair_shown p) (take l.pair-index l.pairs)) (l.out, l.to)
