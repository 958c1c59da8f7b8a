use Rattle.std.proofs.Common.{◌≡◌, ◌+◌, ◌*◌, ◌++◌, take}
use Rattle.std.specs.List.{flat_map}
use Rattle.schema.specs.Each.{Each}
use Rattle.schema.specs.Typed.{IsTypedAny}
use Rattle.schema.specs.Prefix.{IsPrefix}
use Rattle.any_value.specs.Sizes.{any_size, list_size, pair_list_size}
use Rattle.any_value.specs.Views.{IsPairTyped, any_view}
use Rattle.any_value.proofs.Elements.{item_text, keyed_text}
use Rattle.any_value.proofs.writing.+writing.Given as goal

-- ---- the calls go down into the value

abbrev pub decreases-push_value : goal.decreases-push_value
decreases-push_value l = 4 * any_size (any_view l.value.now) + 2

abbrev pub decreases-put_value : goal.decreases-put_value
decreases-put_value l = 4 * any_size (any_view l.value.now) + 3

abbrev pub decreases-push_item : goal.decreases-push_item
decreases-push_item l = 4 * any_size (any_view l.item.now) + 3

abbrev pub decreases-push_pair : goal.decreases-push_pair
decreases-push_pair l = 4 * any_size (any_view l.pair.now.value) + 4

abbrev pub decreases-push_items : goal.decreases-push_items
decreases-push_items l = 4 * list_size l.items.now + 1

abbrev pub decreases-push_each_item : goal.decreases-push_each_item
decreases-push_each_item l = 4 * list_size l.items.now

abbrev pub decreases-push_pairs : goal.decreases-push_pairs
decreases-push_pairs l = 4 * pair_list_size l.pairs.now + 1

abbrev pub decreases-push_each_pair : goal.decreases-push_each_pair
decreases-push_each_pair l = 4 * pair_list_size l.pairs.now

-- ---- the elements so far follow what was there, and are typed

abbrev pub invariant-push_each_item-loop-item : goal.invariant-push_each_item-loop-item
invariant-push_each_item-loop-item l =
    (l.out ≡ l.initial.out ++ flat_map item_text (take l.item-index l.item-items)) × IsPrefix l.initial.out l.out
    × Each (λ x. IsTypedAny (any_view x)) (take l.item-index l.item-items)

abbrev pub invariant-push_each_pair-loop-pair : goal.invariant-push_each_pair-loop-pair
invariant-push_each_pair-loop-pair l =
    (l.out ≡ l.initial.out ++ flat_map keyed_text (take l.pair-index l.pair-items)) × IsPrefix l.initial.out l.out
    × Each IsPairTyped (take l.pair-index l.pair-items)
