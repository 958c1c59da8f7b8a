use Rattle.std.proofs.Common.{◌++◌, map, take, ap, ◌∙◌, arith}
use Rattle.std.proofs.lemmas.List.{take_all}
use Rattle.std.specs.Hash as fed
use Rattle.std.specs.List.{flat_map}
use Rattle.any_value.specs.Views.{any_view, pair_view}
use Rattle.any_value.proofs.Hashing.{item_writes, items_writes_are, keyed_writes, pairs_writes_are}
use Rattle.any_value.proofs.feeding.+feeding.Goals as goal

pub feed_items-returns : goal.feed_items-returns
feed_items-returns g t c =
    let xs = c.deref-item-items.result.now in
    let same = ap (λ ys. flat_map item_writes ys ++ fed.u8 0) (take_all c.loop-item.item-index xs (omega arith)) ∙ items_writes_are xs _ (ap (map any_view) c.deref-item-items.ensures.value ∙ c.items.view_is) in
    fed.fed_along g.H.Hasher.write c.args.state.now c.write_u8-2.new.self same (fed.fed_then g.H.Hasher.write c.args.state.now c.loop-item.state c.write_u8-2.new.self (flat_map item_writes (take c.loop-item.item-index xs)) (fed.u8 0) c.loop-item.invariant c.write_u8-2.ensures)

pub feed_pairs-returns : goal.feed_pairs-returns
feed_pairs-returns g t c =
    let xs = c.deref-pair-items.result.now in
    let same = ap (λ ys. flat_map keyed_writes ys ++ fed.u8 0) (take_all c.loop-pair.pair-index xs (omega arith)) ∙ pairs_writes_are xs _ (ap (map pair_view) c.deref-pair-items.ensures.value ∙ c.pairs.view_is) in
    fed.fed_along g.H.Hasher.write c.args.state.now c.write_u8.new.self same (fed.fed_then g.H.Hasher.write c.args.state.now c.loop-pair.state c.write_u8.new.self (flat_map keyed_writes (take c.loop-pair.pair-index xs)) (fed.u8 0) c.loop-pair.invariant c.write_u8.ensures)
