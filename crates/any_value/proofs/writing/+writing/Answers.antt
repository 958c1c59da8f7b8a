use Rattle.std.proofs.Common.{subst, ◌++◌, ℕ, List, length, map, sym, ap, ◌∙◌, arith}
use Rattle.std.specs.List.{flat_map}
use Rattle.std.proofs.lemmas.List.{take_all}
use Rattle.pb_wire.proofs.RowTexts.{next_within}
use Rattle.schema.specs.Each.{Each}
use Rattle.schema.specs.Typed.{IsTypedAny}
use Rattle.any_value.specs.Views.{IsPairTyped, any_view, pair_view}
use Rattle.any_value.proofs.Elements.{item_falls, item_text, items_text_is, keyed_falls, keyed_text, pairs_text_is}
use Rattle.any_value.proofs.Types.{items_typed, pairs_typed}
use Rattle.any_value.proofs.writing.+writing.Goals as goal

pub push_each_item-push_item-requires : goal.push_each_item-push_item-requires
push_each_item-push_item-requires t c = (
  omega (arith, item_falls c.deref-item-items.result.now _ c.loop-item.item-index c.item-item.result (ap (map any_view) c.deref-item-items.ensures.value ∙ c.items.view_is) c.loop-item-test.true c.item-item.is),
  omega (arith, next_within item_text c.deref-item-items.result.now c.loop-item.item-index c.item-item.result c.loop-item-test.true c.item-item.is, ap length (items_text_is c.deref-item-items.result.now _ (ap (map any_view) c.deref-item-items.ensures.value ∙ c.items.view_is))),
)

pub push_each_item-returns-clause-ok : goal.push_each_item-returns-clause-ok
push_each_item-returns-clause-ok t c =
    c.loop-item.invariant.0
    ∙ ap (λ (text : List ℕ). c.args.out.now ++ text) (ap (flat_map item_text) (take_all c.loop-item.item-index c.deref-item-items.result.now (omega arith)) ∙ sym (items_text_is c.deref-item-items.result.now _ (ap (map any_view) c.deref-item-items.ensures.value ∙ c.items.view_is)))

pub push_each_pair-push_pair-requires : goal.push_each_pair-push_pair-requires
push_each_pair-push_pair-requires t c = (
  omega (arith, keyed_falls c.deref-pair-items.result.now _ c.loop-pair.pair-index c.pair-item.result (ap (map pair_view) c.deref-pair-items.ensures.value ∙ c.pairs.view_is) c.loop-pair-test.true c.pair-item.is),
  omega (arith, next_within keyed_text c.deref-pair-items.result.now c.loop-pair.pair-index c.pair-item.result c.loop-pair-test.true c.pair-item.is, ap length (pairs_text_is c.deref-pair-items.result.now _ (ap (map pair_view) c.deref-pair-items.ensures.value ∙ c.pairs.view_is))),
)

pub push_each_pair-returns-clause-ok : goal.push_each_pair-returns-clause-ok
push_each_pair-returns-clause-ok t c =
    c.loop-pair.invariant.0
    ∙ ap (λ (text : List ℕ). c.args.out.now ++ text) (ap (flat_map keyed_text) (take_all c.loop-pair.pair-index c.deref-pair-items.result.now (omega arith)) ∙ sym (pairs_text_is c.deref-pair-items.result.now _ (ap (map pair_view) c.deref-pair-items.ensures.value ∙ c.pairs.view_is)))

pub push_each_item-returns-clause-typed : goal.push_each_item-returns-clause-typed
push_each_item-returns-clause-typed t c =
    items_typed c.deref-item-items.result.now _ (ap (map any_view) c.deref-item-items.ensures.value ∙ c.items.view_is)
    (subst (Each (λ x. IsTypedAny (any_view x))) (take_all c.loop-item.item-index c.deref-item-items.result.now (omega arith)) c.loop-item.invariant.2)

pub push_each_pair-returns-clause-typed : goal.push_each_pair-returns-clause-typed
push_each_pair-returns-clause-typed t c =
    pairs_typed c.deref-pair-items.result.now _ (ap (map pair_view) c.deref-pair-items.ensures.value ∙ c.pairs.view_is)
    (subst (Each IsPairTyped) (take_all c.loop-pair.pair-index c.deref-pair-items.result.now (omega arith)) c.loop-pair.invariant.2)
