use Rattle.std.proofs.Common.{sym, ◌∙◌, arith, refl}
use Rattle.schema.specs.AnyMerge.{item_at, merge_any, pair_at, take_element, take_member, take_pair}
use Rattle.pb_wire.proofs.Merge.{fault_bind, ok_bind}
use Rattle.any_value.specs.Views.{any_view, pair_view}
use Rattle.any_value.proofs.Levels.{level_is}
use Rattle.any_value.proofs.Loops.{ends, field_below, field_inside, goes_on, of_field, of_none, stops}
use Rattle.any_value.proofs.reading.+reading.Goals as goal

pub in_value-returns-then-left-eq0 : goal.in_value-returns-then-left-eq0
unfolding merge_any
in_value-returns-then-left-eq0 t c = rw c.if-left-eq0.true refl

pub in_value-returns : goal.in_value-returns
in_value-returns t c = rw (level_is c.args.left c.args.at c.args.end c.args.bytes.now (any_view c.args.value.now) (omega arith)) c.take_members.ensures

-- ---- take_members

pub take_members-returns-in-Err : goal.take_members-returns-in-Err
take_members-returns-in-Err t c = sym c.loop-fault.invariant.same ∙ stops (take_member (merge_any c.args.left)) (any_view c.loop-fault.value) c.args.base c.loop-fault.at c.args.bytes.now c.in-Err.fault c.in-Err.ensures

pub take_members-returns-in-Ok-None : goal.take_members-returns-in-Ok-None
take_members-returns-in-Ok-None t c = sym c.loop-fault.invariant.same ∙ ends (take_member (merge_any c.args.left)) (any_view c.loop-fault.value) c.args.base c.loop-fault.at c.args.bytes.now (of_none c.args.base c.loop-fault.at c.args.bytes.now _ c.in-Ok-None.field-0-is c.in-Ok-None.ensures)

pub take_members-take_member-requires : goal.take_members-take_member-requires
take_members-take_member-requires t c = (omega arith, (field_inside c.args.base c.loop-fault.at c.args.bytes.now (c.in-Ok-Some.field, c.in-Ok-Some.after) (of_field c.args.base c.loop-fault.at c.args.bytes.now _ (c.in-Ok-Some.field, c.in-Ok-Some.after) c.in-Ok-Some.field-0-is c.in-Ok-Some.ensures), omega (arith, field_below c.args.base c.loop-fault.at c.args.bytes.now (c.in-Ok-Some.field, c.in-Ok-Some.after) (of_field c.args.base c.loop-fault.at c.args.bytes.now _ (c.in-Ok-Some.field, c.in-Ok-Some.after) c.in-Ok-Some.field-0-is c.in-Ok-Some.ensures))))

pub take_members-returns-in-Err-take_member : goal.take_members-returns-in-Err-take_member
take_members-returns-in-Err-take_member t c =
    fault_bind c.in-Err-take_member.fault _ _ _ (sym (goes_on (take_member (merge_any c.args.left)) (any_view c.loop-fault.value) c.args.base c.loop-fault.at c.args.bytes.now (c.in-Ok-Some.field, c.in-Ok-Some.after) (of_field c.args.base c.loop-fault.at c.args.bytes.now _ (c.in-Ok-Some.field, c.in-Ok-Some.after) c.in-Ok-Some.field-0-is c.in-Ok-Some.ensures)) ∙ c.loop-fault.invariant.same) c.in-Err-take_member.ensures

pub take_members-loop-fault-preserved : goal.take_members-loop-fault-preserved
take_members-loop-fault-preserved t c = record {
  inside = (of_field c.args.base c.loop-fault.at c.args.bytes.now _ (c.in-Ok-Some.field, c.in-Ok-Some.after) c.in-Ok-Some.field-0-is c.in-Ok-Some.ensures).1;
  same = ok_bind (any_view c.take_member.new.value) _ _ _ (sym (goes_on (take_member (merge_any c.args.left)) (any_view c.loop-fault.value) c.args.base c.loop-fault.at c.args.bytes.now (c.in-Ok-Some.field, c.in-Ok-Some.after) (of_field c.args.base c.loop-fault.at c.args.bytes.now _ (c.in-Ok-Some.field, c.in-Ok-Some.after) c.in-Ok-Some.field-0-is c.in-Ok-Some.ensures)) ∙ c.loop-fault.invariant.same) c.in_default.ensures;
}

-- ---- in_items

pub in_items-returns-in-Err : goal.in_items-returns-in-Err
in_items-returns-in-Err t c = sym c.loop-fault.invariant.same ∙ stops (take_element (item_at (merge_any c.args.left))) c.loop-fault.items c.args.base c.loop-fault.at c.args.bytes.now c.in-Err.fault c.in-Err.ensures

pub in_items-returns-in-Ok-None : goal.in_items-returns-in-Ok-None
in_items-returns-in-Ok-None t c = sym c.loop-fault.invariant.same ∙ ends (take_element (item_at (merge_any c.args.left))) c.loop-fault.items c.args.base c.loop-fault.at c.args.bytes.now (of_none c.args.base c.loop-fault.at c.args.bytes.now _ c.in-Ok-None.field-0-is c.in-Ok-None.ensures)

pub in_items-add_item-requires : goal.in_items-add_item-requires
in_items-add_item-requires t c = (omega arith, (field_inside c.args.base c.loop-fault.at c.args.bytes.now (c.in-Ok-Some.field, c.in-Ok-Some.after) (of_field c.args.base c.loop-fault.at c.args.bytes.now _ (c.in-Ok-Some.field, c.in-Ok-Some.after) c.in-Ok-Some.field-0-is c.in-Ok-Some.ensures), omega (arith, field_below c.args.base c.loop-fault.at c.args.bytes.now (c.in-Ok-Some.field, c.in-Ok-Some.after) (of_field c.args.base c.loop-fault.at c.args.bytes.now _ (c.in-Ok-Some.field, c.in-Ok-Some.after) c.in-Ok-Some.field-0-is c.in-Ok-Some.ensures))))

pub in_items-returns-in-Err-add_item : goal.in_items-returns-in-Err-add_item
in_items-returns-in-Err-add_item t c =
    fault_bind c.in-Err-add_item.fault _ _ _ (sym (goes_on (take_element (item_at (merge_any c.args.left))) c.loop-fault.items c.args.base c.loop-fault.at c.args.bytes.now (c.in-Ok-Some.field, c.in-Ok-Some.after) (of_field c.args.base c.loop-fault.at c.args.bytes.now _ (c.in-Ok-Some.field, c.in-Ok-Some.after) c.in-Ok-Some.field-0-is c.in-Ok-Some.ensures)) ∙ c.loop-fault.invariant.same) c.in-Err-add_item.ensures

pub in_items-loop-fault-preserved : goal.in_items-loop-fault-preserved
in_items-loop-fault-preserved t c = record {
  inside = (of_field c.args.base c.loop-fault.at c.args.bytes.now _ (c.in-Ok-Some.field, c.in-Ok-Some.after) c.in-Ok-Some.field-0-is c.in-Ok-Some.ensures).1;
  same = ok_bind c.add_item.new.items _ _ _ (sym (goes_on (take_element (item_at (merge_any c.args.left))) c.loop-fault.items c.args.base c.loop-fault.at c.args.bytes.now (c.in-Ok-Some.field, c.in-Ok-Some.after) (of_field c.args.base c.loop-fault.at c.args.bytes.now _ (c.in-Ok-Some.field, c.in-Ok-Some.after) c.in-Ok-Some.field-0-is c.in-Ok-Some.ensures)) ∙ c.loop-fault.invariant.same) c.in_default.ensures;
}

-- ---- in_pairs

pub in_pairs-returns-in-Err : goal.in_pairs-returns-in-Err
in_pairs-returns-in-Err t c = sym c.loop-fault.invariant.same ∙ stops (take_element (pair_at (merge_any c.args.left))) c.loop-fault.pairs c.args.base c.loop-fault.at c.args.bytes.now c.in-Err.fault c.in-Err.ensures

pub in_pairs-returns-in-Ok-None : goal.in_pairs-returns-in-Ok-None
in_pairs-returns-in-Ok-None t c = sym c.loop-fault.invariant.same ∙ ends (take_element (pair_at (merge_any c.args.left))) c.loop-fault.pairs c.args.base c.loop-fault.at c.args.bytes.now (of_none c.args.base c.loop-fault.at c.args.bytes.now _ c.in-Ok-None.field-0-is c.in-Ok-None.ensures)

pub in_pairs-add_pair-requires : goal.in_pairs-add_pair-requires
in_pairs-add_pair-requires t c = (omega arith, (field_inside c.args.base c.loop-fault.at c.args.bytes.now (c.in-Ok-Some.field, c.in-Ok-Some.after) (of_field c.args.base c.loop-fault.at c.args.bytes.now _ (c.in-Ok-Some.field, c.in-Ok-Some.after) c.in-Ok-Some.field-0-is c.in-Ok-Some.ensures), omega (arith, field_below c.args.base c.loop-fault.at c.args.bytes.now (c.in-Ok-Some.field, c.in-Ok-Some.after) (of_field c.args.base c.loop-fault.at c.args.bytes.now _ (c.in-Ok-Some.field, c.in-Ok-Some.after) c.in-Ok-Some.field-0-is c.in-Ok-Some.ensures))))

pub in_pairs-returns-in-Err-add_pair : goal.in_pairs-returns-in-Err-add_pair
in_pairs-returns-in-Err-add_pair t c =
    fault_bind c.in-Err-add_pair.fault _ _ _ (sym (goes_on (take_element (pair_at (merge_any c.args.left))) c.loop-fault.pairs c.args.base c.loop-fault.at c.args.bytes.now (c.in-Ok-Some.field, c.in-Ok-Some.after) (of_field c.args.base c.loop-fault.at c.args.bytes.now _ (c.in-Ok-Some.field, c.in-Ok-Some.after) c.in-Ok-Some.field-0-is c.in-Ok-Some.ensures)) ∙ c.loop-fault.invariant.same) c.in-Err-add_pair.ensures

pub in_pairs-loop-fault-preserved : goal.in_pairs-loop-fault-preserved
in_pairs-loop-fault-preserved t c = record {
  inside = (of_field c.args.base c.loop-fault.at c.args.bytes.now _ (c.in-Ok-Some.field, c.in-Ok-Some.after) c.in-Ok-Some.field-0-is c.in-Ok-Some.ensures).1;
  same = ok_bind c.add_pair.new.pairs _ _ _ (sym (goes_on (take_element (pair_at (merge_any c.args.left))) c.loop-fault.pairs c.args.base c.loop-fault.at c.args.bytes.now (c.in-Ok-Some.field, c.in-Ok-Some.after) (of_field c.args.base c.loop-fault.at c.args.bytes.now _ (c.in-Ok-Some.field, c.in-Ok-Some.after) c.in-Ok-Some.field-0-is c.in-Ok-Some.ensures)) ∙ c.loop-fault.invariant.same) c.in_default.ensures;
}

-- ---- in_pair

pub in_pair-returns-in-Err : goal.in_pair-returns-in-Err
in_pair-returns-in-Err t c = sym c.loop-fault.invariant.same ∙ stops (take_pair (merge_any c.args.left)) (pair_view c.loop-fault.pair) c.args.base c.loop-fault.at c.args.bytes.now c.in-Err.fault c.in-Err.ensures

pub in_pair-returns-in-Ok-None : goal.in_pair-returns-in-Ok-None
in_pair-returns-in-Ok-None t c = sym c.loop-fault.invariant.same ∙ ends (take_pair (merge_any c.args.left)) (pair_view c.loop-fault.pair) c.args.base c.loop-fault.at c.args.bytes.now (of_none c.args.base c.loop-fault.at c.args.bytes.now _ c.in-Ok-None.field-0-is c.in-Ok-None.ensures)

pub in_pair-take_pair-requires : goal.in_pair-take_pair-requires
in_pair-take_pair-requires t c = (omega arith, (field_inside c.args.base c.loop-fault.at c.args.bytes.now (c.in-Ok-Some.field, c.in-Ok-Some.after) (of_field c.args.base c.loop-fault.at c.args.bytes.now _ (c.in-Ok-Some.field, c.in-Ok-Some.after) c.in-Ok-Some.field-0-is c.in-Ok-Some.ensures), omega (arith, field_below c.args.base c.loop-fault.at c.args.bytes.now (c.in-Ok-Some.field, c.in-Ok-Some.after) (of_field c.args.base c.loop-fault.at c.args.bytes.now _ (c.in-Ok-Some.field, c.in-Ok-Some.after) c.in-Ok-Some.field-0-is c.in-Ok-Some.ensures))))

pub in_pair-returns-in-Err-take_pair : goal.in_pair-returns-in-Err-take_pair
in_pair-returns-in-Err-take_pair t c =
    fault_bind c.in-Err-take_pair.fault _ _ _ (sym (goes_on (take_pair (merge_any c.args.left)) (pair_view c.loop-fault.pair) c.args.base c.loop-fault.at c.args.bytes.now (c.in-Ok-Some.field, c.in-Ok-Some.after) (of_field c.args.base c.loop-fault.at c.args.bytes.now _ (c.in-Ok-Some.field, c.in-Ok-Some.after) c.in-Ok-Some.field-0-is c.in-Ok-Some.ensures)) ∙ c.loop-fault.invariant.same) c.in-Err-take_pair.ensures

pub in_pair-loop-fault-preserved : goal.in_pair-loop-fault-preserved
in_pair-loop-fault-preserved t c = record {
  inside = (of_field c.args.base c.loop-fault.at c.args.bytes.now _ (c.in-Ok-Some.field, c.in-Ok-Some.after) c.in-Ok-Some.field-0-is c.in-Ok-Some.ensures).1;
  same = ok_bind (pair_view c.take_pair.new.pair) _ _ _ (sym (goes_on (take_pair (merge_any c.args.left)) (pair_view c.loop-fault.pair) c.args.base c.loop-fault.at c.args.bytes.now (c.in-Ok-Some.field, c.in-Ok-Some.after) (of_field c.args.base c.loop-fault.at c.args.bytes.now _ (c.in-Ok-Some.field, c.in-Ok-Some.after) c.in-Ok-Some.field-0-is c.in-Ok-Some.ensures)) ∙ c.loop-fault.invariant.same) c.in_default.ensures;
}
