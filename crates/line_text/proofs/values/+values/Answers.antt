use Rattle.std.proofs.Common.{◌++◌, sym, ap, codes, refl, arith}
use Rattle.any_value.specs.Views.{any_view}
use Rattle.any_value.proofs.Elements.{item_falls, keyed_falls}
use Rattle.shown.specs.Quoted.{quoted}
use Rattle.shown.specs.AnyText.{any_shown, values_shown, pairs_shown}
use Rattle.schema.specs.AnyValue.{values_of, pairs_of}
use Rattle.line_text.specs.Pairs.{pair_shown}
use Rattle.line_text.proofs.Following.{put_as, then_put, put_next, put_all_of}
use Rattle.line_text.proofs.Lists.{item_shown, items_shown, keyed_shown, other_items_fall, other_pairs_fall}
use Rattle.line_text.proofs.values.+values.Goals as goal

-- ---- the calls go down into the value

pub put_items-put_more_items-requires : goal.put_items-put_more_items-requires
put_items-put_more_items-requires g t c κs within = (omega (arith, other_items_fall c.as_slice.result.now _ c.as_slice.ensures), within)

pub put_pairs-put_more_pairs-requires : goal.put_pairs-put_more_pairs-requires
put_pairs-put_more_pairs-requires g t c κs within = (omega (arith, other_pairs_fall c.as_slice.result.now _ c.as_slice.ensures), within)

pub put_more_items-put_value-requires : goal.put_more_items-put_value-requires
put_more_items-put_value-requires g t c κs within =
    (omega (arith, item_falls c.args.items.now _ c.loop-item.item-index c.item-item.result refl c.loop-item-test.true c.item-item.is), within)

pub put_more_pairs-put_pair-requires : goal.put_more_pairs-put_pair-requires
put_more_pairs-put_pair-requires g t c κs within =
    (omega (arith, keyed_falls c.args.pairs.now _ c.loop-pair.pair-index c.pair-item.result refl c.loop-pair-test.true c.pair-item.is), within)

-- ---- lists

pub put_items-returns-in-len1-up : goal.put_items-returns-in-len1-up
put_items-returns-in-len1-up g t c =
    put_as g.O.TextOut.Puts _ _ _ _ (items_shown c.as_slice.result.now c.args.items.now c.first-item.result c.first-item.result c.as_slice.ensures c.in-len1-up.len_at_least c.first-item.is)
    (then_put g.O.TextOut.Puts g.O.TextOut.lawful (item_shown c.first-item.result) c.put_value.ensures c.put_more_items.ensures)

pub put_pairs-returns-in-len1-up : goal.put_pairs-returns-in-len1-up
put_pairs-returns-in-len1-up g t c =
    put_as g.O.TextOut.Puts _ _ _ _ (keyed_shown c.as_slice.result.now c.args.pairs.now c.first-item.result c.first-item.result c.as_slice.ensures c.in-len1-up.len_at_least c.first-item.is)
    (then_put g.O.TextOut.Puts g.O.TextOut.lawful (pair_shown c.first-item.result) c.put_pair.ensures c.put_more_pairs.ensures)

pub put_more_items-loop-item-preserved : goal.put_more_items-loop-item-preserved
put_more_items-loop-item-preserved g t c =
    let puts = g.O.TextOut.Puts in let laws = g.O.TextOut.lawful in
    put_next puts laws (λ v. codes ", " ++ item_shown v) c.args.items.now c.loop-item.item-index c.item-item.result c.item-item.result c.loop-item-test.true c.item-item.is c.loop-item.invariant
    (then_put puts laws (codes ", ") c.put.ensures c.put_value.ensures)

pub put_more_items-returns : goal.put_more_items-returns
put_more_items-returns g t c = put_all_of g.O.TextOut.Puts (λ v. codes ", " ++ item_shown v) c.args.items.now c.loop-item.item-index c.loop-item-test.false c.loop-item.invariant

pub put_more_pairs-loop-pair-preserved : goal.put_more_pairs-loop-pair-preserved
put_more_pairs-loop-pair-preserved g t c =
    let puts = g.O.TextOut.Puts in let laws = g.O.TextOut.lawful in
    put_next puts laws (λ p. codes ", " ++ pair_shown p) c.args.pairs.now c.loop-pair.pair-index c.pair-item.result c.pair-item.result c.loop-pair-test.true c.pair-item.is c.loop-pair.invariant
    (then_put puts laws (codes ", ") c.put.ensures c.put_pair.ensures)

pub put_more_pairs-returns : goal.put_more_pairs-returns
put_more_pairs-returns g t c = put_all_of g.O.TextOut.Puts (λ p. codes ", " ++ pair_shown p) c.args.pairs.now c.loop-pair.pair-index c.loop-pair-test.false c.loop-pair.invariant

pub put_pair-returns : goal.put_pair-returns
put_pair-returns g t c =
    let puts = g.O.TextOut.Puts in let laws = g.O.TextOut.lawful in
    then_put puts laws (quoted c.args.pair.now.key) c.put_text.ensures (then_put puts laws (codes ": ") c.put.ensures c.put_value.ensures)

-- ---- forms

pub put_value-returns-in-Text : goal.put_value-returns-in-Text
put_value-returns-in-Text g t c =
    put_as g.O.TextOut.Puts _ _ _ _ (ap (λ v. any_shown (any_view v)) (sym c.in-Text.is))
    (then_put g.O.TextOut.Puts g.O.TextOut.lawful (codes "text ") c.put-in-Text.ensures c.put_text.ensures)

pub put_value-returns-in-Int : goal.put_value-returns-in-Int
put_value-returns-in-Int g t c =
    put_as g.O.TextOut.Puts _ _ _ _ (ap (λ v. any_shown (any_view v)) (sym c.in-Int.is))
    (then_put g.O.TextOut.Puts g.O.TextOut.lawful (codes "int ") c.put-in-Int.ensures c.put_number.ensures)

pub put_value-returns-in-Double : goal.put_value-returns-in-Double
put_value-returns-in-Double g t c =
    put_as g.O.TextOut.Puts _ _ _ _ (ap (λ v. any_shown (any_view v)) (sym c.in-Double.is))
    (then_put g.O.TextOut.Puts g.O.TextOut.lawful (codes "double ") c.put-in-Double.ensures c.put_hex.ensures)

pub put_value-returns-in-Raw : goal.put_value-returns-in-Raw
put_value-returns-in-Raw g t c =
    put_as g.O.TextOut.Puts _ _ _ _ (ap (λ v. any_shown (any_view v)) (sym c.in-Raw.is))
    (then_put g.O.TextOut.Puts g.O.TextOut.lawful (codes "bytes ") c.put-in-Raw.ensures c.put_bytes.ensures)

pub put_value-returns-in-Items : goal.put_value-returns-in-Items
put_value-returns-in-Items g t c =
    let puts = g.O.TextOut.Puts in let laws = g.O.TextOut.lawful in
    put_as puts _ _ _ _ (ap (λ v. any_shown (any_view v)) (sym c.in-Items.is))
    (then_put puts laws (codes "items [") c.put-in-Items.ensures (then_put puts laws (values_shown (values_of c.in-Items.items)) c.put_items.ensures c.put-in-Items-2.ensures))

pub put_value-returns-in-Pairs : goal.put_value-returns-in-Pairs
put_value-returns-in-Pairs g t c =
    let puts = g.O.TextOut.Puts in let laws = g.O.TextOut.lawful in
    put_as puts _ _ _ _ (ap (λ v. any_shown (any_view v)) (sym c.in-Pairs.is))
    (then_put puts laws (codes "pairs {") c.put-in-Pairs.ensures (then_put puts laws (pairs_shown (pairs_of c.in-Pairs.pairs)) c.put_pairs.ensures c.put-in-Pairs-2.ensures))
