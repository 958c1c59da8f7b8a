use Rattle.std.proofs.Common.{map, ap, ◌∙◌, arith}
use Rattle.any_value.specs.Views.{any_view, pair_view}
use Rattle.any_value.proofs.Counts.{other_items, other_pairs, view_len}
use Rattle.any_value.proofs.comparing.+comparing.Goals as goal

pub same_items-returns-then-left-right : goal.same_items-returns-then-left-right
same_items-returns-then-left-right t c =
    let one = view_len any_view c.as_slice-left.result.now _ (ap (map any_view) c.as_slice-left.ensures.value ∙ c.one.view_is) in
    let other = view_len any_view c.as_slice-right.result.now _ (ap (map any_view) c.as_slice-right.ensures.value ∙ c.other.view_is) in
    other_items c.args.one.now c.args.other.now (λ e. omega (arith, e, one, other, c.if-left-right.true))

pub same_pairs-returns-then-left-right : goal.same_pairs-returns-then-left-right
same_pairs-returns-then-left-right t c =
    let one = view_len pair_view c.as_slice-left.result.now _ (ap (map pair_view) c.as_slice-left.ensures.value ∙ c.one.view_is) in
    let other = view_len pair_view c.as_slice-right.result.now _ (ap (map pair_view) c.as_slice-right.ensures.value ∙ c.other.view_is) in
    other_pairs c.args.one.now c.args.other.now (λ e. omega (arith, e, one, other, c.if-left-right.true))
