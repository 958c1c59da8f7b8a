use Rattle.std.proofs.Common.{length, ap, arith}
use Rattle.schema.specs.AnySpell.{any_text}
use Rattle.any_value.specs.Views.{any_view}
use Rattle.any_value.proofs.ListLengths.{pair_short}
use Rattle.any_value.proofs.lengths.keyed_len.Goals as goal

pub pair_len-requires : goal.pair_len-requires
pair_len-requires c =
    omega (arith, pair_short c.args.pair.now.key (any_text (any_view c.args.pair.now.value)) (omega (arith, c.in_ok-below_limit.ensures, ap length c.as_bytes.ensures.same)) (omega (arith, c.in_ok-below_limit-2.ensures, c.value_len.ensures)))
