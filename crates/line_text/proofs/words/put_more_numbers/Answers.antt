use Rattle.std.proofs.Common.{◌++◌, codes}
use Rattle.line_text.proofs.Following.{then_put, put_next, put_all_of}
use Rattle.line_text.proofs.words.put_more_numbers.Goals as goal

pub loop-number-init : goal.loop-number-init
loop-number-init g c = g.O.TextOut.lawful.none _

pub loop-number-preserved : goal.loop-number-preserved
loop-number-preserved g c =
    let puts = g.O.TextOut.Puts in let laws = g.O.TextOut.lawful in
    put_next puts laws (λ n. codes " " ++ g.N.Decimal.text n) c.args.numbers.now c.loop-number.number-index c.number-item.result c.number-item.result c.loop-number-test.true c.number-item.is c.loop-number.invariant
    (then_put puts laws (codes " ") c.put.ensures c.put_number.ensures)

pub returns : goal.returns
returns g c = put_all_of g.O.TextOut.Puts (λ n. codes " " ++ g.N.Decimal.text n) c.args.numbers.now c.loop-number.number-index c.loop-number-test.false c.loop-number.invariant
