use Rattle.std.proofs.Common.{refl, arith}
use Rattle.line_text.proofs.Runs.{put_last_run, run_begins, run_goes_on, put_run_and_byte}
use Rattle.line_text.proofs.quoting.put_escaped.Goals as goal

pub loop-place-init : goal.loop-place-init
loop-place-init g c = (omega arith, omega arith, g.O.TextOut.lawful.none _, refl)

pub loop-place-preserved : goal.loop-place-preserved
loop-place-preserved g c =
    let i = c.loop-place.invariant in let below = c.loop-place-test.true in (
      omega arith,
      omega (arith, below),
      put_run_and_byte g.O.TextOut.Puts g.O.TextOut.lawful c.args.text.now c.loop-place.run c.loop-place.place i.0 below i.3 i.2 c.put.ensures c.put_escape.ensures,
      run_begins c.args.text.now _ (omega (arith, below)),
    )

pub loop-place-preserved-then-not-is_escaped : goal.loop-place-preserved-then-not-is_escaped
loop-place-preserved-then-not-is_escaped g c =
    let i = c.loop-place.invariant in let below = c.loop-place-test.true in (
      omega (arith, i.0),
      omega (arith, below),
      i.2,
      run_goes_on c.args.text.now c.loop-place.run c.loop-place.place i.0 below (c.is_escaped.ensures c.if-not-is_escaped.true) i.3,
    )

pub returns : goal.returns
returns g c =
    let i = c.loop-place.invariant in
    put_last_run g.O.TextOut.Puts g.O.TextOut.lawful c.args.text.now c.loop-place.run c.loop-place.place i.0 i.1 c.loop-place-test.false i.3 i.2 c.put-2.ensures
