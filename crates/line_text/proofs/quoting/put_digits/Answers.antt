use Rattle.std.proofs.Common.{refl}
use Rattle.shown.specs.Quoted.{hex_digits}
use Rattle.line_text.proofs.Following.{put_next, put_all_of}
use Rattle.line_text.proofs.quoting.put_digits.Goals as goal

pub loop-byte-init : goal.loop-byte-init
loop-byte-init g c = g.O.TextOut.lawful.none _

pub loop-byte-preserved : goal.loop-byte-preserved
loop-byte-preserved g c =
    put_next g.O.TextOut.Puts g.O.TextOut.lawful hex_digits c.args.bytes.now c.loop-byte.byte-index _ 0 c.loop-byte-test.true refl c.loop-byte.invariant c.put_byte.ensures

pub returns : goal.returns
returns g c = put_all_of g.O.TextOut.Puts hex_digits c.args.bytes.now c.loop-byte.byte-index c.loop-byte-test.false c.loop-byte.invariant
