use Rattle.std.proofs.Common.{sym, ap, ◌∙◌, ◌≡◌, length, arith}
use Rattle.std.specs.Fmt.{decimal}
use Rattle.itoa.proofs.Decimal.{length_one}
use Rattle.line_text.proofs.Digits.{digits_are}
use Rattle.line_text.proofs.decimal.digits_of.Goals as goal

pub returns-in-None : goal.returns-in-None
returns-in-None c = sym (length_one c.args.number (omega (arith, c.in-None.ensures.none)))

pub returns-in-Some : goal.returns-in-Some
returns-in-Some c =
    sym (digits_are c.in-Some.power c.args.number c.in-Some.ensures.power_le c.in-Some.ensures.next_power_gt (omega (arith, c.ranges.number.fits)))
