use Rattle.std.proofs.Common.{◌∙◌, arith}
use Rattle.commands.proofs.Numerals.{limit_read, none_read}
use Rattle.commands.proofs.limits.PartLimit.of_word.Goals as goal

pub returns-in-Ok : goal.returns-in-Ok
returns-in-Ok c =
    c.of_number.ensures
    ∙ limit_read c.args.word.now c.as_bytes.result.now c.begins_with_plus.result c.in-Ok.bytes c.parse.result (omega arith)
    c.as_bytes.ensures.value c.begins_with_plus.ensures c.if-begins_with_plus.false c.in-Ok.is c.parse.ensures.value.0

pub returns-in-Err : goal.returns-in-Err
returns-in-Err c =
    none_read c.args.word.now c.as_bytes.result.now c.begins_with_plus.result c.in-Err.field-0 c.parse.result (omega arith)
    c.as_bytes.ensures.value c.begins_with_plus.ensures c.if-begins_with_plus.false c.in-Err.is c.parse.ensures.value.0
