use Rattle.std.proofs.Common.{◌+◌, refl, ap, arith}
use Rattle.schema_laws.proofs.Onto.{varint_at_most}
use Rattle.key_tables.specs.Keys.{keys_text}
use Rattle.key_tables.proofs.Spelling.{long_len_of}
use Rattle.draft_contents.proofs.contents.whole_len.Goals as goal

pub overflow_add-result : goal.overflow_add-result
overflow_add-result g c =
    omega (arith, c.requires, c.long_len.ensures, c.text_len.ensures.most, varint_at_most 18 (omega arith), varint_at_most c.text_len.result (omega (arith, c.text_len.ensures.most)))

pub returns : goal.returns
returns g c =
    let t = keys_text c.args.tables.now in
    ap (λ n. c.args.records_len + n) (long_len_of 2 2 t t c.text_len.result c.long_len.result refl refl c.text_len.ensures.is c.long_len.ensures)
