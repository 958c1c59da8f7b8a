use Rattle.std.proofs.Common.{◌++◌, ap, ◌∙◌}
use Rattle.schema.specs.Texts.{varint}
use Rattle.key_tables.specs.Keys.{keys_text}
use Rattle.draft_contents.proofs.DraftContents.{dictionary_put}
use Rattle.draft_contents.proofs.dictionary.put_dictionary.Goals as goal

pub returns-clause-ok : goal.returns-clause-ok
returns-clause-ok g c =
    dictionary_put c.args.out.now c.put_varint.new.out c.put_varint-2.new.out c.put_keys.new.out (keys_text c.args.tables.now) c.text_len-len.result c.text_len-len.ensures.is
    (c.in_ok-put_varint.ensures.ok ∙ ap (λ x. x ++ varint 18) c.reserve.ensures.same) c.in_ok-put_varint-2.ensures.ok c.in_ok-put_keys.ensures.ok
