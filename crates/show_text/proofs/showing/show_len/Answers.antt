use Rattle.dict_rec.specs.Views.{dictionary_view}
use Rattle.otlp_msg.specs.Checked.{value_of}
use Rattle.show_text.proofs.Ends.{text_of, counted_in_full}
use Rattle.show_text.proofs.showing.show_len.Goals as goal

pub returns : goal.returns
returns c =
    counted_in_full _ _ _ _ c.exact.result
    (text_of _ (dictionary_view c.message-message.result.now.dictionary) _ _ (value_of c.args.message.now) c.in_ok-texts.ensures c.as_slice.ensures c.message-message.ensures.value)
    c.begin-len.ensures c.put_records.ensures c.exact.ensures
