use Rattle.std.proofs.Common.{ap}
use Rattle.meaning.specs.Message.{tables_in}
use Rattle.dict_rec.specs.Views.{dictionary_view}
use Rattle.otlp_msg.specs.Checked.{value_of}
use Rattle.line_text.specs.Pens.{place}
use Rattle.show_text.proofs.Ends.{text_of, written, not_written}
use Rattle.show_text.proofs.showing.write_text.Goals as goal

pub returns-clause-ok : goal.returns-clause-ok
returns-clause-ok g c =
    written _ _ (place g.W.Sink (c.in_ok-pen.pen, c.args.out.now)) (place g.W.Sink (c.put_records.new.out, c.put_records.new.to)) (g.W.Sink.taken c.finish.new.to) c.finish.result
    (text_of _ (dictionary_view c.message-message.result.now.dictionary) _ _ (value_of c.args.message.now) (ap tables_in c.of-texts.ensures) c.as_slice.ensures c.message-message.ensures.value)
    c.in_ok-pen.ensures.waiting c.in_ok-pen.ensures.stop c.put_records.ensures.puts c.finish.ensures.ok

pub returns-clause-refused : goal.returns-clause-refused
returns-clause-refused g c =
    not_written _ _ (place g.W.Sink (c.in_ok-pen.pen, c.args.out.now)) (place g.W.Sink (c.put_records.new.out, c.put_records.new.to)) (g.W.Sink.taken c.finish.new.to) (g.W.Sink.faults c.finish.new.to) c.finish.result
    (text_of _ (dictionary_view c.message-message.result.now.dictionary) _ _ (value_of c.args.message.now) (ap tables_in c.of-texts.ensures) c.as_slice.ensures c.message-message.ensures.value)
    c.in_ok-pen.ensures.waiting c.in_ok-pen.ensures.stop c.put_records.ensures.puts c.finish.ensures.refused
