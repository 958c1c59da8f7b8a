use Rattle.dict_rec.specs.Views.{dictionary_view}
use Rattle.otlp_msg.proofs.Lengths.{by_table}
use Rattle.otlp_msg.proofs.table_lengths.TableLengths.of_dictionary.Goals as goal

pub returns : goal.returns
returns c = by_table c.lengths.result (dictionary_view c.args.dictionary.now) c.lengths.ensures
