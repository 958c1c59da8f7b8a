use Rattle.std.proofs.Common.{rules}
use Rattle.dict_rec.specs.Views.{dictionary_view}
use Rattle.otlp_msg.specs.Lengths.{lengths_view}
use Rattle.otlp_msg.proofs.Walks.{tables_walked}
use Rattle.otlp_msg.proofs.table_lengths.TableLengths.test_tables.Goals as goal

pub returns-in_err-test_entries : goal.returns-in_err-test_entries
returns-in_err-test_entries c = rw (tables_walked (lengths_view c.args.self.now) (dictionary_view c.args.tables.now)) (search rules)

pub returns-in_err-test_entries-2 : goal.returns-in_err-test_entries-2
returns-in_err-test_entries-2 c = rw (tables_walked (lengths_view c.args.self.now) (dictionary_view c.args.tables.now)) (search rules)

pub returns-in_err-test_entries-3 : goal.returns-in_err-test_entries-3
returns-in_err-test_entries-3 c = rw (tables_walked (lengths_view c.args.self.now) (dictionary_view c.args.tables.now)) (search rules)

pub returns-in_err-test_entries-4 : goal.returns-in_err-test_entries-4
returns-in_err-test_entries-4 c = rw (tables_walked (lengths_view c.args.self.now) (dictionary_view c.args.tables.now)) (search rules)

pub returns-in_err-test_entries-5 : goal.returns-in_err-test_entries-5
returns-in_err-test_entries-5 c = rw (tables_walked (lengths_view c.args.self.now) (dictionary_view c.args.tables.now)) (search rules)

pub returns : goal.returns
returns c = rw (tables_walked (lengths_view c.args.self.now) (dictionary_view c.args.tables.now)) (search rules)
