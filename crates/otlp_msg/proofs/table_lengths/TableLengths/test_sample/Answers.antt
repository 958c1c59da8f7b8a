use Rattle.std.proofs.Common.{rules, ◌≡◌, Ok, sym, ◌∙◌}
use Rattle.prof_rec.specs.SampleRefs.{sample_of}
use Rattle.prof_rec.specs.Views.{sample_view}
use Rattle.otlp_msg.specs.Lengths.{lengths_view}
use Rattle.otlp_msg.specs.Within.{Passed}
use Rattle.otlp_msg.proofs.PlainValues.{sample_test, sample_within}
use Rattle.otlp_msg.proofs.table_lengths.TableLengths.test_sample.Goals as goal

pub returns-in_err-test_indexes : goal.returns-in_err-test_indexes
returns-in_err-test_indexes c =
    let same : c.from_residual-in_err-test_indexes.result ≡ sample_test (lengths_view c.args.self.now) c.args.holder (sample_view (sample_of c.args.found.now)) = search rules in
    same ∙ sym (sample_within (lengths_view c.args.self.now) c.args.holder (sample_view (sample_of c.args.found.now)))

pub returns-in_err-test-2 : goal.returns-in_err-test-2
returns-in_err-test-2 c =
    let same : c.from_residual-in_err-test-2.result ≡ sample_test (lengths_view c.args.self.now) c.args.holder (sample_view (sample_of c.args.found.now)) = search rules in
    same ∙ sym (sample_within (lengths_view c.args.self.now) c.args.holder (sample_view (sample_of c.args.found.now)))

pub returns : goal.returns
returns c =
    let same : (let passed : Passed = Ok tt in passed ≡ sample_test (lengths_view c.args.self.now) c.args.holder (sample_view (sample_of c.args.found.now))) = search rules in
    same ∙ sym (sample_within (lengths_view c.args.self.now) c.args.holder (sample_view (sample_of c.args.found.now)))
