use Rattle.std.proofs.Common.{◌≡◌, get_or, sym, ap, ◌∙◌, arith, refl}
use Rattle.std.proofs.lemmas.Option.{get_or_from_slice_get, slice_get_within}
use Rattle.schema.specs.Messages.{sample}
use Rattle.prof_rec.specs.SampleRefs.{sample_of}
use Rattle.prof_rec.specs.Views.{sample_view}
use Rattle.otlp_msg.specs.declared.path.Holder.{Holder}
use Rattle.otlp_msg.specs.Lengths.{lengths_view}
use Rattle.otlp_msg.specs.Walk.{entered}
use Rattle.otlp_msg.specs.Within.{value_within}
use Rattle.otlp_msg.proofs.Places.{placed_at}
use Rattle.otlp_msg.proofs.Walks.{goes_on_seen, stops_seen, ends_seen}
use Rattle.otlp_msg.proofs.table_lengths.TableLengths.test_samples.Goals as goal

pub test_sample-requires : goal.test_sample-requires
test_sample-requires c =
    let x = sample_of c.at-found.result in
    let is : x ≡ get_or c.args.samples.now c.loop-place.place x = sym (get_or_from_slice_get c.args.samples.now c.loop-place.place x x c.at-found.ensures) in
    let within = slice_get_within c.args.samples.now c.loop-place.place x c.at-found.ensures in
    placed_at sample sample_view c.args.samples.now c.args.samples.now c.loop-place.place x refl c.requires.each within is

pub returns-in-Err : goal.returns-in-Err
returns-in-Err c =
    let x = sample_of c.at-found.result in
    let is : x ≡ get_or c.args.samples.now c.loop-place.place x = sym (get_or_from_slice_get c.args.samples.now c.loop-place.place x x c.at-found.ensures) in
    let within = slice_get_within c.args.samples.now c.loop-place.place x c.at-found.ensures in
    stops_seen (λ i. value_within sample (lengths_view c.args.self.now) (entered c.args.holder c.args.field i)) sample_view c.args.samples.now c.args.samples.now
    c.loop-place.place x c.test_sample.result c.in-Err.refusal refl within is c.loop-place.invariant
    (c.test_sample.ensures ∙ ap (λ (h : Holder). value_within sample (lengths_view c.args.self.now) h (sample_view x)) c.entered-entered.ensures) c.in-Err.is

pub loop-place-preserved : goal.loop-place-preserved
loop-place-preserved c =
    let x = sample_of c.at-found.result in
    let is : x ≡ get_or c.args.samples.now c.loop-place.place x = sym (get_or_from_slice_get c.args.samples.now c.loop-place.place x x c.at-found.ensures) in
    let within = slice_get_within c.args.samples.now c.loop-place.place x c.at-found.ensures in
    goes_on_seen (λ i. value_within sample (lengths_view c.args.self.now) (entered c.args.holder c.args.field i)) sample_view c.args.samples.now
    c.loop-place.place x c.test_sample.result within is c.loop-place.invariant
    (c.test_sample.ensures ∙ ap (λ (h : Holder). value_within sample (lengths_view c.args.self.now) h (sample_view x)) c.entered-entered.ensures) c.in_default.is

pub returns : goal.returns
returns c =
    ends_seen (λ i. value_within sample (lengths_view c.args.self.now) (entered c.args.holder c.args.field i)) sample_view c.args.samples.now c.args.samples.now
    c.loop-place.place refl (omega arith) c.loop-place.invariant
