use Rattle.prof_rec.specs.Views.{numbers_view, sample_view}
use Rattle.renumber.proofs.Parts.{sample_indexes}
use Rattle.renumber.proofs.records.SampleMeets.meet.Goals as goal

pub sample-requires-clause-attributes : goal.sample-requires-clause-attributes
sample-requires-clause-attributes g c = rw c.as_slice.ensures (sample_indexes c.args.walk.now.source (sample_view c.args.self.now) c.requires)

pub returns-clause-walked : goal.returns-clause-walked
returns-clause-walked g c = (rw c.as_slice.ensures at c.in_ok-sample.ensures.walked) (numbers_view c.args.self.now.values) c.args.self.now.timestamps_unix_nano
