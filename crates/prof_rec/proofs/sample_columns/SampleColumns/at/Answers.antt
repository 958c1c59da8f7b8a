use Rattle.std.proofs.Common.{arith, length, ap, ◌≡◌, List}
use Rattle.prof_rec.specs.declared.head.Head.{Head}
use Rattle.prof_rec.specs.declared.sample.Sample.{Sample}
use Rattle.prof_rec.specs.Columns.{start}
use Rattle.prof_rec.proofs.Heads.{as_many}
use Rattle.prof_rec.proofs.sample_columns.SampleColumns.at.Goals as goal

pub sample_at-requires-clause-inside : goal.sample_at-requires-clause-inside
sample_at-requires-clause-inside c =
    omega (arith, c.requires, ap (λ (hs : List Head). length hs) c.as_slice.ensures, ap (λ (s : List Sample). length s) c.self.view_is, as_many start c.self.inside.heads c.self.inside.all.values c.self.inside.all.attribute_indices c.self.inside.all.timestamps_unix_nano)
