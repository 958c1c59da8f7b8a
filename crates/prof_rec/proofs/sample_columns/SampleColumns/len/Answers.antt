use Rattle.std.proofs.Common.{◌∙◌, sym, length, ap, List}
use Rattle.prof_rec.specs.declared.sample.Sample.{Sample}
use Rattle.prof_rec.specs.Columns.{start}
use Rattle.prof_rec.proofs.Heads.{as_many}
use Rattle.prof_rec.proofs.sample_columns.SampleColumns.len.Goals as goal

pub returns : goal.returns
returns c =
    c.len.ensures ∙ sym (as_many start c.self.inside.heads c.self.inside.all.values c.self.inside.all.attribute_indices c.self.inside.all.timestamps_unix_nano) ∙ ap (λ (s : List Sample). length s) c.self.view_is
