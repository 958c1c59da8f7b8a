-- A sample that is seen in its columns.
use Rattle.prof_rec.specs.declared.sample.Sample.{Sample}
use Rattle.prof_rec.specs.declared.sample_ref.SampleRef.{SampleRef}

-- the sample with the elements of these slices
abbrev pub sample_of : SampleRef → Sample
sample_of r = record {
  stack_index = r.stack_index;
  values = r.values.now;
  attribute_indices = r.attribute_indices.now;
  link_index = r.link_index;
  timestamps_unix_nano = r.timestamps_unix_nano.now;
}
