-- Samples in columns: a head for each, and of each kind of list one column, in which those of all samples follow one another.
use Rattle.std.specs.Prelude.{◌≡◌, ℕ, ℤ, pos, ◌≤◌, List, [], ◌∷◌, ◌++◌, length, take, Option, Some, None}
use Rattle.std.specs.List.{slice_range}
use Rattle.prof_rec.specs.declared.head.Head.{Head}
use Rattle.prof_rec.specs.declared.sample.Sample.{Sample}

-- before the first sample each list ends at 0
abbrev pub start : Head
start = record { stack_index = pos 0; link_index = pos 0; values_end = 0; attributes_end = 0; times_end = 0 }

-- the sample of a head: in each column, the part from where the head before it ends to where it ends itself
abbrev pub sample_from : Head → Head → List ℤ → List ℤ → List ℕ → Sample
sample_from before h values attributes times = record {
  stack_index = h.stack_index;
  values = slice_range values before.values_end h.values_end;
  attribute_indices = slice_range attributes before.attributes_end h.attributes_end;
  link_index = h.link_index;
  timestamps_unix_nano = slice_range times before.times_end h.times_end;
}

-- the samples of heads that follow this one
abbrev pub samples_after : Head → List Head → List ℤ → List ℤ → List ℕ → List Sample
samples_after before [] values attributes times = []
samples_after before (h ∷ hs) values attributes times = sample_from before h values attributes times ∷ samples_after h hs values attributes times

-- the samples of all heads, in the columns of which `all` has one each
abbrev pub samples_in : List Head → Sample → List Sample
samples_in heads all = samples_after start heads all.values all.attribute_indices all.timestamps_unix_nano

-- these samples, or none
abbrev pub or_none : Option (List Sample) → List Sample
or_none None = []
or_none (Some samples) = samples

-- no list of the second ends before that of the first
pub record IsBefore (before h : Head) : Type 0 where
  pub values : before.values_end ≤ h.values_end
  pub attributes : before.attributes_end ≤ h.attributes_end
  pub times : before.times_end ≤ h.times_end

-- the ends of heads that follow this one ascend
abbrev pub Ascend : Head → List Head → Type 0
Ascend before [] = Unit {0}
Ascend before (h ∷ hs) = IsBefore before h × Ascend h hs

-- the last of heads that follow this one
abbrev pub last_after : Head → List Head → Head
last_after before [] = before
last_after before (h ∷ hs) = last_after h hs

-- the ends ascend up to those of the columns
pub record IsParted (heads : List Head) (all : Sample) : Type 0 where
  pub ascend : Ascend start heads
  pub values : (last_after start heads).values_end ≡ length all.values
  pub attributes : (last_after start heads).attributes_end ≡ length all.attribute_indices
  pub times : (last_after start heads).times_end ≡ length all.timestamps_unix_nano

-- the head of a sample that ends where the columns do, with the indexes of `all`
abbrev pub last_head : Sample → Head
last_head all = record {
  stack_index = all.stack_index;
  link_index = all.link_index;
  values_end = length all.values;
  attributes_end = length all.attribute_indices;
  times_end = length all.timestamps_unix_nano;
}

-- the columns with the elements of a sample at their ends, and its indexes
abbrev pub with_elements : Sample → Sample → Sample
with_elements all s = record {
  stack_index = s.stack_index;
  values = all.values ++ s.values;
  attribute_indices = all.attribute_indices ++ s.attribute_indices;
  link_index = s.link_index;
  timestamps_unix_nano = all.timestamps_unix_nano ++ s.timestamps_unix_nano;
}

-- the new columns begin with the old ones
pub record HasColumns (old new : Sample) : Type 0 where
  pub values : take (length old.values) new.values ≡ old.values
  pub attributes : take (length old.attribute_indices) new.attribute_indices ≡ old.attribute_indices
  pub times : take (length old.timestamps_unix_nano) new.timestamps_unix_nano ≡ old.timestamps_unix_nano
