use Rattle.meaning.specs.Canonical.{tables_of}
use Rattle.meaning.proofs.Zeros.{tables_first, entries_first, renumber-zero}
use Rattle.meaning.proofs.zero_comes_first.Goals as goal

pub returns : goal.returns
returns c = record {
  value = tables_first;
  entry = entries_first;
  index = λ s m. renumber-zero (tables_of s m) (tables_first s m);
}
