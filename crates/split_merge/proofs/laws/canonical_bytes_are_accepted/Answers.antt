use Rattle.split_merge.proofs.Bytes.{accepted_as, accepted_meaning, canon_again}
use Rattle.split_merge.proofs.laws.canonical_bytes_are_accepted.Goals as goal

pub returns : goal.returns
returns c = record {
  meanings = accepted_meaning;
  messages = λ m b fits e. accepted_as m fits b e;
  again = λ m b fits e. canon_again m fits b e;
}
