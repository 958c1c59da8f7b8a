use Rattle.std.proofs.Common.{[]}
use Rattle.split_merge.proofs.Joined.{first_excess_of_all, fits_onto, joined-onto, made-all, merged-one}
use Rattle.split_merge.proofs.laws.merged_messages_are_joined.Goals as goal

pub returns : goal.returns
returns c = record {
  joined = λ messages. joined-onto messages [];
  ok = made-all;
  limit = first_excess_of_all;
  fits = λ messages few. fits_onto messages [] few;
  one = merged-one;
}
