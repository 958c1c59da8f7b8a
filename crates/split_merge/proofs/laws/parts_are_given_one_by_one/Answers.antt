use Rattle.split_merge.proofs.AllParts.{gives_parts, only_parts}
use Rattle.split_merge.proofs.laws.parts_are_given_one_by_one.Goals as goal

pub returns : goal.returns
returns c = record { parts = gives_parts; only = only_parts }
