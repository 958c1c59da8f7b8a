use Rattle.operations.proofs.Growing.{longer_records}
use Rattle.operations.proofs.continued_outlines_are_no_shorter.Goals as goal

pub returns : goal.returns
returns c = longer_records
