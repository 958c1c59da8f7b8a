use Rattle.operations.proofs.Later.{first-append, meanings-append}
use Rattle.operations.proofs.flat_lists_are_appended.Goals as goal

pub returns : goal.returns
returns c = record { first = first-append; append = meanings-append }
