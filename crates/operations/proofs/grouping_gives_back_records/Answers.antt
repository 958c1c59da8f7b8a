use Rattle.std.proofs.Common.{refl}
use Rattle.operations.proofs.Regrouped.{group-flat, whole-record}
use Rattle.operations.proofs.grouping_gives_back_records.Goals as goal

pub returns : goal.returns
returns c = record { records = group-flat; whole = whole-record; single = λ e. refl }
