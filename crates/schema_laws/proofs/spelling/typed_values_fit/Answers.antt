use Rattle.schema_laws.proofs.ReadFits.{fits_from}
use Rattle.schema_laws.proofs.Types.{typed_in_range}
use Rattle.schema_laws.proofs.spelling.typed_values_fit.Goals as goal

pub returns : goal.returns
returns c = λ s m l v t h short. fits_from s m l v (typed_in_range s v t h) short
