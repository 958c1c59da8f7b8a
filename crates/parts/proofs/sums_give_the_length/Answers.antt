use Rattle.parts.specs.Sums.{no_sums}
use Rattle.parts.proofs.Sizes.{text_size, sums_append}
use Rattle.parts.proofs.sums_give_the_length.Goals as goal

pub returns : goal.returns
returns c = record { length = text_size; append = λ ps qs. sums_append ps qs no_sums }
