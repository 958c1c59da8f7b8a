use Rattle.parts.proofs.Sizes.{text_grows}
use Rattle.parts.proofs.more_parts_are_longer.Goals as goal

pub returns : goal.returns
returns c = text_grows
