use Rattle.meaning.proofs.Trees.{value-tree}
use Rattle.meaning.proofs.trees_keep_values.Goals as goal

pub returns : goal.returns
returns c = value-tree
