use Rattle.renumber.proofs.Entering.{small}
use Rattle.renumber.proofs.walk.WalkNewIndexes.new.Goals as goal

pub index-requires-clause-small : goal.index-requires-clause-small
index-requires-clause-small g c = small c.self.inside.source.now c.self.inside.tables c.self.inside.memo.lists c.self.invariant.0 c.self.invariant.1
