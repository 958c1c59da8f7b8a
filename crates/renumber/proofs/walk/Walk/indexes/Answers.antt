use Rattle.std.proofs.Common.{pos}
use Rattle.renumber.specs.Entries.{index_into}
use Rattle.renumber.proofs.Moves.{moves_on}
use Rattle.renumber.proofs.Walks.{walked_more}
use Rattle.renumber.proofs.walk.Walk.indexes.Goals as goal

pub returns-in-Err-clause-moves : goal.returns-in-Err-clause-moves
returns-in-Err-clause-moves g c =
    moves_on (index_into g.E.Entry.table) 1 c.args.self.now c.loop-index.self c.index.new.self c.args.steps.now c.loop-index.steps c.index.new.steps c.loop-index.invariant.moves c.in-Err.ensures.moves

pub loop-index-preserved : goal.loop-index-preserved
loop-index-preserved g c = record {
  moves = moves_on (index_into g.E.Entry.table) 0 c.args.self.now c.loop-index.self c.index.new.self c.args.steps.now c.loop-index.steps c.index.new.steps c.loop-index.invariant.moves
      c.in_default.ensures.moves;
  walked = walked_more (index_into g.E.Entry.table) (λ i. i) c.args.self.now c.loop-index.self c.index.new.self c.args.indexes.now c.loop-index.index-index (pos 0) c.loop-index-test.true
      c.loop-index.invariant.walked c.in_default.ensures.walked;
}
