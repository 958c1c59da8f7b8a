use Rattle.std.proofs.Common.{subst}
use Rattle.renumber.specs.Entries.{IsPart}
use Rattle.renumber.specs.Walk.{Walked}
use Rattle.renumber.proofs.Moves.{moves_on}
use Rattle.renumber.proofs.Parts.{part_at}
use Rattle.renumber.proofs.Walks.{part_still, walked_more}
use Rattle.renumber.proofs.walk.Walk.each.Goals as goal

pub meet-requires : goal.meet-requires
meet-requires g c =
    let s = g.T.Rows.shape in
    part_still s c.args.self.now.source c.loop-item.self.source (g.T.Rows.view c.item-item.result) c.loop-item.invariant.moves.same
    (part_at (IsPart s c.args.self.now.source) g.T.Rows.view c.args.items.now c.loop-item.item-index c.item-item.result c.loop-item-test.true c.item-item.is c.requires)

pub returns-in-Err-clause-moves : goal.returns-in-Err-clause-moves
returns-in-Err-clause-moves g c =
    moves_on g.T.Rows.shape 1 c.args.self.now c.loop-item.self c.meet.new.walk c.args.steps.now c.loop-item.steps c.meet.new.steps c.loop-item.invariant.moves c.in-Err.ensures.moves

pub loop-item-preserved : goal.loop-item-preserved
loop-item-preserved g c =
    let s = g.T.Rows.shape in
    record {
      moves = moves_on s 0 c.args.self.now c.loop-item.self c.meet.new.walk c.args.steps.now c.loop-item.steps c.meet.new.steps c.loop-item.invariant.moves c.in_default.ensures.moves;
      walked = walked_more s g.T.Rows.view c.args.self.now c.loop-item.self c.meet.new.walk c.args.items.now c.loop-item.item-index c.item-item.result c.loop-item-test.true c.loop-item.invariant.walked
          (subst (λ x. Walked s c.loop-item.self c.meet.new.walk (g.T.Rows.view x)) c.item-item.is c.in_default.ensures.walked);
    }
