use Rattle.std.proofs.Common.{arith, ◌-◌, ◌∙◌}
use Rattle.part_text.proofs.Writes.{block_moved}
use Rattle.part_text.proofs.place.move_up.Goals as goal

pub loop-left-preserved : goal.loop-left-preserved
loop-left-preserved c =
    let i = c.loop-left.invariant in
    record {
      within = omega (arith, i.within);
      moved = block_moved c.args.bytes.now c.loop-left.bytes c.move_block.new.bytes c.args.from (c.args.end - c.args.len) c.args.end c.args.len c.loop-left.left
          (c.loop-left.left - c.min-count.result) c.min-count.result (omega (arith, c.min-count.ensures)) i.within (omega (arith, c.requires.order)) i.moved c.move_block.ensures.put;
      block = c.move_block.ensures.block ∙ i.block;
    }
