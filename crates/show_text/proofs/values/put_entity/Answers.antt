use Rattle.std.proofs.Common.{codes}
use Rattle.shown.specs.Quoted.{hex_text}
use Rattle.line_text.proofs.Following.{put_as, then_put}
use Rattle.show_text.proofs.Pieces.{entity_pieces}
use Rattle.show_text.proofs.values.put_entity.Goals as goal

pub returns : goal.returns
returns g c =
    let puts = g.O.TextOut.Puts in let laws = g.O.TextOut.lawful in
    put_as puts _ _ _ _ (entity_pieces c.args.element.now)
    (then_put puts laws (codes "  entity ") c.put.ensures (then_put puts laws (hex_text c.args.element.now) c.put_bytes.ensures c.put-2.ensures))
