use Rattle.std.proofs.Common.{codes}
use Rattle.std.specs.List.{repeat}
use Rattle.any_value.specs.Views.{any_view, attribute_view}
use Rattle.shown.specs.Quoted.{quoted}
use Rattle.shown.specs.AnyText.{any_shown}
use Rattle.line_text.proofs.Following.{put_as, then_put}
use Rattle.show_text.proofs.Pieces.{key_value_pieces}
use Rattle.show_text.proofs.values.put_key_value.Goals as goal

pub returns : goal.returns
returns g c =
    let puts = g.O.TextOut.Puts in let laws = g.O.TextOut.lawful in let pair = c.args.pair.now in
    put_as puts _ _ _ _ (key_value_pieces c.args.level (attribute_view pair))
    (then_put puts laws (repeat c.args.level (codes "  ")) c.put_indent.ensures (then_put puts laws (codes "attr ") c.put.ensures
    (then_put puts laws (quoted pair.key) c.put_text.ensures (then_put puts laws (codes " ") c.put-2.ensures (then_put puts laws (any_shown (any_view pair.value)) c.put_value.ensures c.put-3.ensures)))))
