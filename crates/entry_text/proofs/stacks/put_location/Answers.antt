use Rattle.std.proofs.Common.{sym, codes}
use Rattle.std.specs.Fmt.{decimal}
use Rattle.schema.specs.Messages.{location}
use Rattle.schema.specs.Shape.{Index, Locations}
use Rattle.shown.specs.Direct.{meant}
use Rattle.line_text.proofs.Following.{put_as, then_put}
use Rattle.entry_text.proofs.Pieces.{numbered_location}
use Rattle.entry_text.proofs.stacks.put_location.Goals as goal

pub returns : goal.returns
returns g c =
    let puts = g.O.TextOut.Puts in let laws = g.O.TextOut.lawful in
    put_as puts _ _ _ _ (sym (numbered_location c.args.position (meant (g.D.Meanings.tables c.args.texts.now) (Index Locations location) c.args.index.now)))
    (then_put puts laws (codes "        location ") c.put.ensures (then_put puts laws (decimal c.args.position) c.put_number.ensures c.put_entry.ensures))
