use Rattle.std.proofs.Common.{codes}
use Rattle.shown.specs.Quoted.{hex_text}
use Rattle.line_text.proofs.Following.{then_put}
use Rattle.entry_text.proofs.entries.LinkEntryText.put_text.Goals as goal

pub returns : goal.returns
returns g c =
    let puts = g.O.TextOut.Puts in let laws = g.O.TextOut.lawful in
    then_put puts laws (hex_text c.args.self.now.trace_id) c.put_bytes.ensures (then_put puts laws (codes " ") c.put.ensures c.put_bytes-2.ensures)
