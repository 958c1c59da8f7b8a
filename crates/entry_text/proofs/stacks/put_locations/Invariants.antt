use Rattle.std.proofs.Common.{take}
use Rattle.schema.specs.Messages.{location}
use Rattle.schema.specs.Shape.{Index, Locations}
use Rattle.shown.specs.Direct.{meant}
use Rattle.shown.specs.ShowText.{location_lines}
use Rattle.line_text.proofs.Lines.{numbered_text}
use Rattle.entry_text.proofs.stacks.put_locations.Given as goal

abbrev pub invariant-loop-position : goal.invariant-loop-position
invariant-loop-position g l =
    g.O.TextOut.Puts (l.initial.out, l.initial.to)
    (numbered_text location_lines (meant (g.D.Meanings.tables l.texts) (Index Locations location)) 0 (take l.position l.indexes)) (l.out, l.to)
