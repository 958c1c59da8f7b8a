use Rattle.std.proofs.Common.{refl}
use Rattle.schema.specs.Messages.{location}
use Rattle.schema.specs.Shape.{Index, Locations}
use Rattle.shown.specs.Direct.{meant}
use Rattle.shown.specs.ShowText.{location_lines}
use Rattle.line_text.proofs.Lines.{put_next_numbered, put_numbered_of}
use Rattle.entry_text.proofs.stacks.put_locations.Goals as goal

pub loop-position-init : goal.loop-position-init
loop-position-init g c = g.O.TextOut.lawful.none _

pub loop-position-preserved : goal.loop-position-preserved
loop-position-preserved g c =
    put_next_numbered g.O.TextOut.Puts g.O.TextOut.lawful location_lines (meant (g.D.Meanings.tables c.args.texts.now) (Index Locations location))
    c.args.indexes.now c.loop-position.position _ _ c.loop-position-test.true refl c.loop-position.invariant c.put_location.ensures

pub returns : goal.returns
returns g c =
    put_numbered_of g.O.TextOut.Puts location_lines (meant (g.D.Meanings.tables c.args.texts.now) (Index Locations location)) (λ i. i) c.args.indexes.now
    c.loop-position.position c.loop-position-test.false c.loop-position.invariant
