use Rattle.std.proofs.Common.{refl, subst, ap, ◌+◌}
use Rattle.schema.specs.Messages.{resource_profiles}
use Rattle.prof_rec.specs.Views.{resource_profiles_view}
use Rattle.shown.specs.Direct.{meant}
use Rattle.shown.specs.TextLine.{lines_text}
use Rattle.shown.specs.ShowText.{resource_lines}
use Rattle.line_text.proofs.Lines.{put_next_numbered, put_numbered_of}
use Rattle.show_text.proofs.records.put_records.Goals as goal

pub loop-record-init : goal.loop-record-init
loop-record-init g c = (refl, g.O.TextOut.lawful.none _)

pub loop-record-preserved : goal.loop-record-preserved
loop-record-preserved g c =
    let d = g.D.Meanings.tables c.args.texts.now in let i = c.loop-record.invariant in (
      ap (λ n. n + 1) i.0,
      put_next_numbered g.O.TextOut.Puts g.O.TextOut.lawful resource_lines (λ x. meant d resource_profiles (resource_profiles_view x))
          c.args.records.now c.loop-record.record-index c.record-item.result c.record-item.result c.loop-record-test.true c.record-item.is i.1
          (subst (λ n. g.O.TextOut.Puts (c.loop-record.out, c.loop-record.to) (lines_text (resource_lines n (meant d resource_profiles (resource_profiles_view c.record-item.result)))) (c.put_resource.new.out, c.put_resource.new.to)) i.0 c.put_resource.ensures),
    )

pub returns : goal.returns
returns g c =
    put_numbered_of g.O.TextOut.Puts resource_lines (meant (g.D.Meanings.tables c.args.texts.now) resource_profiles) resource_profiles_view c.args.records.now
    c.loop-record.record-index c.loop-record-test.false c.loop-record.invariant.1
