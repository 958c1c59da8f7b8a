use Rattle.commands.specs.Plan.{planned, texts_of}
use Rattle.collector.proofs.Carrying.{carried_in_part}
use Rattle.collector.proofs.run.carry_out.Goals as goal

pub returns-clause-part : goal.returns-clause-part
returns-clause-part g c =
    carried_in_part g.F.Files g.O.Sink c.args.files.now c.carry.new.files c.args.out.now c.carry.new.out (planned (texts_of c.args.words.now)) c.in_ok-plan.plan c.carry.result
    c.in_ok-plan.ensures.ok c.carry.ensures
