use Rattle.collector.proofs.Streaming.{show_carried}
use Rattle.collector.proofs.show_command.carry_show.Goals as goal

pub returns-in-Ok : goal.returns-in-Ok
returns-in-Ok g c =
    show_carried g.F.Files g.O.Sink c.args.files.now c.read_bytes.new.files c.args.out.now c.show_bytes.new.out c.args.file.now c.in-Ok.body c.as_slice.result.now c.show_bytes.result
    c.as_slice.ensures c.in-Ok.ensures c.show_bytes.ensures
