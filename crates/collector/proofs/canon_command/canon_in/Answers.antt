use Rattle.otlp_msg.specs.Checked.{value_of}
use Rattle.otlp_msg.specs.Message.{message_of}
use Rattle.split_merge.specs.Canonical.{meaning}
use Rattle.collector.specs.Messages.{accepted}
use Rattle.collector.specs.Rebuilt.{IsRebuilt}
use Rattle.collector.proofs.Rebuilding.{kept}
use Rattle.collector.proofs.canon_command.canon_in.Goals as goal

pub returns-in-Ok-clause-rebuilt : goal.returns-in-Ok-clause-rebuilt
returns-in-Ok-clause-rebuilt g c =
    kept (accepted c.args.file.now (message_of c.args.body.now)) (value_of c.in-Ok.message) (λ m output. IsRebuilt (meaning m) c.args.target.now output) c.canon_file.result c.in-Ok.ensures.ok c.canon_file.ensures.rebuilt
