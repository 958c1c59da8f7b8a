use Rattle.otlp_msg.specs.Checked.{value_of}
use Rattle.split_merge.specs.Canonical.{canon_of}
use Rattle.collector.proofs.canon_command.canon_file.Goals as goal

pub returns-clause-computed : goal.returns-clause-computed
returns-clause-computed g c =
    c.output_of_built.ensures.computed (canon_of (value_of c.args.message.now)) (record { ok = c.canon.ensures.ok; refused = c.canon.ensures.refused })
