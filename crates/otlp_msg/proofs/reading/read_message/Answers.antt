use Rattle.otlp_msg.specs.Checked.{value_of}
use Rattle.otlp_msg.proofs.Relations.{accepted_if, refused_if}
use Rattle.otlp_msg.proofs.reading.read_message.Goals as goal

pub returns-clause-accepted : goal.returns-clause-accepted
returns-clause-accepted c = accepted_if value_of c.args.body.now c.tested_message.result c.tested_message.ensures.ok

pub returns-clause-why : goal.returns-clause-why
returns-clause-why c = refused_if c.args.body.now c.tested_message.result c.tested_message.ensures.refused
