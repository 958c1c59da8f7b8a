use Rattle.otlp_msg.proofs.Acceptance.{accepted_short, accepted_fits, accepted_zeros, accepted_entries, accepted_records}
use Rattle.otlp_msg.specs.Checked.{body_of, value_of}
use Rattle.otlp_msg.proofs.checked.Checked.message.Goals as goal

pub returns-clause-short : goal.returns-clause-short
returns-clause-short c = accepted_short (body_of c.args.self.now) (value_of c.args.self.now) c.args.self.now.octets c.args.self.now.read

pub returns-clause-fits : goal.returns-clause-fits
returns-clause-fits c = accepted_fits (body_of c.args.self.now) (value_of c.args.self.now) c.args.self.now.octets c.args.self.now.read

pub returns-clause-zeros : goal.returns-clause-zeros
returns-clause-zeros c = accepted_zeros (body_of c.args.self.now) (value_of c.args.self.now) c.args.self.now.read

pub returns-clause-entries : goal.returns-clause-entries
returns-clause-entries c = accepted_entries (body_of c.args.self.now) (value_of c.args.self.now) c.args.self.now.read

pub returns-clause-records : goal.returns-clause-records
returns-clause-records c = accepted_records (body_of c.args.self.now) (value_of c.args.self.now) c.args.self.now.read
