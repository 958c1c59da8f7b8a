use Rattle.otlp_msg.specs.Checked.{value_of}
use Rattle.split_merge.proofs.Merges.{one_more, too_many}
use Rattle.split_merge.proofs.merging.joined.Goals as goal

pub returns-in-Ok-clause-ok : goal.returns-in-Ok-clause-ok
returns-in-Ok-clause-ok g c = one_more c.args.draft.now c.add_message.new.self (value_of c.args.message.now) c.in-Ok.ensures.ok

pub returns-in-Err-OutputLimit-clause-ok : goal.returns-in-Err-OutputLimit-clause-ok
returns-in-Err-OutputLimit-clause-ok g c =
    let f = rw c.in-Err-OutputLimit.field-0-is at c.in-Err-OutputLimit.ensures.fault in
    too_many c.args.draft.now c.add_message.new.self (value_of c.args.message.now) c.in-Err-OutputLimit.size f
