use Rattle.std.proofs.Common.{[]}
use Rattle.otlp_msg.specs.Checked.{value_of}
use Rattle.split_merge.specs.Canonical.{meaning}
use Rattle.split_merge.proofs.Bytes.{answered, only_answer, refused_as}
use Rattle.split_merge.proofs.canonical.canon_with.Goals as goal

pub returns-in-Err-clause-refused : goal.returns-in-Err-clause-refused
returns-in-Err-clause-refused g c = refused_as (value_of c.args.message.now) c.in-Err.fault (c.in-Err.ensures.fault [] c.in_ok-draft.ensures)

pub returns-in-Ok-clause-ok : goal.returns-in-Ok-clause-ok
returns-in-Ok-clause-ok g c =
    let m = value_of c.args.message.now in
    let s = c.in_default.ensures.ok [] c.in_ok-draft.ensures in
    let w = s.written in answered m c.in-Ok.bytes (c.in-Ok.ensures.ok (meaning m) s) w.small

pub returns-in-Ok-clause-accepted : goal.returns-in-Ok-clause-accepted
returns-in-Ok-clause-accepted g c = c.in-Ok.ensures.accepted (meaning (value_of c.args.message.now)) (c.in_default.ensures.ok [] c.in_ok-draft.ensures)

pub returns-in-Ok-clause-unique : goal.returns-in-Ok-clause-unique
returns-in-Ok-clause-unique g c =
    let ms = meaning (value_of c.args.message.now) in
    let s = c.in_default.ensures.ok [] c.in_ok-draft.ensures in only_answer ms c.in-Ok.bytes s.written (c.in-Ok.ensures.ok ms s)
