use Rattle.std.proofs.Common.{ℕ, List, sym, ap, subst, ◌∙◌}
use Rattle.otlp_msg.specs.Checked.{value_of}
use Rattle.otlp_msg.specs.Message.{message_of}
use Rattle.collector.specs.Causes.{IsStop}
use Rattle.collector.specs.Messages.{accepted}
use Rattle.std.proofs.Common.{map}
use Rattle.collector.proofs.KeepingFiles.{messages_more, messages_stop}
use Rattle.collector.proofs.kept.messages_in.Goals as goal

pub loop-file-preserved : goal.loop-file-preserved
loop-file-preserved c =
    messages_more c.args.files.now c.loop-file.file-index c.file-item.result c.loop-file.messages c.add.new.self c.in-Ok.message c.loop-file-test.true c.file-item.is c.loop-file.invariant
    (ap (λ (b : List ℕ). accepted c.file-item.result.name (message_of b)) (sym c.as_slice.ensures) ∙ c.in-Ok.ensures.ok)
    c.in_default.ensures.ok

pub returns-in-Err-clause-stopped : goal.returns-in-Err-clause-stopped
returns-in-Err-clause-stopped c =
    messages_stop c.args.files.now c.loop-file.file-index c.file-item.result (map value_of c.loop-file.messages) c.in-Err.stop c.loop-file-test.true c.file-item.is c.loop-file.invariant
    (subst (λ (b : List ℕ). IsStop (accepted c.file-item.result.name (message_of b)) c.in-Err.stop) c.as_slice.ensures c.in-Err.ensures.stopped)
