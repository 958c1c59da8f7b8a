use Rattle.std.proofs.Common.{◌≡◌, map, take, Ok}
use Rattle.otlp_msg.specs.Checked.{value_of}
use Rattle.collector.specs.KeptFiles.{message_in}
use Rattle.collector.specs.Messages.{each}
use Rattle.collector.proofs.kept.messages_in.Given as goal

-- the messages in the files so far stand in order
abbrev pub invariant-loop-file : goal.invariant-loop-file
invariant-loop-file l = each message_in (take l.file-index l.files) ≡ Ok (map value_of l.messages)
