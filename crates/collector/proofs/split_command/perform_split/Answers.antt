use Rattle.std.proofs.Common.{map}
use Rattle.otlp_msg.specs.Checked.{value_of}
use Rattle.collector.proofs.SplitPerformed.{split_performed, split_stopped}
use Rattle.collector.proofs.split_command.perform_split.Goals as goal

pub returns-in-Ok : goal.returns-in-Ok
returns-in-Ok g c =
    split_performed g.F.Files c.args.files.now c.read_files-kept.new.files c.args.limit c.args.prefix.now c.as_slice.result.now c.args.names.now
    c.read_files-kept.result.files c.as_slice-2.result.now c.read_files-kept.result.stop (map value_of c.in-Ok.messages) c.split_messages.result
    c.as_slice.ensures c.as_slice-2.ensures c.read_files-kept.ensures c.in-Ok.ensures.ok.0 c.in-Ok.ensures.ok.1 c.split_messages.ensures.computed c.split_messages.ensures.kept

pub returns : goal.returns
returns g c =
    split_stopped g.F.Files c.args.files.now c.read_files-kept.new.files c.args.limit c.args.prefix.now c.as_slice.result.now c.args.names.now
    c.read_files-kept.result.files c.as_slice-2.result.now c.read_files-kept.result.stop c.in-Err.stop
    c.as_slice.ensures c.as_slice-2.ensures c.read_files-kept.ensures c.in-Err.ensures.stopped
