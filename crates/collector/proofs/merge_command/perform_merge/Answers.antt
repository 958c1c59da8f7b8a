use Rattle.std.proofs.Common.{[]}
use Rattle.collector.proofs.Performing.{merge_performed, merge_stopped}
use Rattle.collector.proofs.merge_command.perform_merge.Goals as goal

pub returns-in-Ok : goal.returns-in-Ok
returns-in-Ok g c =
    let read = c.in-Ok.ensures in
    let held = read.2 [] c.in_ok-merging.ensures in
    merge_performed g.F.Files c.args.files.now c.join_files.new.files c.args.target.now c.as_slice.result.now c.args.names.now read.0 c.merged_file.result c.as_slice.ensures read.1
    (c.merged_file.ensures.computed read.0 held) (c.merged_file.ensures.rebuilt read.0 held) c.merged_file.ensures.targets

pub returns-in-Err : goal.returns-in-Err
returns-in-Err g c =
    merge_stopped g.F.Files c.args.files.now c.join_files.new.files c.args.target.now c.as_slice.result.now c.args.names.now c.in-Err.stop c.as_slice.ensures c.in-Err.ensures
