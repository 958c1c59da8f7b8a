use Rattle.collector.proofs.KeepingFiles.{kept_more, kept_stop}
use Rattle.collector.proofs.kept.read_files.Goals as goal

pub loop-name-preserved : goal.loop-name-preserved
loop-name-preserved g c =
    kept_more g.F.Files c.args.files.now c.loop-name.files c.keep_file.new.files c.args.names.now c.loop-name.name-index c.name-item.result c.in_default.ensures.read.0 c.loop-name.kept c.keep_file.new.kept
    c.loop-name-test.true c.name-item.is c.loop-name.invariant c.in_default.ensures.read.1 c.in_default.ensures.read.2

pub returns-in-Err : goal.returns-in-Err
returns-in-Err g c =
    kept_stop g.F.Files c.args.files.now c.loop-name.files c.keep_file.new.files c.args.names.now c.loop-name.name-index c.name-item.result c.loop-name.kept c.keep_file.new.kept c.in-Err.stop
    c.loop-name-test.true c.name-item.is c.loop-name.invariant c.in-Err.ensures.read c.in-Err.ensures.same
