use Rattle.std.proofs.Common.{◌≡◌, sym, map}
use Rattle.std.proofs.lemmas.Result.{err_from_is_err_and}
use Rattle.prof_rec.specs.Columns.{IsParted, samples_in}
use Rattle.prof_rec.specs.Views.{sample_view}
use Rattle.prof_rec.proofs.Reading.{HasRead, has_read, read_fails}
use Rattle.prof_rec.proofs.columns.read_sample.Goals as goal

pub returns-in_err-merge-clause-read : goal.returns-in_err-merge-clause-read
returns-in_err-merge-clause-read c =
    let p = err_from_is_err_and c.from_residual.result c.from_residual.ensures.1 in
    rw (p.1, p.2) (read_fails c.in_err-merge.field-0.0 c.args.all.now (map sample_view (samples_in c.args.heads.now c.args.all.now)) c.args.base c.args.bytes.now c.in_err-merge.ensures)

pub returns-clause-parted : goal.returns-clause-parted
returns-clause-parted c =
    let read : HasRead c.args.heads.now c.args.all.now c.merge.new.self c.args.base c.args.bytes.now = has_read c.args.heads.now c.args.all.now c.merge.new.self c.args.base c.args.bytes.now c.requires.parted c.in_ok-merge.ensures in
    rw c.in_ok-end_sample.ensures.ok read.parted

pub returns-clause-read : goal.returns-clause-read
returns-clause-read c =
    let read : HasRead c.args.heads.now c.args.all.now c.merge.new.self c.args.base c.args.bytes.now = has_read c.args.heads.now c.args.all.now c.merge.new.self c.args.base c.args.bytes.now c.requires.parted c.in_ok-merge.ensures in
    rw c.in_ok-end_sample.ensures.ok read.read
