use Rattle.std.proofs.Common.{rules, arith, ◌≡◌, ◌<◌, length}
use Rattle.tables.proofs.KeyRuns.{at_row, find_begins}
use Rattle.tables.proofs.key_run.find.Goals as goal

pub returns-then-many-eq0 : goal.returns-then-many-eq0
returns-then-many-eq0 c = λ place a e.
    let many : c.len-many.result ≡ length c.args.keys.now.heads.items = search rules in
    let within : place < length c.args.keys.now.rows.items = at_row c.args.keys.now.rows.items c.args.keys.now.run.items c.args.bytes.now place a in
    absurd (omega (arith, within, many, c.requires.room, c.if-many-eq0.true))

pub loop-next-init : goal.loop-next-init
loop-next-init c =
    let many : c.len-many.result ≡ length c.args.keys.now.heads.items = search rules in
    find_begins c.args.keys.now.run.items c.args.keys.now.rows.items c.args.keys.now.heads.items c.args.keys.now.links.items c.args.bytes.now c.args.hash c.len-many.result c.bucket_of.result c.index-next.result.now
    c.requires many c.bucket_of.ensures.is c.bucket_of.ensures.within c.index-next.ensures
