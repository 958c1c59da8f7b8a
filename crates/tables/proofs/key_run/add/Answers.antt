use Rattle.std.proofs.Common.{rules, ◌≡◌, ◌<◌, ◌-◌, ◌^◌, ◌++◌, length, take, drop, arith}
use Rattle.std.proofs.lemmas.List.{take_at}
use Rattle.tables.specs.KeyRun.{IsPut}
use Rattle.tables.proofs.KeyRuns.{length-keys, put_kept}
use Rattle.tables.proofs.key_run.add.Goals as goal

pub returns-clause-kept : goal.returns-clause-kept
returns-clause-kept c =
    let old = c.args.keys.now in
    let heads = c.make_room.new.heads in
    let links = c.make_room.new.links in
    let heads_are : take heads.len (c.link.new.heads ++ drop (length c.link.new.heads) heads.items) ≡ c.link.new.heads = take_at c.link.new.heads _ heads.len (search rules) in
    let links_are : take links.len (c.link.new.links ++ drop (length c.link.new.links) links.items) ≡ c.link.new.links = take_at c.link.new.links _ links.len (search rules) in
    let few : length old.rows.items < 2 ^ 31 - 1 = omega (arith, c.requires.few, length-keys 0 old.rows.items old.run.items) in
    let room : length old.rows.items < length heads.items = search rules in
    let is_put : IsPut old.run.items old.rows.items c.args.bytes.now c.args.hash c.put.new.run.items c.put.new.rows.items = search rules in
    rw (heads_are, links_are) (put_kept old.run.items old.rows.items c.args.bytes.now c.args.hash c.put.new.run.items c.put.new.rows.items heads.items links.items c.link.new.heads c.link.new.links
    c.requires.kept.ends few room c.in_ok-make_room.ensures.steps is_put (search rules) (search rules) (search rules))
