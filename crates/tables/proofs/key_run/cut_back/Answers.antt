use Rattle.std.proofs.Common.{rules, ap, ◌≡◌, ◌≤◌, ◌++◌, length, take, drop, arith}
use Rattle.std.proofs.lemmas.List.{take_at}
use Rattle.tables.specs.KeyRun.{begin_from}
use Rattle.tables.proofs.KeyRuns.{cut_kept, cut_keys, length-keys}
use Rattle.tables.proofs.key_run.cut_back.Goals as goal

pub unlink-requires-clause-within : goal.unlink-requires-clause-within
unlink-requires-clause-within c =
    let rows = c.args.keys.now.rows.items in
    omega (arith, c.requires.within, length-keys 0 rows c.args.keys.now.run.items, ap length c.deref.ensures.value)

pub begin_of-requires : goal.begin_of-requires
begin_of-requires c =
    let rows = c.args.keys.now.rows.items in
    omega (arith, c.requires.within, length-keys 0 rows c.args.keys.now.run.items, ap length c.deref-3.ensures.value)

pub returns-clause-kept : goal.returns-clause-kept
returns-clause-kept c =
    let old = c.args.keys.now in
    let heads_are : take old.heads.len (c.unlink.new.heads ++ drop (length c.unlink.new.heads) old.heads.items) ≡ c.unlink.new.heads = take_at c.unlink.new.heads _ old.heads.len (search rules) in
    let within : c.args.left ≤ length old.rows.items = omega (arith, c.requires.within, length-keys 0 old.rows.items old.run.items) in
    rw heads_are (cut_kept old.run.items old.rows.items old.heads.items c.unlink.new.heads old.links.items c.args.left c.truncate.new.self.items c.truncate-2.new.self.items
    c.requires.kept within (search rules) (search rules) (search rules) (search rules))

pub returns-clause-keys : goal.returns-clause-keys
returns-clause-keys c =
    let old = c.args.keys.now in
    let run : c.truncate.new.self.items ≡ take (begin_from 0 old.rows.items c.args.left) old.run.items = search rules in
    rw (c.truncate-2.ensures.items, run) (cut_keys old.run.items old.rows.items c.args.left c.requires.kept.ends)
