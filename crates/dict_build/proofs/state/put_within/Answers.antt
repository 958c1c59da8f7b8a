use Rattle.std.proofs.Common.{arith}
use Rattle.schema.specs.Messages.{resource_profiles}
use Rattle.renumber.specs.Walk.{missed}
use Rattle.renumber.proofs.Marks.{walk_moves}
use Rattle.draft_contents.specs.Singles.{coming, joining_of}
use Rattle.draft_contents.proofs.Additions.{missed_most}
use Rattle.draft_contents.proofs.Results.{if_err, on_ok}
use Rattle.dict_build.proofs.Going.{is_put, is_refused}
use Rattle.dict_build.proofs.state.put_within.Goals as goal

pub returns-clause-ok : goal.returns-clause-ok
returns-clause-ok g c =
    on_ok c.put_incoming-done.result
    (is_put c.args.walk.now c.put_incoming-done.new.walk c.put_incoming-done.ensures.moves.same c.tables-tables.ensures.source c.tables-tables.ensures.ready c.args.limit
    (joining_of c.args.incoming.now) c.args.records.now (coming c.args.incoming.now) c.requires.fits c.put_incoming-done.new.records c.requires.limit)
    c.put_incoming-done.ensures.ok c.put_incoming-done.ensures.small

pub returns-clause-fault : goal.returns-clause-fault
returns-clause-fault g c =
    if_err c.put_incoming-done.result
    (is_refused c.args.walk.now c.put_incoming-done.new.walk c.put_incoming-done.ensures.moves.same c.tables-tables.ensures.source c.tables-tables.ensures.ready c.args.limit
    (joining_of c.args.incoming.now) c.args.records.now (coming c.args.incoming.now) c.requires.fits)
    c.put_incoming-done.ensures.fault

pub returns-clause-grown : goal.returns-clause-grown
returns-clause-grown g c =
    walk_moves resource_profiles (missed c.put_incoming-done.result) c.args.walk.now c.put_incoming-done.new.walk c.args.steps.now c.put_incoming-done.new.steps c.put_incoming-done.ensures.moves

pub returns-clause-steps : goal.returns-clause-steps
returns-clause-steps g c = omega (arith, c.put_incoming-done.ensures.moves.most, missed_most c.put_incoming-done.result)
