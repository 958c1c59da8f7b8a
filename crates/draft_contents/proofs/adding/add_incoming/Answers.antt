use Rattle.std.proofs.Common.{◌∙◌, sym, subst}
use Rattle.schema.specs.Messages.{resource_profiles}
use Rattle.meaning.specs.Canonical.{records as records_of}
use Rattle.otlp_msg.specs.Message.{message_limit}
use Rattle.dict_rec.specs.declared.dictionary.Dictionary.{Dictionary}
use Rattle.key_tables.specs.Keys.{Keys}
use Rattle.renumber.specs.Entries.{IsPart}
use Rattle.renumber.specs.Walk.{IsReady}
use Rattle.draft_contents.specs.Contents.{contents}
use Rattle.draft_contents.specs.Singles.{coming, joining_of}
use Rattle.draft_contents.proofs.Results.{if_err, on_ok}
use Rattle.draft_contents.proofs.DraftContents.{draft_ready}
use Rattle.draft_contents.proofs.Joins.{Led, placed_stands, led_on, refused}
use Rattle.draft_contents.proofs.Marks.{goes_itself}
use Rattle.draft_contents.proofs.adding.add_incoming.Goals as goal

pub begin-walk-requires-clause-ready : goal.begin-walk-requires-clause-ready
begin-walk-requires-clause-ready g c =
    subst (λ (k : Keys). IsReady c.args.dictionary.now k c.in_ok-memo.memo.lists) (sym c.take.ensures.taken)
    (draft_ready c.args.dictionary.now (contents c.args.tables.now c.args.records.now) c.requires.stands.0 c.in_ok-memo.memo.lists c.requires.stands.1.draft c.in_ok-memo.ensures.seven
    c.in_ok-memo.ensures.none)

pub put_incoming-done-requires-clause-part : goal.put_incoming-done-requires-clause-part
put_incoming-done-requires-clause-part g c =
    subst (λ (o : Dictionary). IsPart (records_of resource_profiles) o (coming c.args.incoming.now, tt)) (sym c.begin-walk.ensures.source) c.requires.parts

pub returns-in_err-memo-clause-grown : goal.returns-in_err-memo-clause-grown
returns-in_err-memo-clause-grown g c = goes_itself (contents c.args.tables.now c.args.records.now)

pub returns-clause-ok : goal.returns-clause-ok
returns-clause-ok g c =
    let l : Led c.args.dictionary.now c.args.tables.now c.into_tables.result c.begin-walk.result c.put_incoming-done.new.walk = record {
      source = c.begin-walk.ensures.source;
      from = c.begin-walk.ensures.keys ∙ c.take.ensures.taken;
      same = c.put_incoming-done.ensures.moves.same;
      to = c.into_tables.ensures.keys;
      sound = c.into_tables.ensures.source;
      ready = c.into_tables.ensures.ready;
    } in
    on_ok c.put_incoming-done.result
    (λ q few. placed_stands c.args.dictionary.now c.args.tables.now c.into_tables.result c.begin-walk.result c.put_incoming-done.new.walk l (joining_of c.args.incoming.now) (coming c.args.incoming.now)
    c.args.records.now c.put_incoming-done.new.records c.requires.fits q few)
    c.put_incoming-done.ensures.ok c.put_incoming-done.ensures.small

pub returns-clause-fault : goal.returns-clause-fault
returns-clause-fault g c =
    let l : Led c.args.dictionary.now c.args.tables.now c.into_tables.result c.begin-walk.result c.put_incoming-done.new.walk = record {
      source = c.begin-walk.ensures.source;
      from = c.begin-walk.ensures.keys ∙ c.take.ensures.taken;
      same = c.put_incoming-done.ensures.moves.same;
      to = c.into_tables.ensures.keys;
      sound = c.into_tables.ensures.source;
      ready = c.into_tables.ensures.ready;
    } in
    if_err c.put_incoming-done.result
    (λ fault q. refused c.args.dictionary.now c.args.tables.now c.into_tables.result c.begin-walk.result c.put_incoming-done.new.walk l (joining_of c.args.incoming.now) (coming c.args.incoming.now)
    message_limit c.args.records.now fault c.requires.fits q)
    c.put_incoming-done.ensures.fault

pub returns-clause-grown : goal.returns-clause-grown
returns-clause-grown g c =
    led_on c.args.tables.now c.into_tables.result c.begin-walk.result c.put_incoming-done.new.walk (c.begin-walk.ensures.keys ∙ c.take.ensures.taken) c.into_tables.ensures.keys
    c.args.records.now c.put_incoming-done.new.records c.put_incoming-done.ensures.moves.kept c.put_incoming-done.ensures.front
