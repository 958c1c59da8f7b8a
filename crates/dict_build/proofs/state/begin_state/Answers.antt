use Rattle.std.proofs.Common.{◌≡◌, ap, subst, sym}
use Rattle.otlp_msg.specs.Checked.{value_of}
use Rattle.otlp_msg.specs.Message.{dictionary_of}
use Rattle.key_tables.specs.Keys.{Keys}
use Rattle.draft_contents.specs.Contents.{Contents, contents}
use Rattle.draft_contents.specs.Marks.{IsMark}
use Rattle.dict_build.proofs.Going.{begun_grown, begun_seen, found_dictionary, ready_for, walk_begun}
use Rattle.dict_build.proofs.state.begin_state.Goals as goal

pub begin-walk-requires-clause-source : goal.begin-walk-requires-clause-source
begin-walk-requires-clause-source g c =
    found_dictionary c.message-found.result.now (value_of c.args.message.now) c.message-found.ensures.value c.message-found.ensures.zeros c.message-found.ensures.entries
    c.message-found.ensures.records c.message-found.ensures.fits c.message-found.ensures.short

pub begin-walk-requires-clause-ready : goal.begin-walk-requires-clause-ready
begin-walk-requires-clause-ready g c =
    ready_for c.message-found.result.now.dictionary (value_of c.args.message.now) (contents c.args.tables c.args.records) c.args.memo (ap dictionary_of c.message-found.ensures.value)
    c.requires.mark.stands c.requires.memo

pub returns-clause-state : goal.returns-clause-state
returns-clause-state g c =
    let keys : contents c.begin-walk.result.keys c.args.records ≡ contents c.args.tables c.args.records = ap (λ (k : Keys). contents k c.args.records) c.begin-walk.ensures.keys in
    let source = found_dictionary c.message-found.result.now (value_of c.args.message.now) c.message-found.ensures.value c.message-found.ensures.zeros c.message-found.ensures.entries
    c.message-found.ensures.records c.message-found.ensures.fits c.message-found.ensures.short in
    record {
      walk = walk_begun (value_of c.args.message.now) c.begin-walk.result c.message-found.result.now.dictionary c.args.memo source (ap dictionary_of c.message-found.ensures.value) c.requires.memo
          c.begin-walk.ensures.source c.begin-walk.ensures.memo c.begin-walk.ensures.noted;
      grown = begun_grown c.args.start (contents c.begin-walk.result.keys c.args.records) (subst (λ (d : Contents). IsMark c.args.start d) (sym keys) c.requires.mark);
      heads = tt;
    }

pub returns-clause-seen : goal.returns-clause-seen
returns-clause-seen g c =
    begun_seen (value_of c.args.message.now) c.args.start c.begin-walk.result c.args.records (contents c.args.tables c.args.records) c.requires.mark
    (ap (λ (k : Keys). contents k c.args.records) c.begin-walk.ensures.keys)
