use Rattle.std.proofs.Common.{ap, subst, sym}
use Rattle.otlp_msg.specs.Checked.{value_of}
use Rattle.otlp_msg.specs.Message.{dictionary_of}
use Rattle.key_tables.specs.Keys.{Keys}
use Rattle.draft_contents.specs.Contents.{Contents, contents}
use Rattle.draft_contents.specs.Marks.{cut_to}
use Rattle.dict_build.specs.Adders.{adding}
use Rattle.dict_build.specs.States.{HasGrown}
use Rattle.dict_build.proofs.Going.{found_dictionary, ready_for, walk_begun}
use Rattle.dict_build.proofs.state.turn_to.Goals as goal

pub turn_to-requires-clause-source : goal.turn_to-requires-clause-source
turn_to-requires-clause-source g c =
    found_dictionary c.message-found.result.now (value_of c.args.message.now) c.message-found.ensures.value c.message-found.ensures.zeros c.message-found.ensures.entries
    c.message-found.ensures.records c.message-found.ensures.fits c.message-found.ensures.short

pub turn_to-requires-clause-ready : goal.turn_to-requires-clause-ready
turn_to-requires-clause-ready g c =
    ready_for c.message-found.result.now.dictionary (value_of c.args.message.now) (contents c.args.state.now.walk.keys c.args.state.now.records) c.args.memo
    (ap dictionary_of c.message-found.ensures.value) c.requires.grown.stands c.requires.memo

pub returns-clause-state : goal.returns-clause-state
returns-clause-state g c =
    let source = found_dictionary c.message-found.result.now (value_of c.args.message.now) c.message-found.ensures.value c.message-found.ensures.zeros c.message-found.ensures.entries
    c.message-found.ensures.records c.message-found.ensures.fits c.message-found.ensures.short in
    record {
      walk = walk_begun (value_of c.args.message.now) c.turn_to.new.self c.message-found.result.now.dictionary c.args.memo source (ap dictionary_of c.message-found.ensures.value) c.requires.memo
          c.turn_to.ensures.source c.turn_to.ensures.memo c.turn_to.ensures.noted;
      grown = subst (λ (k : Keys). HasGrown c.args.state.now.start (contents k c.args.state.now.records)) (sym c.turn_to.ensures.keys) c.requires.grown;
      heads = tt;
    }

pub returns-clause-seen : goal.returns-clause-seen
returns-clause-seen g c =
    ap (λ (k : Keys). let d : Contents = contents k c.args.state.now.records in adding d (cut_to c.args.state.now.start d) (value_of c.args.message.now)) c.turn_to.ensures.keys
