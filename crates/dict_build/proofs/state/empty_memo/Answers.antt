use Rattle.otlp_msg.specs.Checked.{value_of}
use Rattle.dict_build.proofs.Going.{memo_empty}
use Rattle.dict_build.proofs.state.empty_memo.Goals as goal

pub returns : goal.returns
returns c =
    memo_empty c.message-found.result.now (value_of c.args.message.now) c.in_ok-memo.memo c.message-found.ensures.value c.in_ok-memo.ensures.none c.in_ok-memo.ensures.seven
    c.in_ok-memo.ensures.nothing c.in_ok-memo.ensures.unmet
