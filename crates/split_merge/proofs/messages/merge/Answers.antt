use Rattle.std.proofs.Common.{◌≡◌, ℕ, List, Ok, Result, map, sym, subst, take}
use Rattle.otlp_msg.specs.Checked.{value_of}
use Rattle.otlp_msg.specs.Message.{Message}
use Rattle.draft_contents.specs.declared.fault.BuildFault.{BuildFault}
use Rattle.split_merge.specs.Canonical.{IsAcceptedAs, IsBuildFault, IsOnlyOf}
use Rattle.split_merge.specs.Merged.{IsMerge, joined_meaning, merged}
use Rattle.split_merge.proofs.Merges.{all_joined, of_these_err, of_these_ok, values-more}
use Rattle.split_merge.proofs.messages.merge.Goals as goal

pub loop-message-preserved : goal.loop-message-preserved
loop-message-preserved g c =
    let xs = c.as_slice-message-items.result.now in
    let i = c.loop-message.message-index in
    subst (λ (ms : List Message). IsMerge c.add.new.self ms)
    (sym (values-more value_of xs i c.message-item.result c.loop-message-test.true c.message-item.is))
    (c.in_default.ensures.ok (map value_of (take i xs)) c.loop-message.invariant)

pub returns-clause-ok : goal.returns-clause-ok
returns-clause-ok g c =
    of_these_ok (λ ms b. let r : Result (List ℕ) BuildFault = Ok b in merged ms ≡ r) c.finish.result c.loop-message.merging (map value_of c.args.messages.now)
    (all_joined value_of c.loop-message.merging c.as_slice-message-items.result.now c.args.messages.now c.loop-message.message-index c.loop-message-test.false c.as_slice-message-items.ensures c.loop-message.invariant)
    c.finish.ensures.ok

pub returns-clause-refused : goal.returns-clause-refused
returns-clause-refused g c =
    of_these_err (λ ms fault. IsBuildFault (merged ms) fault) c.finish.result c.loop-message.merging (map value_of c.args.messages.now)
    (all_joined value_of c.loop-message.merging c.as_slice-message-items.result.now c.args.messages.now c.loop-message.message-index c.loop-message-test.false c.as_slice-message-items.ensures c.loop-message.invariant)
    c.finish.ensures.refused

pub returns-clause-accepted : goal.returns-clause-accepted
returns-clause-accepted g c =
    of_these_ok (λ ms b. IsAcceptedAs b (joined_meaning ms)) c.finish.result c.loop-message.merging (map value_of c.args.messages.now)
    (all_joined value_of c.loop-message.merging c.as_slice-message-items.result.now c.args.messages.now c.loop-message.message-index c.loop-message-test.false c.as_slice-message-items.ensures c.loop-message.invariant)
    c.finish.ensures.accepted

pub returns-clause-unique : goal.returns-clause-unique
returns-clause-unique g c =
    of_these_ok (λ ms b. IsOnlyOf b (joined_meaning ms)) c.finish.result c.loop-message.merging (map value_of c.args.messages.now)
    (all_joined value_of c.loop-message.merging c.as_slice-message-items.result.now c.args.messages.now c.loop-message.message-index c.loop-message-test.false c.as_slice-message-items.ensures c.loop-message.invariant)
    c.finish.ensures.unique
