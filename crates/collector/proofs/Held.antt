-- What is known of an answer for any messages that are held is known of it for these.
use Rattle.std.proofs.Common.{◌≡◌, ℕ, List, Result, Ok, Err, IfOk, IfErr}
use Rattle.otlp_msg.specs.Message.{Message}
use Rattle.draft_contents.specs.declared.fault.BuildFault.{BuildFault}
use Rattle.split_merge.specs.Canonical.{IsBuildFault}
use Rattle.split_merge.specs.Merged.{merged}
use Rattle.collector.specs.Outputs.{IsBuilt}

pub built_of_held : (r : Result (List ℕ) BuildFault) (messages : List Message) (holds : List Message → Type 0) → holds messages
    → IfOk r (λ b. (ms : List Message) → holds ms → merged ms ≡ Ok b) → IfErr r (λ fault. (ms : List Message) → holds ms → IsBuildFault (merged ms) fault)
    → IsBuilt (merged messages) r
built_of_held (Ok b) messages holds held ok refused = record { ok = ok messages held; refused = tt }
built_of_held (Err fault) messages holds held ok refused = record { ok = tt; refused = refused messages held }

pub true_of_held : (r : Result (List ℕ) BuildFault) (messages : List Message) (holds : List Message → Type 0) (P : List Message → List ℕ → Type 0) → holds messages
    → IfOk r (λ b. (ms : List Message) → holds ms → P ms b) → IfOk r (P messages)
true_of_held (Ok b) messages holds P held h = h messages held
true_of_held (Err fault) messages holds P held h = tt
