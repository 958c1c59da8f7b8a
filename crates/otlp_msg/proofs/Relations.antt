-- What the answer of a reader of messages means, in the terms of the encoding and of the schema.
use Rattle.std.proofs.Common.{◌≡◌, ℕ, List, Result, Ok, Err, IfOk, IfErr}
use Rattle.otlp_msg.specs.declared.refusal.Refusal.{Refusal}
use Rattle.otlp_msg.specs.declared.refusal.Refusal.TheVariants.{Size, Wire, ZeroEntry, Dangling, NoMemory}
use Rattle.otlp_msg.specs.Acceptance.{IsAccepted, IsRefusedFor}
use Rattle.otlp_msg.specs.Message.{Message, IsRefusal, message_of}
use Rattle.otlp_msg.proofs.Decisions.{accepted_from, dangling_from, size_from, wire_from, zero_entry_from}

pub accepted_if : {C : Type 0} (value : C → Message) (body : List ℕ) (r : Result C Refusal) → IfOk r (λ c. message_of body ≡ Ok (value c))
    → IfOk r (λ c. IsAccepted body (value c))
accepted_if value body (Ok c) e = accepted_from body (value c) e
accepted_if value body (Err why) e = tt

refused_for : (body : List ℕ) (why : Refusal) → IsRefusal (message_of body) why → IsRefusedFor body why
refused_for body (Size len) e = size_from body len e
refused_for body (Wire fault) e = wire_from body fault e
refused_for body (ZeroEntry table) e = zero_entry_from body table e
refused_for body (Dangling table index len path) e = dangling_from body table index len path e
refused_for body NoMemory e = tt

pub refused_if : {C : Type 0} (body : List ℕ) (r : Result C Refusal) → IfErr r (IsRefusal (message_of body)) → IfErr r (IsRefusedFor body)
refused_if body (Ok c) e = tt
refused_if body (Err why) e = refused_for body why e
