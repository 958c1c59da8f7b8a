-- Files whose messages are joined, one after the other.
use Rattle.std.proofs.Common.{◌≡◌, ℕ, List, [], ◌∷◌, ◌++◌, ◌+◌, ◌<◌, length, take, refl, sym, get_or, Option, Some, None, Result, Ok, Err, IsOk, IfSome, subst, append_assoc}
use Rattle.outside.specs.FileMap.{FileMap}
use Rattle.outside.specs.declared.files.Files.{Ghosts as OfFiles}
use Rattle.otlp_msg.specs.Message.{Message}
use Rattle.collector.specs.declared.stop.Stop.{Stop}
use Rattle.collector.specs.declared.stop.Stop.TheVariants.{Refused, Read, Write, NoMemory}
use Rattle.collector.specs.Causes.{IsStop}
use Rattle.collector.specs.MergeAnswer.{Gains}
use Rattle.collector.specs.Messages.{after, each, message_at}
use Rattle.collector.specs.RunSteps.{ComputesTo, IsRead, ReadsTo}
use Rattle.collector.proofs.Each.{Names, each_more, each_stopped}
use Rattle.collector.proofs.RunSteps.{computed_after, read_more, read_stops}

-- files are read, and a value of which something holds is computed from them
pub computed_to : {S A B T : Type 0} (F : OfFiles S) (old new : S) (names : Names) (want : FileMap → Result A Stop) (next : A → Result B Stop) (holds : B → T → Type 0) (a : A) (r : Result T Stop)
    → IsRead F old new names want (Ok a) → ComputesTo (next a) holds r → ReadsTo F old new names (λ m. after (want m) next) holds r
computed_to F old new names want next holds a (Ok value) first rest =
    (rest.0, computed_after F old new names want next a (Ok (rest.0)) first rest.1, rest.2)
computed_to F old new names want next holds a (Err stop) first rest = computed_after F old new names want next a (Err stop) first rest

-- ---- the messages in the files so far, where a map is told that the files before left as it was

pub told_more : {A : Type 0} (f : FileMap → List ℕ → Result A Stop) (told now : Option FileMap) (names : Names) (i : ℕ) (name : List ℕ) (vs : List A) (v : A) → i < length names → name ≡ get_or names i name → now ≡ told
    → IfSome told (λ m. each (f m) (take i names) ≡ Ok vs) → IfSome now (λ m. f m name ≡ Ok v)
    → IfSome told (λ m. each (f m) (take (i + 1) names) ≡ Ok (vs ++ v ∷ []))
told_more f None now names i name vs v lt is same so_far one = tt
told_more f (Some m) now names i name vs v lt is same so_far one =
    each_more (f m) names i name vs v lt is so_far (subst (λ (o : Option FileMap). IfSome o (λ m. f m name ≡ Ok v)) same one)

stopped_at : (m : FileMap) (names : Names) (i : ℕ) (name : List ℕ) (messages : List Message) (stop : Stop) → i < length names → name ≡ get_or names i name
    → each (message_at m) (take i names) ≡ Ok messages → IsStop (message_at m name) stop → IsStop (each (message_at m) names) stop
stopped_at m names i name messages (Refused refusal) lt is so_far one = each_stopped (message_at m) names i name messages (Refused refusal) lt is so_far one
stopped_at m names i name messages (Read read) lt is so_far one = tt
stopped_at m names i name messages (Write written) lt is so_far one = tt
stopped_at m names i name messages NoMemory lt is so_far one = tt

told_stopped : (told now : Option FileMap) (names : Names) (i : ℕ) (name : List ℕ) (messages : List Message) (stop : Stop) → i < length names → name ≡ get_or names i name → now ≡ told
    → IfSome told (λ m. each (message_at m) (take i names) ≡ Ok messages) → IfSome now (λ m. IsStop (message_at m name) stop) → IfSome told (λ m. IsStop (each (message_at m) names) stop)
told_stopped None now names i name messages stop lt is same so_far one = tt
told_stopped (Some m) now names i name messages stop lt is same so_far one =
    stopped_at m names i name messages stop lt is so_far (subst (λ (o : Option FileMap). IfSome o (λ m. IsStop (message_at m name) stop)) same one)

told_accepted : (told : Option FileMap) (names : Names) (messages : List Message) → IfSome told (λ m. each (message_at m) names ≡ Ok messages)
    → IfSome told (λ m. IsOk (each (message_at m) names))
told_accepted None names messages e = tt
told_accepted (Some m) names messages e = subst IsOk (sym e) refl

-- ---- one file more

pub joined_more : {S : Type 0} (F : OfFiles S) (old now new : S) (names : Names) (i : ℕ) (name : List ℕ) (before held gained : List Message → Type 0) (messages : List Message) (message : Message)
    → i < length names → name ≡ get_or names i name
    → IsRead F old now (take i names) (λ m. each (message_at m) (take i names)) (Ok messages) → Gains before held messages
    → IsRead F now new (name ∷ []) (λ m. message_at m name) (Ok message) → Gains held gained (message ∷ [])
    → ReadsTo F old new (take (i + 1) names) (λ m. each (message_at m) (take (i + 1) names)) (λ messages _. Gains before gained messages) (let r : Result (Unit {0}) Stop = Ok tt in r)
joined_more F old now new names i name before held gained messages message lt is so_far joined one gains = (
  messages ++ message ∷ [],
  record {
    ok = told_more (λ m. message_at m) (F.told old) (F.told now) names i name messages message lt is so_far.reads.same so_far.ok one.ok;
    stopped = tt;
    reads = read_more F old now new (take i names) (name ∷ []) (take (i + 1) names) messages message (messages ++ message ∷ []) so_far.reads one.reads;
  },
  λ earlier h. subst gained (append_assoc earlier messages (message ∷ [])) (gains (earlier ++ messages) (joined earlier h)),
)

pub joined_stop : {S : Type 0} (F : OfFiles S) (old now new : S) (names : Names) (i : ℕ) (name : List ℕ) (messages : List Message) (stop : Stop) → i < length names → name ≡ get_or names i name
    → IsRead F old now (take i names) (λ m. each (message_at m) (take i names)) (Ok messages) → IsRead {T = Message} F now new (name ∷ []) (λ m. message_at m name) (Err stop)
    → IsRead {T = List Message} F old new names (λ m. each (message_at m) names) (Err stop)
joined_stop F old now new names i name messages stop lt is so_far one = record {
  ok = tt;
  stopped = told_stopped (F.told old) (F.told now) names i name messages stop lt is so_far.reads.same so_far.ok one.stopped;
  reads = read_stops F old now new names i name messages stop lt is so_far.reads (told_accepted (F.told old) (take i names) messages so_far.ok) one.reads;
}
