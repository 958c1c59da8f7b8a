-- The lines of files, one after the other.
use Rattle.std.proofs.Common.{◌≡◌, ℕ, List, [], ◌∷◌, ◌++◌, ◌+◌, ◌<◌, length, take, refl, sym, ap, ◌∙◌, get_or, Option, Some, None, Ok, Err, IsOk, IfSome, subst, append-nil, append_assoc}
use Rattle.std.specs.List.{concat}
use Rattle.outside.specs.FileMap.{FileMap}
use Rattle.outside.specs.declared.files.Files.{Ghosts as OfFiles}
use Rattle.collector.specs.declared.stop.Stop.{Stop}
use Rattle.collector.specs.declared.stop.Stop.TheVariants.{Refused, Read, Write, NoMemory}
use Rattle.collector.specs.Causes.{IsStop}
use Rattle.collector.specs.RunSteps.{IsRead}
use Rattle.otlp_msg.specs.Message.{Message, message_of}
use Rattle.collector.specs.CheckAnswer.{line_at, line_in, lines_at, message_line}
use Rattle.collector.specs.Messages.{accepted, after, bytes_at, each, message_at}
use Rattle.collector.proofs.Each.{Names, WentOn, went_on, each_more, each_stopped}
use Rattle.collector.proofs.RunSteps.{read_more, read_stops}

-- one text more at the end
concat-more : (ls : List (List ℕ)) (l : List ℕ) → concat (ls ++ l ∷ []) ≡ concat ls ++ l
concat-more [] l = append-nil l
concat-more (x ∷ xs) l = ap (λ (t : List ℕ). x ++ t) (concat-more xs l) ∙ sym (append_assoc x (concat xs) l)

-- the line of the name at i stands after those before it
lines_more : (m : FileMap) (names : Names) (i : ℕ) (name lines line : List ℕ) → i < length names → name ≡ get_or names i name
    → lines_at m (take i names) ≡ Ok lines → line_at m name ≡ Ok line → lines_at m (take (i + 1) names) ≡ Ok (lines ++ line)
lines_more m names i name lines line lt is so_far one =
    let before : WentOn (each (line_at m) (take i names)) (λ ls. Ok (concat ls)) lines = went_on _ _ _ so_far in
    let more : each (line_at m) (take (i + 1) names) ≡ Ok (before.value ++ line ∷ []) = each_more (line_at m) names i name before.value line lt is before.is one in
    let same : concat before.value ≡ lines = let e : Ok (concat before.value) ≡ Ok lines = before.later in cc in
    rw more (ap (λ (t : List ℕ). Ok t) (concat-more before.value line ∙ ap (λ (t : List ℕ). t ++ line) same))

-- the first refusal is that of the name at i
lines_refused : (m : FileMap) (names : Names) (i : ℕ) (name lines : List ℕ) (stop : Stop) → i < length names → name ≡ get_or names i name
    → lines_at m (take i names) ≡ Ok lines → line_at m name ≡ Err stop → lines_at m names ≡ Err stop
lines_refused m names i name lines stop lt is so_far one =
    let before : WentOn (each (line_at m) (take i names)) (λ ls. Ok (concat ls)) lines = went_on _ _ _ so_far in
    let ends : each (line_at m) names ≡ Err stop = each_stopped (line_at m) names i name before.value stop lt is before.is one in
    rw ends refl

lines_stopped : (m : FileMap) (names : Names) (i : ℕ) (name lines : List ℕ) (stop : Stop) → i < length names → name ≡ get_or names i name
    → lines_at m (take i names) ≡ Ok lines → IsStop (line_at m name) stop → IsStop (lines_at m names) stop
lines_stopped m names i name lines (Refused refusal) lt is so_far one = lines_refused m names i name lines (Refused refusal) lt is so_far one
lines_stopped m names i name lines (Read read) lt is so_far one = tt
lines_stopped m names i name lines (Write written) lt is so_far one = tt
lines_stopped m names i name lines NoMemory lt is so_far one = tt

-- ---- names whose lines stand hold messages

-- the message whose line this is
message_of_line : (m : FileMap) (name line : List ℕ) → line_at m name ≡ Ok line → (message : Message) × (message_at m name ≡ Ok message)
message_of_line m name line e =
    let bytes : WentOn (bytes_at m name) (line_in name) line = went_on _ _ _ e in
    let message : WentOn (accepted name (message_of bytes.value)) (message_line name) line = went_on _ _ _ bytes.later in
    (message.value, ap (λ r. after r (λ (b : List ℕ). accepted name (message_of b))) bytes.is ∙ message.is)

messages_of_lines : (m : FileMap) (names : Names) (lines : List (List ℕ)) → each (line_at m) names ≡ Ok lines
    → (messages : List Message) × (each (message_at m) names ≡ Ok messages)
messages_of_lines m [] lines e = ([], refl)
messages_of_lines m (name ∷ names) lines e =
    let first : WentOn (line_at m name) (λ a. after (each (line_at m) names) (λ l. Ok (a ∷ l))) lines = went_on _ _ _ e in
    let rest : WentOn (each (line_at m) names) (λ l. Ok (first.value ∷ l)) lines = went_on _ _ _ first.later in
    let one : (message : Message) × (message_at m name ≡ Ok message) = message_of_line m name first.value first.is in
    let more : (messages : List Message) × (each (message_at m) names ≡ Ok messages) = messages_of_lines m names rest.value rest.is in (
      one.0 ∷ more.0,
      ap (λ r. after r (λ (a : Message). after (each (message_at m) names) (λ rest. Ok (a ∷ rest)))) one.1
          ∙ ap (λ r. after r (λ (rest : List Message). Ok (one.0 ∷ rest))) more.1,
    )

are_accepted : (m : FileMap) (names : Names) (lines : List ℕ) → lines_at m names ≡ Ok lines → IsOk (each (message_at m) names)
are_accepted m names lines e =
    let before : WentOn (each (line_at m) names) (λ ls. Ok (concat ls)) lines = went_on _ _ _ e in
    let all : (messages : List Message) × (each (message_at m) names ≡ Ok messages) = messages_of_lines m names before.value before.is in
    subst IsOk (sym all.1) refl

-- ---- the same where a map is told, which the files before left as it was

told_more : (told now : Option FileMap) (names : Names) (i : ℕ) (name lines line both : List ℕ) → i < length names → name ≡ get_or names i name → now ≡ told
    → IfSome told (λ m. lines_at m (take i names) ≡ Ok lines) → IfSome now (λ m. line_at m name ≡ Ok line) → both ≡ lines ++ line
    → IfSome told (λ m. lines_at m (take (i + 1) names) ≡ Ok both)
told_more None now names i name lines line both lt is same so_far one joined = tt
told_more (Some m) now names i name lines line both lt is same so_far one joined =
    let line_is : line_at m name ≡ Ok line = subst (λ (o : Option FileMap). IfSome o (λ m. line_at m name ≡ Ok line)) same one in
    lines_more m names i name lines line lt is so_far line_is ∙ ap (λ (t : List ℕ). Ok t) (sym joined)

told_stopped : (told now : Option FileMap) (names : Names) (i : ℕ) (name lines : List ℕ) (stop : Stop) → i < length names → name ≡ get_or names i name → now ≡ told
    → IfSome told (λ m. lines_at m (take i names) ≡ Ok lines) → IfSome now (λ m. IsStop (line_at m name) stop) → IfSome told (λ m. IsStop (lines_at m names) stop)
told_stopped None now names i name lines stop lt is same so_far one = tt
told_stopped (Some m) now names i name lines stop lt is same so_far one =
    lines_stopped m names i name lines stop lt is so_far (subst (λ (o : Option FileMap). IfSome o (λ m. IsStop (line_at m name) stop)) same one)

told_accepted : (told : Option FileMap) (names : Names) (lines : List ℕ) → IfSome told (λ m. lines_at m names ≡ Ok lines)
    → IfSome told (λ m. IsOk (each (message_at m) names))
told_accepted None names lines e = tt
told_accepted (Some m) names lines e = are_accepted m names lines e

-- ---- the lines of the files so far, and of one more

pub lines_read : {S : Type 0} (F : OfFiles S) (old now new : S) (names : Names) (i : ℕ) (name lines line both : List ℕ) → i < length names → name ≡ get_or names i name
    → IsRead F old now (take i names) (λ m. lines_at m (take i names)) (Ok lines) → IsRead F now new (name ∷ []) (λ m. line_at m name) (Ok line) → both ≡ lines ++ line
    → IsRead F old new (take (i + 1) names) (λ m. lines_at m (take (i + 1) names)) (Ok both)
lines_read F old now new names i name lines line both lt is so_far one joined = record {
  ok = told_more (F.told old) (F.told now) names i name lines line both lt is so_far.reads.same so_far.ok one.ok joined;
  stopped = tt;
  reads = read_more F old now new (take i names) (name ∷ []) (take (i + 1) names) lines line both so_far.reads one.reads;
}

pub lines_stop : {S : Type 0} (F : OfFiles S) (old now new : S) (names : Names) (i : ℕ) (name lines : List ℕ) (stop : Stop) → i < length names → name ≡ get_or names i name
    → IsRead F old now (take i names) (λ m. lines_at m (take i names)) (Ok lines) → IsRead {T = List ℕ} F now new (name ∷ []) (λ m. line_at m name) (Err stop)
    → IsRead {T = List ℕ} F old new names (λ m. lines_at m names) (Err stop)
lines_stop F old now new names i name lines stop lt is so_far one = record {
  ok = tt;
  stopped = told_stopped (F.told old) (F.told now) names i name lines stop lt is so_far.reads.same so_far.ok one.stopped;
  reads = read_stops F old now new names i name lines stop lt is so_far.reads (told_accepted (F.told old) (take i names) lines so_far.ok) one.reads;
}
