-- Messages that are read from kept files are those that the files hold.
use Rattle.std.proofs.Common.{◌≡◌, ℕ, List, [], ◌∷◌, ◌++◌, inl, inr, refl, sym, ap, ◌∙◌, Option, Some, None, Result, Ok, Err, IsOk, IfSome, subst, arith}
use Rattle.outside.specs.FileMap.{FileMap}
use Rattle.outside.specs.declared.files.Files.{Ghosts as OfFiles}
use Rattle.otlp_msg.specs.Message.{Message}
use Rattle.collector.specs.declared.kept.KeptFile.{KeptFile}
use Rattle.collector.specs.declared.stop.Stop.{Stop}
use Rattle.collector.specs.declared.stop.Stop.TheVariants.{Refused, Read, Write, NoMemory}
use Rattle.collector.specs.Causes.{ReadFailedAt, IsStop, IsOfInput, ReadCause}
use Rattle.collector.specs.KeptFiles.{AreKept, EndsWith, IsFirstStop, StopsAfter, bodies_kept, message_in, names_kept}
use Rattle.collector.specs.Messages.{after, bytes_at, each, message_at}
use Rattle.collector.specs.RunSteps.{IsRead}
use Rattle.collector.proofs.Each.{Names, WentOn, went_on, each-early, each-stops, only_name}
use Rattle.collector.proofs.RunSteps.{no_fault, of_reading}

-- where the bytes are those of the files, so are the messages
same_messages : (m : FileMap) (files : List KeptFile) → each (bytes_at m) (names_kept files) ≡ Ok (bodies_kept files) → each (message_at m) (names_kept files) ≡ each message_in files
same_messages m [] e = refl
same_messages m (f ∷ fs) e =
    let first : WentOn (bytes_at m f.name) (λ a. after (each (bytes_at m) (names_kept fs)) (λ l. Ok (a ∷ l))) (f.body ∷ bodies_kept fs) = went_on _ _ _ e in
    let rest : WentOn (each (bytes_at m) (names_kept fs)) (λ l. Ok (first.value ∷ l)) (f.body ∷ bodies_kept fs) = went_on _ _ _ first.later in
    let both : Ok (first.value ∷ rest.value) ≡ Ok (f.body ∷ bodies_kept fs) = rest.later in
    let body : first.value ≡ f.body = cc in
    let bodies : rest.value ≡ bodies_kept fs = cc in
    let one : bytes_at m f.name ≡ Ok f.body = first.is ∙ ap (λ (b : List ℕ). Ok b) body in
    let more : each (message_at m) (names_kept fs) ≡ each message_in fs = same_messages m fs (rest.is ∙ ap (λ (l : Names). Ok l) bodies) in
    rw one (rw more refl)

told_messages : (told : Option FileMap) (names : Names) (files : List KeptFile) → names_kept files ≡ names
    → IfSome told (λ m. each (bytes_at m) names ≡ Ok (bodies_kept files)) → IfSome told (λ m. each (message_at m) names ≡ each message_in files)
told_messages None names files named h = tt
told_messages (Some m) names files named h =
    subst (λ (l : Names). each (message_at m) l ≡ each message_in files) named
    (same_messages m files (subst (λ (l : Names). each (bytes_at m) l ≡ Ok (bodies_kept files)) (sym named) h))

-- ---- what is told of the messages

told_value : (told : Option FileMap) (names : Names) (r : Result (List Message) Stop) (messages : List Message) → r ≡ Ok messages
    → IfSome told (λ m. each (message_at m) names ≡ r) → IfSome told (λ m. each (message_at m) names ≡ Ok messages)
told_value None names r messages e h = tt
told_value (Some m) names r messages e h = h ∙ e

stop_early : (m : FileMap) (names later : Names) (r : Result (List Message) Stop) (stop : Stop) → each (message_at m) names ≡ r → IsStop r stop → IsStop (each (message_at m) (names ++ later)) stop
stop_early m names later r (Refused refusal) e h = each-early (message_at m) names later (Refused refusal) (e ∙ h)
stop_early m names later r (Read name) e h = tt
stop_early m names later r (Write name) e h = tt
stop_early m names later r NoMemory e h = tt

told_early : (told : Option FileMap) (names later : Names) (r : Result (List Message) Stop) (stop : Stop) → IsStop r stop
    → IfSome told (λ m. each (message_at m) names ≡ r) → IfSome told (λ m. IsStop (each (message_at m) (names ++ later)) stop)
told_early None names later r stop h e = tt
told_early (Some m) names later r stop h e = stop_early m names later r stop e h

told_at_once : (told : Option FileMap) (names : Names) (r : Result (List Message) Stop) (stop : Stop) → IsStop r stop
    → IfSome told (λ m. each (message_at m) names ≡ r) → IfSome told (λ m. IsStop (each (message_at m) names) stop)
told_at_once None names r stop h e = tt
told_at_once (Some m) names r stop h e = subst (λ (q : Result (List Message) Stop). IsStop q stop) (sym e) h

stop_next : (m : FileMap) (before later : Names) (name : List ℕ) (messages : List Message) (stop : Stop) → each (message_at m) before ≡ Ok messages
    → IsStop (bytes_at m name) stop → IsStop (each (message_at m) (before ++ name ∷ later)) stop
stop_next m before later name messages (Refused refusal) e h =
    let ends : each (message_at m) (name ∷ later) ≡ Err (Refused refusal) = rw h refl in
    each-stops (message_at m) before (name ∷ later) messages (Refused refusal) e ends
stop_next m before later name messages (Read read) e h = tt
stop_next m before later name messages (Write written) e h = tt
stop_next m before later name messages NoMemory e h = tt

told_next : (told now : Option FileMap) (before later : Names) (name : List ℕ) (messages : List Message) (stop : Stop) → now ≡ told
    → IfSome told (λ m. each (message_at m) before ≡ Ok messages) → IfSome now (λ m. IsStop (bytes_at m name) stop)
    → IfSome told (λ m. IsStop (each (message_at m) (before ++ name ∷ later)) stop)
told_next None now before later name messages stop same e h = tt
told_next (Some m) now before later name messages stop same e h =
    stop_next m before later name messages stop e (subst (λ (o : Option FileMap). IfSome o (λ m. IsStop (bytes_at m name) stop)) same h)

told_accepted : (told : Option FileMap) (names : Names) (messages : List Message) → IfSome told (λ m. each (message_at m) names ≡ Ok messages)
    → IfSome told (λ m. IsOk (each (message_at m) names))
told_accepted None names messages e = tt
told_accepted (Some m) names messages e = subst IsOk (sym e) refl

-- a stop at the next file is one of them all
cause_next : (told now : Option FileMap) (failed failed' : List ℕ → Type 0) (names before later : Names) (name : List ℕ) (stop : Stop) → names ≡ before ++ name ∷ later
    → IfSome told (λ m. IsOk (each (message_at m) before)) → ((n : List ℕ) → failed n → failed' n) → ReadCause (name ∷ []) now failed stop → ReadCause names told failed' stop
cause_next told now failed failed' names before later name (Refused refusal) is so_far also h = h
cause_next told now failed failed' names before later name (Read read) is so_far also (next, at) = (
  record {
    before = before;
    later = later;
    is = is ∙ ap (λ (n : List ℕ). before ++ n ∷ later) (sym (only_name name read next.before next.later next.is));
    accepted = so_far;
  },
  also read at,
)
cause_next told now failed failed' names before later name (Write written) is so_far also h = h
cause_next told now failed failed' names before later name NoMemory is so_far also h = tt

-- ---- the laws

pub messages_read : {S : Type 0} (F : OfFiles S) (old new : S) (names : Names) (files : List KeptFile) (stop : Option Stop) (messages : List Message)
    → EndsWith F old new names files stop → each message_in files ≡ Ok messages → stop ≡ None → IsRead F old new names (λ m. each (message_at m) names) (Ok messages)
messages_read F old new names files (Some stop) messages ends e none = absurd cc
messages_read F old new names files None messages ends e none = record {
  ok = told_value (F.told old) names (each message_in files) messages e (told_messages (F.told old) names files ends.named ends.read.ok);
  stopped = tt;
  reads = record {
    same = ends.read.reads.same;
    cause = tt;
    later = ends.read.reads.later;
    writes = ends.read.reads.writes;
    sound = λ h. ((ends.read.reads.sound h).0, tt);
  };
}

ended : {S : Type 0} (F : OfFiles S) (old new : S) (names : Names) (files : List KeptFile) (stop : Stop) → AreKept F old new names files
    → IsStop (each message_in files) stop → IsOfInput stop → IsRead {T = List Message} F old new names (λ m. each (message_at m) names) (Err stop)
ended F old new names files stop kept h of_input = record {
  ok = tt;
  stopped = told_at_once (F.told old) names (each message_in files) stop h (told_messages (F.told old) names files kept.named kept.read.ok);
  reads = record {
    same = kept.read.reads.same;
    cause = of_reading names (F.told old) (ReadFailedAt F old new) stop of_input;
    later = kept.read.reads.later;
    writes = kept.read.reads.writes;
    sound = λ s. ((kept.read.reads.sound s).0, no_fault stop of_input);
  };
}

ended_early : {S : Type 0} (F : OfFiles S) (old new : S) (names : Names) (files : List KeptFile) (stop first : Stop) → StopsAfter F old new names files stop
    → IsStop (each message_in files) first → IsOfInput first → IsRead {T = List Message} F old new names (λ m. each (message_at m) names) (Err first)
ended_early F old new names files stop first s h of_input = record {
  ok = tt;
  stopped = subst (λ (l : Names). IfSome (F.told old) (λ m. IsStop (each (message_at m) l) first)) (sym s.is)
      (told_early (F.told old) s.before (s.name ∷ s.later) (each message_in files) first h (told_messages (F.told old) s.before files s.kept.named s.kept.read.ok));
  reads = record {
    same = s.stopped.reads.same ∙ s.kept.read.reads.same;
    cause = of_reading names (F.told old) (ReadFailedAt F old new) first of_input;
    later = omega (arith, s.kept.read.reads.later, s.stopped.reads.later);
    writes = s.stopped.reads.writes ∙ s.kept.read.reads.writes;
    sound = λ o. ((s.stopped.reads.sound (s.kept.read.reads.sound o).0).0, no_fault first of_input);
  };
}

ended_next : {S : Type 0} (F : OfFiles S) (old new : S) (names : Names) (files : List KeptFile) (stop : Stop) (messages : List Message) → StopsAfter F old new names files stop
    → each message_in files ≡ Ok messages → IsRead {T = List Message} F old new names (λ m. each (message_at m) names) (Err stop)
ended_next F old new names files stop messages s e =
    let are : IfSome (F.told old) (λ m. each (message_at m) s.before ≡ Ok messages) =
    told_value (F.told old) s.before (each message_in files) messages e (told_messages (F.told old) s.before files s.kept.named s.kept.read.ok)
    in
    record {
      ok = tt;
      stopped = subst (λ (l : Names). IfSome (F.told old) (λ m. IsStop (each (message_at m) l) stop)) (sym s.is)
          (told_next (F.told old) (F.told s.between) s.before s.later s.name messages stop s.kept.read.reads.same are s.stopped.stopped);
      reads = record {
        same = s.stopped.reads.same ∙ s.kept.read.reads.same;
        cause = cause_next (F.told old) (F.told s.between) (ReadFailedAt F s.between new) (ReadFailedAt F old new) names s.before s.later s.name stop s.is (told_accepted (F.told old) s.before messages are)
            (λ n h. (h.0, omega (arith, h.1, s.kept.read.reads.later, s.stopped.reads.later))) s.stopped.reads.cause;
        later = omega (arith, s.kept.read.reads.later, s.stopped.reads.later);
        writes = s.stopped.reads.writes ∙ s.kept.read.reads.writes;
        sound = λ o. s.stopped.reads.sound (s.kept.read.reads.sound o).0;
      };
    }

-- a value that is there
there : {A : Type 0} (r : Result A Stop) → IsOk r → (a : A) × (r ≡ Ok a)
there (Ok a) h = (a, refl)
there (Err stop) h = absurd cc

pub messages_stopped : {S : Type 0} (F : OfFiles S) (old new : S) (names : Names) (files : List KeptFile) (before : Option Stop) (stop : Stop)
    → EndsWith F old new names files before → IsFirstStop files before stop → IsRead {T = List Message} F old new names (λ m. each (message_at m) names) (Err stop)
messages_stopped F old new names files None stop ends (inl (h, of_input)) = ended F old new names files stop ends h of_input
messages_stopped F old new names files None stop ends (inr (ok, e)) = absurd cc
messages_stopped F old new names files (Some s) stop ends (inl (h, of_input)) = ended_early F old new names files s stop ends h of_input
messages_stopped F old new names files (Some s) stop ends (inr (ok, e)) =
    let same : s ≡ stop = cc in
    let are = there (each message_in files) ok in
    subst (λ (t : Stop). IsRead {T = List Message} F old new names (λ m. each (message_at m) names) (Err t)) same (ended_next F old new names files s are.0 ends are.1)
