-- Steps one after the other.
use Rattle.std.proofs.Common.{◌≡◌, ℕ, List, [], ◌∷◌, ◌<◌, ◌∙◌, length, take, get_or, refl, sym, Option, Some, None, Result, Ok, Err, IsOk, IfSome, subst, arith}
use Rattle.outside.specs.FileMap.{FileMap}
use Rattle.outside.specs.declared.files.Files.{Ghosts as OfFiles}
use Rattle.collector.specs.declared.stop.Stop.{Stop}
use Rattle.collector.specs.declared.stop.Stop.TheVariants.{Refused, Read, Write, NoMemory}
use Rattle.collector.specs.Messages.{after, each, message_at}
use Rattle.collector.specs.Causes.{ReadFailedAt, IsNextOf, IsStop, ReadCause, IsOfInput, IsNoFault}
use Rattle.collector.specs.RunSteps.{IsComputed, OnlyReads, IsRead}
use Rattle.collector.proofs.Each.{Names, is_first, caused_at}

-- ---- what is wanted, where a map is told

value_then : {A B : Type 0} (want : Result A Stop) (next : A → Result B Stop) (a : A) (b : B) → want ≡ Ok a → next a ≡ Ok b → after want next ≡ Ok b
value_then want next a b e h = rw e h

stop_then : {A B : Type 0} (want : Result A Stop) (next : A → Result B Stop) (a : A) (stop : Stop) → want ≡ Ok a → IsStop (next a) stop → IsStop (after want next) stop
stop_then want next a stop e h = rw e h

value_after : {A B : Type 0} (told : Option FileMap) (want : FileMap → Result A Stop) (next : A → Result B Stop) (a : A) (b : B)
    → IfSome told (λ m. want m ≡ Ok a) → next a ≡ Ok b → IfSome told (λ m. after (want m) next ≡ Ok b)
value_after None want next a b e h = tt
value_after (Some m) want next a b e h = value_then (want m) next a b e h

stop_after : {A B : Type 0} (told : Option FileMap) (want : FileMap → Result A Stop) (next : A → Result B Stop) (a : A) (stop : Stop)
    → IfSome told (λ m. want m ≡ Ok a) → IsStop (next a) stop → IfSome told (λ m. IsStop (after (want m) next) stop)
stop_after None want next a stop e h = tt
stop_after (Some m) want next a stop e h = stop_then (want m) next a stop e h

still_stopped : {A B : Type 0} (want : Result A Stop) (next : A → Result B Stop) (stop : Stop) → IsStop want stop → IsStop (after want next) stop
still_stopped want next (Refused refusal) e = rw e refl
still_stopped want next (Read name) e = tt
still_stopped want next (Write name) e = tt
still_stopped want next NoMemory e = tt

stop_stays : {A B : Type 0} (told : Option FileMap) (want : FileMap → Result A Stop) (next : A → Result B Stop) (stop : Stop)
    → IfSome told (λ m. IsStop (want m) stop) → IfSome told (λ m. IsStop (after (want m) next) stop)
stop_stays None want next stop h = tt
stop_stays (Some m) want next stop h = still_stopped (want m) next stop h

pub free : (told : Option FileMap) → IfSome told (λ m. Unit {0})
free None = tt
free (Some m) = tt

-- ---- a stop of what was read

pub of_reading : (names : Names) (told : Option FileMap) (failed : List ℕ → Type 0) (stop : Stop) → IsOfInput stop → ReadCause names told failed stop
of_reading names told failed (Refused refusal) h = h
of_reading names told failed (Read name) h = absurd h
of_reading names told failed (Write name) h = h
of_reading names told failed NoMemory h = tt

pub no_fault : (stop : Stop) → IsOfInput stop → IsNoFault stop
no_fault (Refused refusal) h = tt
no_fault (Read name) h = h
no_fault (Write name) h = h
no_fault NoMemory h = tt

-- ---- the laws

-- the read of a file failed, and it is named
pub read_failed : {S T : Type 0} (F : OfFiles S) (old new : S) (name copy : List ℕ) (want : FileMap → Result T Stop)
    → copy ≡ name → F.told new ≡ F.told old → ReadFailedAt F old new name → F.write_faults new ≡ F.write_faults old → (F.sound old → F.sound new × ⊥)
    → IsRead F old new (name ∷ []) want (Err (Read copy))
read_failed F old new name copy want e same failed writes sound = record {
  ok = tt;
  stopped = free (F.told old);
  reads = record {
    same = same;
    cause = subst (λ (n : List ℕ). IsNextOf (name ∷ []) (F.told old) n × ReadFailedAt F old new n) (sym e) (is_first (F.told old) name, failed);
    later = failed.1.0;
    writes = writes;
    sound = sound;
  };
}

-- files are read, and the rest is computed from them
pub computed_after : {S A B : Type 0} (F : OfFiles S) (old new : S) (names : Names) (want : FileMap → Result A Stop) (next : A → Result B Stop) (a : A) (r : Result B Stop)
    → IsRead F old new names want (Ok a) → IsComputed (next a) r → IsRead F old new names (λ m. after (want m) next) r
computed_after F old new names want next a (Ok b) first rest = record {
  ok = value_after (F.told old) want next a b first.ok rest.ok;
  stopped = tt;
  reads = record { same = first.reads.same; cause = tt; later = first.reads.later; writes = first.reads.writes; sound = λ h. ((first.reads.sound h).0, tt) };
}
computed_after F old new names want next a (Err stop) first rest = record {
  ok = tt;
  stopped = stop_after (F.told old) want next a stop first.ok rest.stopped;
  reads = record {
    same = first.reads.same;
    cause = of_reading names (F.told old) (ReadFailedAt F old new) stop rest.cause;
    later = first.reads.later;
    writes = first.reads.writes;
    sound = λ h. ((first.reads.sound h).0, no_fault stop rest.cause);
  };
}

-- a read stopped, and nothing more is done
pub stopped_at_read : {S A B : Type 0} (F : OfFiles S) (old new : S) (names : Names) (want : FileMap → Result A Stop) (next : A → Result B Stop) (stop : Stop)
    → IsRead F old new names want (Err stop) → IsRead F old new names (λ m. after (want m) next) (Err stop)
stopped_at_read F old new names want next stop first = record {
  ok = tt;
  stopped = stop_stays (F.told old) want next stop first.stopped;
  reads = record { same = first.reads.same; cause = first.reads.cause; later = first.reads.later; writes = first.reads.writes; sound = first.reads.sound };
}

-- more is read, and a value is there
pub read_more : {S A B C : Type 0} (F : OfFiles S) (old now new : S) (names more all : Names) (a : A) (b : B) (c : C)
    → OnlyReads F old now names (Ok a) → OnlyReads F now new more (Ok b) → OnlyReads F old new all (Ok c)
read_more F old now new names more all a b c first rest = record {
  same = rest.same ∙ first.same;
  cause = tt;
  later = omega (arith, first.later, rest.later);
  writes = rest.writes ∙ first.writes;
  sound = λ h. ((rest.sound (first.sound h).0).0, tt);
}

-- the file at i is read after those before it, which are accepted, and that stops
pub read_stops : {S A B C : Type 0} (F : OfFiles S) (old now new : S) (names : Names) (i : ℕ) (name : List ℕ) (a : A) (stop : Stop) → i < length names → name ≡ get_or names i name
    → OnlyReads F old now (take i names) (Ok a) → IfSome (F.told old) (λ m. IsOk (each (message_at m) (take i names)))
    → OnlyReads {T = B} F now new (name ∷ []) (Err stop) → OnlyReads {T = C} F old new names (Err stop)
read_stops F old now new names i name a stop lt is first accepted last = record {
  same = last.same ∙ first.same;
  cause = caused_at (F.told old) (F.told now) (ReadFailedAt F now new) (ReadFailedAt F old new) names i name stop lt is accepted
      (λ n h. (h.0, omega (arith, h.1, first.later, last.later))) last.cause;
  later = omega (arith, first.later, last.later);
  writes = last.writes ∙ first.writes;
  sound = λ h. last.sound (first.sound h).0;
}

-- memory runs out after reads
pub out_of_memory : {S A B C : Type 0} (F : OfFiles S) (old now new : S) (names more all : Names) (want : FileMap → Result C Stop) (a : A) (b : B)
    → OnlyReads F old now names (Ok a) → OnlyReads F now new more (Ok b) → IsRead F old new all want (Err NoMemory)
out_of_memory F old now new names more all want a b first rest = record {
  ok = tt;
  stopped = free (F.told old);
  reads = record {
    same = rest.same ∙ first.same;
    cause = tt;
    later = omega (arith, first.later, rest.later);
    writes = rest.writes ∙ first.writes;
    sound = λ h. ((rest.sound (first.sound h).0).0, tt);
  };
}
