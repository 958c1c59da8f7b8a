-- What a pen and its sink are after a text was put.
use Rattle.std.specs.Prelude.{◌≡◌, ◌≤◌, ℕ, List, ◌++◌, length, take, drop, Option, Some, None}
use Rattle.outside.specs.Causes.{Rose}
use Rattle.outside.specs.Streams.{appended, TookPrefix}
use Rattle.outside.specs.declared.fault.IoFault.{IoFault}
use Rattle.outside.specs.declared.fault.IoFault.TheVariants.{Failed, NoMemory}
use Rattle.outside.specs.declared.sink.Sink.{Ghosts as OfSink}

-- a pen: the bytes that wait to be written, and why nothing more is written, if so
pub record PenState : Type 0 where
  pub waiting : List ℕ
  pub stop : Option IoFault

-- a pen with its sink: the bytes that this took, and how many of its calls failed
pub record Place : Type 0 where
  pub pen : PenState
  pub taken : Option (List ℕ)
  pub faults : ℕ

abbrev pub place : {S : Type 0} → OfSink S → PenState × S → Place
place S p = record { pen = p.0; taken = S.taken p.1; faults = S.faults p.1 }

-- the sink took a part of the text from its front, and the rest waits
pub record Moved (text : List ℕ) (taken taken' : Option (List ℕ)) (waiting : List ℕ) : Type 0 where
  pub count : ℕ
  pub within : count ≤ length text
  pub took : taken' ≡ appended taken (take count text)
  pub waits : waiting ≡ drop count text

-- what became of a text: all of it was taken or waits; or the write stopped, and not all of it was taken
abbrev pub Went : Option IoFault → List ℕ → Place → Place → Type 0
Went None text old new = Moved text old.taken new.taken new.pen.waiting × (new.faults ≡ old.faults)
Went (Some Failed) text old new = TookPrefix text old.taken new.taken × Rose old.faults new.faults
Went (Some NoMemory) text old new = TookPrefix text old.taken new.taken × (new.faults ≡ old.faults)

-- a text was put: it comes after what waits; a pen that has stopped writes nothing more
abbrev pub PutFrom : Option IoFault → List ℕ → Place → Place → Type 0
PutFrom None text old new = Went new.pen.stop (old.pen.waiting ++ text) old new
PutFrom (Some fault) text old new = (new.pen.stop ≡ Some fault) × (new.taken ≡ old.taken) × (new.faults ≡ old.faults)

-- no write has failed
abbrev pub IsNotFailed : Option IoFault → Type 0
IsNotFailed None = Unit {0}
IsNotFailed (Some Failed) = ⊥
IsNotFailed (Some NoMemory) = Unit {0}

-- a text was put with a pen, which over a sound sink does not fail
pub record PenPuts {S : Type 0} (O : OfSink S) (old : PenState × S) (text : List ℕ) (new : PenState × S) : Type 0 where
  pub puts : PutFrom old.0.stop text (place O old) (place O new)
  pub sound : O.sound old.1 → O.sound new.1 × (IsNotFailed old.0.stop → IsNotFailed new.0.stop)

abbrev pub EndedBy : Option IoFault → List ℕ → IoFault → Option (List ℕ) → Option (List ℕ) → ℕ → ℕ → Type 0
EndedBy (Some stop) waiting fault taken taken' faults faults' = (fault ≡ stop) × (taken' ≡ taken) × (faults' ≡ faults)
EndedBy None waiting Failed taken taken' faults faults' = TookPrefix waiting taken taken' × Rose faults faults'
EndedBy None waiting NoMemory taken taken' faults faults' = TookPrefix waiting taken taken' × (faults' ≡ faults)

-- a pen did not write all that waits: either it had stopped before, or this write failed
abbrev pub Ended : PenState → IoFault → Option (List ℕ) → Option (List ℕ) → ℕ → ℕ → Type 0
Ended pen fault taken taken' faults faults' = EndedBy pen.stop pen.waiting fault taken taken' faults faults'
