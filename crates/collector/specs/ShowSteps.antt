-- What the steps of `show` promise. Its lines are written as they are found, and no output holds them.
use Rattle.std.specs.Prelude.{◌≡◌, ◌⊎◌, ℕ, List, codes, Option, Result, Ok, Err, OnOk, IfErr}
use Rattle.outside.specs.Causes.{Rose}
use Rattle.outside.specs.Streams.{appended, TookPrefix}
use Rattle.outside.specs.declared.sink.Sink.{Ghosts as OfSink}
use Rattle.collector.specs.declared.output.Output.{Output}
use Rattle.collector.specs.declared.stop.Stop.{Stop}
use Rattle.collector.specs.declared.stop.Stop.TheVariants.{Refused, Read, Write, NoMemory}
use Rattle.collector.specs.Carrying.{TookNothing}
use Rattle.collector.specs.Causes.{IsNoFault}
use Rattle.collector.specs.Outputs.{lines_alone}
use Rattle.collector.specs.RunSteps.{IsComputed}

-- what was taken of lines at a stop: a part of them from their front, but not all
abbrev pub LinesLeft : List ℕ → Option (List ℕ) → Option (List ℕ) → ℕ → ℕ → Stop → Type 0
LinesLeft lines old new faults faults' (Refused refusal) = ⊥
LinesLeft lines old new faults faults' (Read name) = ⊥
LinesLeft lines old new faults faults' (Write name) = (name ≡ codes "standard output") × TookPrefix lines old new × Rose faults faults'
LinesLeft lines old new faults faults' NoMemory = TookPrefix lines old new

-- The lines that are wanted, and no file, are written to `out`. Over a sound `out` no fault comes.
pub record GivesLines {P T : Type 0} (O : OfSink P) (out out' : P) (want : Result Output Stop) (result : Result T Stop) : Type 0 where
  pub lines : List ℕ
  pub wanted : want ≡ Ok (lines_alone lines)
  pub ok : OnOk result (O.taken out' ≡ appended (O.taken out) lines)
  pub left : IfErr result (LinesLeft lines (O.taken out) (O.taken out') (O.faults out) (O.faults out'))
  pub sound : O.sound out → O.sound out' × IfErr result IsNoFault

-- The stop is the one that is wanted, or out of memory, and nothing is written.
pub record GivesNone {P : Type 0} (O : OfSink P) (out out' : P) (want : Result Output Stop) (stop : Stop) : Type 0 where
  pub computed : IsComputed want (Err stop)
  pub nothing : TookNothing O out out'

-- The lines that are wanted are written; or there is a stop in their place, or at a write of them.
abbrev pub IsStreamed : {P T : Type 0} → OfSink P → P → P → Result Output Stop → Result T Stop → Type 0
IsStreamed O out out' want (Ok done) = GivesLines O out out' want (Ok done)
IsStreamed {T = T} O out out' want (Err stop) = GivesLines {T = T} O out out' want (Err stop) ⊎ GivesNone O out out' want stop
