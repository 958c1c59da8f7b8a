-- What is promised where a plan is carried out: its output is computed, and written. `F` holds the words of the files, and `O`
-- those of the standard output.
use Rattle.std.specs.Prelude.{◌≡◌, ◌⊎◌, Result, Ok, Err}
use Rattle.outside.specs.declared.files.Files.{Ghosts as OfFiles}
use Rattle.outside.specs.declared.sink.Sink.{Ghosts as OfSink}
use Rattle.commands.specs.declared.words.ToolPlan.{ToolPlan}
use Rattle.collector.specs.declared.output.Output.{Output}
use Rattle.collector.specs.declared.stop.Stop.{Stop}
use Rattle.collector.specs.RunSteps.{IsPerformed, IsDelivered}

-- The output, if there is one, is delivered. A stop in its place stays, and nothing is written.
abbrev pub Delivers : {S P T : Type 0} → OfFiles S → OfSink P → S → S → P → P → Result Output Stop → Result T Stop → Type 0
Delivers F O old new out out' (Ok output) result = IsDelivered F O old new out out' output result
Delivers F O old new out out' (Err stop) result = (result ≡ Err stop) × (new ≡ old) × (out' ≡ out)

-- `out` took nothing, and no failure of it was counted
pub record TookNothing {P : Type 0} (O : OfSink P) (out out' : P) : Type 0 where
  pub taken : O.taken out' ≡ O.taken out
  pub faults : O.faults out' ≡ O.faults out
  pub sound : O.sound out → O.sound out'

-- The plan is performed with an output, over files that are only read so far, and the output is delivered.
pub record GivesOutput {S P T : Type 0} (F : OfFiles S) (O : OfSink P) (old new : S) (out out' : P) (plan : ToolPlan) (result : Result T Stop) : Type 0 where
  pub mid : S
  pub output : Output
  pub performed : IsPerformed F old mid plan (Ok output)
  pub delivered : IsDelivered F O mid new out out' output result

-- The plan is performed up to this stop, and nothing is written.
pub record GivesStop {S P : Type 0} (F : OfFiles S) (O : OfSink P) (old new : S) (out out' : P) (plan : ToolPlan) (stop : Stop) : Type 0 where
  pub performed : IsPerformed F old new plan (Err stop)
  pub nothing : TookNothing O out out'

-- The plan is carried out. There is an output and it is written; or there is a stop in its place, or at a write of it.
abbrev pub IsCarried : {S P T : Type 0} → OfFiles S → OfSink P → S → S → P → P → ToolPlan → Result T Stop → Type 0
IsCarried F O old new out out' plan (Ok done) = GivesOutput F O old new out out' plan (Ok done)
IsCarried {T = T} F O old new out out' plan (Err stop) = GivesOutput {T = T} F O old new out out' plan (Err stop) ⊎ GivesStop F O old new out out' plan stop
