-- What commands write.
use Rattle.std.specs.Prelude.{◌≡◌, ℕ, List, [], ◌∷◌, length, Result, Ok, Err, IfOk, IfErr}
use Rattle.std.specs.List.{flat_map}
use Rattle.draft_contents.specs.declared.fault.BuildFault.{BuildFault}
use Rattle.draft_contents.specs.declared.fault.BuildFault.TheVariants as build
use Rattle.split_merge.specs.Canonical.{IsBuildFault}
use Rattle.collector.specs.declared.output.Output.{Output}
use Rattle.collector.specs.declared.stop.ToolRefusal.TheVariants.{Limit}
use Rattle.collector.specs.declared.stop.Stop.{Stop}
use Rattle.collector.specs.declared.stop.Stop.TheVariants.{Refused, NoMemory}
use Rattle.collector.specs.Lines.{wrote_text}
use Rattle.collector.specs.Messages.{after}

-- one file, and the line that it was written
abbrev pub one_file : List ℕ → List ℕ → Output
one_file target bytes = record { files = (target, bytes) ∷ []; lines = wrote_text target (length bytes) }

-- files, and the lines that they were written, one after the other
abbrev pub files_written : List (List ℕ × List ℕ) → Output
files_written files = record { files = files; lines = flat_map (λ f. wrote_text f.0 (length f.1)) files }

-- no file, and these lines
abbrev pub lines_alone : List ℕ → Output
lines_alone lines = record { files = []; lines = lines }

-- the stop at a fault
abbrev pub stop_of_fault : BuildFault → Stop
stop_of_fault (build.OutputLimit size) = Refused (Limit size)
stop_of_fault build.NoMemory = NoMemory

-- bytes that were built, or the stop at their size
abbrev pub built : Result (List ℕ) BuildFault → Result (List ℕ) Stop
built (Ok bytes) = Ok bytes
built (Err fault) = Err (stop_of_fault fault)

-- the same as one file
abbrev pub built_file : List ℕ → Result (List ℕ) BuildFault → Result Output Stop
built_file target bytes = after (built bytes) (λ bytes. Ok (one_file target bytes))

-- these bytes, or this fault in their place, are what is wanted; or it was out of memory
pub record IsBuilt (want result : Result (List ℕ) BuildFault) : Type 0 where
  pub ok : IfOk result (λ bytes. want ≡ Ok bytes)
  pub refused : IfErr result (IsBuildFault want)
