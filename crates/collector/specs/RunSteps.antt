-- What the steps of a run promise of their results, of the files and of the standard output. `F` holds the words of the files,
-- such as `F.told`, and `O` those of the standard output.
use Rattle.std.specs.Prelude.{◌≡◌, ◌≤◌, ℕ, List, Result, Ok, Err, OnOk, IfOk, IfErr, IfSome}
use Rattle.outside.specs.FileMap.{FileMap, with_file}
use Rattle.outside.specs.Streams.{appended}
use Rattle.outside.specs.declared.files.Files.{Ghosts as OfFiles}
use Rattle.outside.specs.declared.sink.Sink.{Ghosts as OfSink}
use Rattle.commands.specs.Plan.{inputs, HasTargets}
use Rattle.commands.specs.declared.words.ToolPlan.{ToolPlan}
use Rattle.collector.specs.declared.output.Output.{Output}
use Rattle.collector.specs.declared.stop.Stop.{Stop}
use Rattle.collector.specs.Answer.{performed, KeepsMeaning}
use Rattle.collector.specs.Causes.{ReadFailedAt, WriteFailedAt, IsStop, ReadCause, IsOfInput, IsNoFault, IsWriteAt, IsWriteOf, HasWriteCause}
use Rattle.collector.specs.Delivery.{put_files, names_of, seen, FileLeft, FilesLeft, OutputLeft}

-- The step only computes: its result is the wanted one, or it is out of memory.
pub record IsComputed {T : Type 0} (want result : Result T Stop) : Type 0 where
  pub ok : IfOk result (λ value. want ≡ Ok value)
  pub stopped : IfErr result (IsStop want)
  pub cause : IfErr result IsOfInput

-- The step reads these files, in order, and nothing is written. A fault comes only where the read of one of them failed, after
-- others that are accepted, and names it. Over sound files none comes.
pub record OnlyReads {S T : Type 0} (F : OfFiles S) (old new : S) (names : List (List ℕ)) (result : Result T Stop) : Type 0 where
  pub same : F.told new ≡ F.told old
  pub cause : IfErr result (ReadCause names (F.told old) (ReadFailedAt F old new))
  pub later : F.read_faults old ≤ F.read_faults new
  pub writes : F.write_faults new ≡ F.write_faults old
  pub sound : F.sound old → F.sound new × IfErr result IsNoFault

-- The step reads these files and computes: its result is the one that is wanted of the map, where the files are told.
pub record IsRead {S T : Type 0} (F : OfFiles S) (old new : S) (names : List (List ℕ)) (want : FileMap → Result T Stop) (result : Result T Stop) : Type 0 where
  pub ok : IfOk result (λ value. IfSome (F.told old) (λ m. want m ≡ Ok value))
  pub stopped : IfErr result (λ stop. IfSome (F.told old) (λ m. IsStop (want m) stop))
  pub reads : OnlyReads F old new names result

-- The step computes: its result is of a value that is wanted, of which this holds, or its stop is the wanted one.
abbrev pub ComputesTo : {A T : Type 0} → Result A Stop → (A → T → Type 0) → Result T Stop → Type 0
ComputesTo {A = A} want holds (Ok value) = (a : A) × IsComputed want (Ok a) × holds a value
ComputesTo {A = A} want holds (Err stop) = IsComputed {T = A} want (Err stop)

-- The same of a step that reads these files.
abbrev pub ReadsTo : {S A T : Type 0} → OfFiles S → S → S → List (List ℕ) → (FileMap → Result A Stop) → (A → T → Type 0) → Result T Stop → Type 0
ReadsTo {A = A} F old new names want holds (Ok value) = (a : A) × IsRead F old new names want (Ok a) × holds a value
ReadsTo {A = A} F old new names want holds (Err stop) = IsRead {T = A} F old new names want (Err stop)

-- The plan is performed: its files are read, and the output, which keeps what its command promises, has the plan's targets.
pub record IsPerformed {S : Type 0} (F : OfFiles S) (old new : S) (plan : ToolPlan) (result : Result Output Stop) : Type 0 where
  pub read : IsRead F old new (inputs plan) (performed plan) result
  pub kept : IfOk result (λ output. IfSome (F.told old) (λ m. KeepsMeaning plan m output))
  pub targets : IfOk result (λ output. HasTargets plan (names_of output.files))

-- The file is written, or its write failed and only it is untold. Over sound files none fails.
pub record IsWritten {S T : Type 0} (F : OfFiles S) (old new : S) (name bytes : List ℕ) (result : Result T Stop) : Type 0 where
  pub ok : OnOk result (F.told new ≡ with_file name bytes (F.told old))
  pub named : IfErr result (IsWriteAt name (F.write_failed new))
  pub left : IfErr result (FileLeft name (F.told old) (F.told new) (F.write_faults old) (F.write_faults new))
  pub later : F.write_faults old ≤ F.write_faults new
  pub sound : F.sound old → F.sound new × IfErr result IsNoFault

-- The files are written in order, up to the first whose write failed. Over sound files none fails.
pub record AreWritten {S T : Type 0} (F : OfFiles S) (old new : S) (files : List (List ℕ × List ℕ)) (result : Result T Stop) : Type 0 where
  pub ok : OnOk result (F.told new ≡ put_files files (F.told old))
  pub named : IfErr result (IsWriteOf (names_of files) (F.write_failed new))
  pub left : IfErr result (FilesLeft files (F.told old) (F.told new) (F.write_faults old) (F.write_faults new))
  pub later : F.write_faults old ≤ F.write_faults new
  pub sound : F.sound old → F.sound new × IfErr result IsNoFault

-- The output is written: its files in order, and then its lines. A fault names the write that failed, and what was written
-- before it stays. Over sound files and a sound `out` none comes.
pub record IsDelivered {S P T : Type 0} (F : OfFiles S) (O : OfSink P) (old new : S) (out out' : P) (output : Output) (result : Result T Stop) : Type 0 where
  pub files : OnOk result (F.told new ≡ put_files output.files (F.told old))
  pub lines : OnOk result (O.taken out' ≡ appended (O.taken out) output.lines)
  pub left : IfErr result (OutputLeft output (seen F O old out) (seen F O new out'))
  pub named : IfErr result (HasWriteCause (names_of output.files) (WriteFailedAt F old new) (O.faults out) (O.faults out'))
  pub later : F.write_faults old ≤ F.write_faults new
  pub sound : F.sound old → O.sound out → F.sound new × O.sound out' × IfErr result IsNoFault
