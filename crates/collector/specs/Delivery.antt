-- What is written of an output, wholly or in part.
use Rattle.std.specs.Prelude.{◌≡◌, ◌≢◌, ◌⊎◌, ℕ, List, [], ◌∷◌, codes, map, take, drop, Option, Some, Result, Ok, Err}
use Rattle.outside.specs.Causes.{Rose}
use Rattle.outside.specs.FileMap.{FileMap, with_file, SameBut}
use Rattle.outside.specs.Streams.{appended, TookPrefix}
use Rattle.outside.specs.declared.files.Files.{Ghosts as OfFiles}
use Rattle.outside.specs.declared.sink.Sink.{Ghosts as OfSink}
use Rattle.collector.specs.declared.output.Output.{Output}
use Rattle.collector.specs.declared.stop.Stop.{Stop}
use Rattle.collector.specs.declared.stop.Stop.TheVariants.{Refused, Read, Write, NoMemory}

-- what is told of the files and of `out`, and how often a write of each has failed
pub record Seen : Type 0 where
  pub told : Option FileMap
  pub write_faults : ℕ
  pub taken : Option (List ℕ)
  pub out_faults : ℕ

-- that of these files and this `out`
abbrev pub seen : {S P : Type 0} → OfFiles S → OfSink P → S → P → Seen
seen F O files out = record { told = F.told files; write_faults = F.write_faults files; taken = O.taken out; out_faults = O.faults out }

-- the files put in order, where a map is told
abbrev pub put_files : List (List ℕ × List ℕ) → Option FileMap → Option FileMap
put_files [] told = told
put_files (f ∷ fs) told = put_files fs (with_file f.0 f.1 told)

-- the names of files
abbrev pub names_of : List (List ℕ × List ℕ) → List (List ℕ)
names_of files = map (λ f. f.0) files

-- the bytes of files
abbrev pub bytes_of : List (List ℕ × List ℕ) → List (List ℕ)
bytes_of files = map (λ f. f.1) files

-- the first of these files has this name and is untold, and every other name is as before
abbrev pub FirstUntold : List ℕ → List (List ℕ × List ℕ) → Option FileMap → Option FileMap → Type 0
FirstUntold name [] old new = ⊥
FirstUntold name (f ∷ fs) old new = (name ≡ f.0) × SameBut f.0 old new

-- some of the first files are written, and nothing else
pub record SomeWritten (files : List (List ℕ × List ℕ)) (old new : Option FileMap) : Type 0 where
  pub done : ℕ
  pub is : new ≡ put_files (take done files) old

-- the count of failed writes rose: the files before the one of this name are written, and this name alone is untold
pub record FailedAtFile (files : List (List ℕ × List ℕ)) (name : List ℕ) (old new : Option FileMap) (faults faults' : ℕ) : Type 0 where
  pub done : ℕ
  pub untold : FirstUntold name (drop done files) (put_files (take done files) old) new
  pub rose : Rose faults faults'

-- the same of one of the files
pub record FailedAtSome (files : List (List ℕ × List ℕ)) (old new : Option FileMap) (faults faults' : ℕ) : Type 0 where
  pub name : List ℕ
  pub failed : FailedAtFile files name old new faults faults'

-- all files are written, and `out` took a prefix of the lines
pub record AllFiles (output : Output) (before now : Seen) : Type 0 where
  pub files : now.told ≡ put_files output.files before.told
  pub lines : TookPrefix output.lines before.taken now.taken

-- nothing was written
pub record Untouched (before now : Seen) : Type 0 where
  pub told : now.told ≡ before.told
  pub taken : now.taken ≡ before.taken

-- A write of the output failed, and this is its name. Either it was that of a file, and `out` took nothing; or it was that of
-- the standard output: all files are written, and the count of `out` rose.
abbrev pub WriteFailed : Output → Seen → Seen → List ℕ → Type 0
WriteFailed output before now name =
    (FailedAtFile output.files name before.told now.told before.write_faults now.write_faults × (now.taken ≡ before.taken))
    ⊎ (name ≡ codes "standard output" × AllFiles output before now × Rose before.out_faults now.out_faults)

-- The output may be written in part. Either some of the first files are, the next is untold only where the count of failed
-- writes rose, and `out` took nothing; or all files are written, and `out` took a prefix of the lines.
abbrev pub Partly : Output → Seen → Seen → Type 0
Partly output before now =
    ((SomeWritten output.files before.told now.told ⊎ FailedAtSome output.files before.told now.told before.write_faults now.write_faults)
    × (now.taken ≡ before.taken))
    ⊎ AllFiles output before now

-- the output was written, over the files m
abbrev pub Delivered : Result Output Stop → FileMap → Option FileMap → Option (List ℕ) → Option (List ℕ) → Type 0
Delivered (Ok output) m told old new = (told ≡ put_files output.files (Some m)) × (new ≡ appended old output.lines)
Delivered (Err stop) m told old new = ⊥

-- there was an output, and a write of it failed, which this is the name of
abbrev pub FailedDelivery : Result Output Stop → Seen → Seen → List ℕ → Type 0
FailedDelivery (Ok output) before now name = WriteFailed output before now name
FailedDelivery (Err stop) before now name = ⊥

-- the output, where there was one, may be written in part
abbrev pub PartDelivered : Result Output Stop → Seen → Seen → Type 0
PartDelivered (Ok output) before now = Partly output before now
PartDelivered (Err stop) before now = Untouched before now

-- but for a failed write or out of memory, nothing was written
abbrev pub Unchanged : Stop → Seen → Seen → Type 0
Unchanged (Refused refusal) before now = Untouched before now
Unchanged (Read name) before now = Untouched before now
Unchanged (Write name) before now = Unit {0}
Unchanged NoMemory before now = Unit {0}

-- where the stop is a failed write, what it left
abbrev pub LeftAtWrite : Result Output Stop → Seen → Seen → Stop → Type 0
LeftAtWrite want before now (Refused refusal) = Unit {0}
LeftAtWrite want before now (Read name) = Unit {0}
LeftAtWrite want before now (Write name) = FailedDelivery want before now name
LeftAtWrite want before now NoMemory = Unit {0}

-- what the write of one file left at its stop
abbrev pub FileLeft : List ℕ → Option FileMap → Option FileMap → ℕ → ℕ → Stop → Type 0
FileLeft name old new faults faults' (Refused refusal) = ⊥
FileLeft name old new faults faults' (Read name') = ⊥
FileLeft name old new faults faults' (Write name') = (name' ≡ name) × SameBut name old new × Rose faults faults'
FileLeft name old new faults faults' NoMemory = (new ≡ old) ⊎ (SameBut name old new × Rose faults faults')

-- what the write of files left at its stop
abbrev pub FilesLeft : List (List ℕ × List ℕ) → Option FileMap → Option FileMap → ℕ → ℕ → Stop → Type 0
FilesLeft files old new faults faults' (Refused refusal) = ⊥
FilesLeft files old new faults faults' (Read name) = ⊥
FilesLeft files old new faults faults' (Write name) = FailedAtFile files name old new faults faults'
FilesLeft files old new faults faults' NoMemory = SomeWritten files old new ⊎ FailedAtSome files old new faults faults'

-- what the write of an output left at its stop
abbrev pub OutputLeft : Output → Seen → Seen → Stop → Type 0
OutputLeft output before now (Refused refusal) = ⊥
OutputLeft output before now (Read name) = ⊥
OutputLeft output before now (Write name) = WriteFailed output before now name
OutputLeft output before now NoMemory = Partly output before now

-- no failure of a read, of a write or of `out` was counted
pub record NoneCounted {S P : Type 0} (F : OfFiles S) (O : OfSink P) (old new : S) (out out' : P) : Type 0 where
  pub reads : ¬ (Rose (F.read_faults old) (F.read_faults new))
  pub writes : ¬ (Rose (F.write_faults old) (F.write_faults new))
  pub output : ¬ (Rose (O.faults out) (O.faults out'))

-- the status is of the answer: no fault, and not out of memory
pub record IsAnswered (status : ℕ) : Type 0 where
  pub no_read_fault : status ≢ 6
  pub memory : status ≢ 7
  pub no_write_fault : status ≢ 8
