-- Files whose bytes are kept before the messages in them are read.
use Rattle.std.specs.Prelude.{◌≡◌, ◌⊎◌, ℕ, List, [], ◌∷◌, ◌++◌, map, Option, Some, None, Result, Ok, Err, IsOk}
use Rattle.outside.specs.declared.files.Files.{Ghosts as OfFiles}
use Rattle.otlp_msg.specs.Message.{Message, message_of}
use Rattle.collector.specs.declared.kept.KeptFile.{KeptFile}
use Rattle.collector.specs.declared.kept.KeptFiles.{KeptFiles}
use Rattle.collector.specs.declared.stop.Stop.{Stop}
use Rattle.collector.specs.Causes.{IsStop, IsOfInput}
use Rattle.collector.specs.Messages.{accepted, bytes_at, each}
use Rattle.collector.specs.RunSteps.{IsRead}

abbrev pub kept_file : List ℕ → List ℕ → KeptFile
kept_file name body = record { name = name; body = body }

abbrev pub names_kept : List KeptFile → List (List ℕ)
names_kept files = map (λ f. f.name) files

abbrev pub bodies_kept : List KeptFile → List (List ℕ)
bodies_kept files = map (λ f. f.body) files

-- the message in a file, or the stop at its refusal
abbrev pub message_in : KeptFile → Result Message Stop
message_in f = accepted f.name (message_of f.body)

-- the files under these names are read, and their bytes are kept
pub record AreKept {S : Type 0} (F : OfFiles S) (old new : S) (names : List (List ℕ)) (files : List KeptFile) : Type 0 where
  pub named : names_kept files ≡ names
  pub read : IsRead F old new names (λ m. each (bytes_at m) names) (Ok (bodies_kept files))

-- some of the first files are kept, and the next one stopped
pub record StopsAfter {S : Type 0} (F : OfFiles S) (old new : S) (names : List (List ℕ)) (files : List KeptFile) (stop : Stop) : Type 0 where
  pub before : List (List ℕ)
  pub name : List ℕ
  pub later : List (List ℕ)
  pub is : names ≡ before ++ name ∷ later
  pub between : S
  pub kept : AreKept F old between before files
  pub stopped : IsRead {T = List ℕ} F between new (name ∷ []) (λ m. bytes_at m name) (Err stop)

-- the files under these names are kept, up to the first that stopped, if one did
abbrev pub EndsWith : {S : Type 0} → OfFiles S → S → S → List (List ℕ) → List KeptFile → Option Stop → Type 0
EndsWith F old new names kept None = AreKept F old new names kept
EndsWith F old new names kept (Some stop) = StopsAfter F old new names kept stop

abbrev pub IsKept : {S : Type 0} → OfFiles S → S → S → List (List ℕ) → KeptFiles → Type 0
IsKept F old new names kept = EndsWith F old new names kept.files kept.stop

-- the stop is that of the first file that is refused; or no file is, and it is the one that was there before
abbrev pub IsFirstStop : List KeptFile → Option Stop → Stop → Type 0
IsFirstStop files before stop =
    (IsStop (each message_in files) stop × IsOfInput stop)
    ⊎ (IsOk (each message_in files) × (before ≡ Some stop))
