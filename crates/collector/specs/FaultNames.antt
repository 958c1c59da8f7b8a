-- What a run that failed at a device names, whether or not its line was taken. `F` holds the words of the files, `O` those of
-- the standard output and `E` those of the standard error.
use Rattle.std.specs.Prelude.{◌≡◌, ℕ, List, IsOkAnd, IfSome}
use Rattle.outside.specs.Causes.{Rose}
use Rattle.outside.specs.Streams.{appended}
use Rattle.outside.specs.declared.files.Files.{Ghosts as OfFiles}
use Rattle.outside.specs.declared.sink.Sink.{Ghosts as OfSink}
use Rattle.commands.specs.Plan.{planned, inputs}
use Rattle.collector.specs.Answer.{outcome}
use Rattle.collector.specs.Causes.{ReadFailedAt, WriteFailedAt, IsNextOf, IsTarget, WriteCause}
use Rattle.collector.specs.Delivery.{seen, FailedDelivery}
use Rattle.collector.specs.Lines.{read_text, write_text}

-- where no fault of `err` was counted, it took this line
abbrev pub TookLine : {P : Type 0} → OfSink P → P → P → List ℕ → Type 0
TookLine E err err' line = ¬ (Rose (E.faults err) (E.faults err')) → E.taken err' ≡ appended (E.taken err) line

-- A file that the command line names was not read. Those before it hold messages that are accepted, its read failed, and the
-- line names it.
pub record FailedRead {S P : Type 0} (F : OfFiles S) (E : OfSink P) (words : List (List ℕ)) (files files' : S) (err err' : P) : Type 0 where
  pub name : List ℕ
  pub next : IsOkAnd (planned words) (λ plan. IsNextOf (inputs plan) (F.told files) name)
  pub failed : ReadFailedAt F files files' name
  pub line : TookLine E err err' (read_text name)

-- A file of the output, or the standard output, was not written. It is the one whose write failed, and the line names it.
pub record FailedWrite {S P Q : Type 0} (F : OfFiles S) (O : OfSink P) (E : OfSink Q) (words : List (List ℕ)) (files files' : S) (out out' : P) (err err' : Q) : Type 0 where
  pub name : List ℕ
  pub cause : IsOkAnd (planned words) (λ plan. WriteCause (IsTarget plan) (WriteFailedAt F files files') (O.faults out) (O.faults out') name)
  pub left : IfSome (F.told files) (λ m. FailedDelivery (outcome words m) (seen F O files out) (seen F O files' out') name)
  pub line : TookLine E err err' (write_text name)
