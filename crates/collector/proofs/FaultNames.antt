-- What a run that ends at a failed write names.
use Rattle.std.proofs.Common.{◌≡◌, ◌≢◌, ◌<◌, ℕ, List, inl, inr, Option, Result, Ok, IfSome, arith}
use Rattle.outside.specs.FileMap.{FileMap}
use Rattle.outside.specs.declared.files.Files.{Ghosts as OfFiles}
use Rattle.outside.specs.declared.sink.Sink.{Ghosts as OfSink}
use Rattle.commands.specs.Plan.{planned, HasTargets}
use Rattle.commands.specs.declared.words.ToolPlan.{ToolPlan}
use Rattle.commands.specs.declared.words.WordRefusal.{WordRefusal}
use Rattle.collector.specs.declared.output.Output.{Output}
use Rattle.collector.specs.declared.stop.Stop.{Stop}
use Rattle.collector.specs.declared.stop.Stop.TheVariants.{Refused, Read, Write, NoMemory}
use Rattle.collector.specs.declared.stop.ToolRefusal.{ToolRefusal}
use Rattle.collector.specs.declared.stop.ToolRefusal.TheVariants.{Words, File, Limit}
use Rattle.collector.specs.Answer.{outcome}
use Rattle.collector.specs.Causes.{ReadFailedAt, WriteFailedAt, IsOneOf, IsTarget, WriteCause, HasWriteCause, FaultCause}
use Rattle.collector.specs.Delivery.{Seen, seen, names_of, OutputLeft, LeftAtWrite}
use Rattle.collector.specs.Lines.{status_of, refusal_status, line_of}
use Rattle.collector.specs.FaultNames.{TookLine, FailedWrite}

-- a name of the output's files is a target of the plan
as_target : (plan : ToolPlan) (names : List (List ℕ)) (failed failed' : List ℕ → Type 0) (out out' : ℕ) (name : List ℕ)
    → HasTargets plan names → ((n : List ℕ) → failed n → failed' n) → WriteCause (IsOneOf names) failed out out' name → WriteCause (IsTarget plan) failed' out out' name
as_target plan names failed failed' out out' name are also (inl (one, at)) = inl (record { names = names; are = are; one = one }, also name at)
as_target plan names failed failed' out out' name are also (inr stdout) = inr stdout

-- a stop at the delivery of a plan's output has a cause
pub fault_at_write : {S P : Type 0} (F : OfFiles S) (O : OfSink P) (want : Result ToolPlan WordRefusal) (plan : ToolPlan) (output : Output) (told : Option FileMap) (reads : List ℕ → Type 0)
    (before now : Seen) (old mid new : S) (out out' : P) (stop : Stop)
    → want ≡ Ok plan → HasTargets plan (names_of output.files) → F.write_faults mid ≡ F.write_faults old
    → HasWriteCause (names_of output.files) (WriteFailedAt F mid new) (O.faults out) (O.faults out') stop → OutputLeft output before now stop
    → FaultCause want told reads (WriteFailedAt F old new) (O.faults out) (O.faults out') stop
fault_at_write F O want plan output told reads before now old mid new out out' (Refused refusal) e are same cause left = tt
fault_at_write F O want plan output told reads before now old mid new out out' (Read name) e are same cause left = absurd left
fault_at_write F O want plan output told reads before now old mid new out out' (Write name) e are same cause left =
    rw e (as_target plan (names_of output.files) (WriteFailedAt F mid new) (WriteFailedAt F old new) (O.faults out) (O.faults out') name are
    (λ n h. (h.0, omega (arith, h.1, same))) cause)
fault_at_write F O want plan output told reads before now old mid new out out' NoMemory e are same cause left = tt

-- no refusal has the status of a failed write
refusal_is_low : (r : ToolRefusal) → refusal_status r < 8
refusal_is_low (Words place reason) = omega arith
refusal_is_low (File name text) = omega arith
refusal_is_low (Limit size) = omega arith

not_seven : (n : ℕ) → n ≡ 8 → n ≢ 7
not_seven n e f = omega (arith, e, f)

-- after 8 the stop was a failed write, and what was told of it holds
pub write_named : {S P Q : Type 0} (F : OfFiles S) (O : OfSink P) (E : OfSink Q) (words : List (List ℕ)) (files files' : S) (out out' : P) (err err' : Q) (result : ℕ) (stop : Stop)
    → (result ≢ 7 → result ≡ status_of stop) → (result ≢ 7 → TookLine E err err' (line_of stop))
    → FaultCause (planned words) (F.told files) (ReadFailedAt F files files') (WriteFailedAt F files files') (O.faults out) (O.faults out') stop
    → IfSome (F.told files) (λ m. LeftAtWrite (outcome words m) (seen F O files out) (seen F O files' out') stop)
    → result ≡ 8 → FailedWrite F O E words files files' out out' err err'
write_named F O E words files files' out out' err err' result (Write name) status line fault left is8 = record {
  name = name;
  cause = fault;
  left = left;
  line = line (not_seven result is8);
}
write_named F O E words files files' out out' err err' result (Refused refusal) status line fault left is8 =
    absurd (omega (arith, status (not_seven result is8), is8, refusal_is_low refusal))
write_named F O E words files files' out out' err err' result (Read name) status line fault left is8 =
    absurd (omega (arith, status (not_seven result is8), is8))
write_named F O E words files files' out out' err err' result NoMemory status line fault left is8 =
    absurd (omega (arith, status (not_seven result is8), is8))
